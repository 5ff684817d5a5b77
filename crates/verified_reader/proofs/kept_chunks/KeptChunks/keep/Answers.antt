use Rattle.std.proofs.Common.{arith, ◌≡◌, ◌+◌, ◌^◌, ◌<◌, ◌≤◌, ℕ, List, length, refl, sym, ap, subst, ◌∙◌, inl, inr}
use Rattle.std.specs.Bool.{IsTrue}
use Rattle.verified_reader.specs.Kept.{Chunk, DropsOldest, IsFree, Keeps, MayBeKept}
use Rattle.verified_reader.specs.Steps.KeptChunks.{chunk_of}
use Rattle.verified_reader.proofs.InOrder.{some_then}
use Rattle.verified_reader.proofs.kept_chunks.KeptChunks.keep.Goals as goal
use Rattle.verified_reader.proofs.kept_chunks.KeptChunks.keep.Goals.{then-len-eq0-via-then-len-eq0, then-len-eq0-via-else-len-eq0+then-most-len, then-len-eq0-via-else-len-eq0+else-most-len+then-not-is_free}

pub returns-then-is_some-clause-kept : goal.returns-then-is_some-clause-kept
returns-then-is_some-clause-kept g c =
    let there = some_then c.chunk_at.result (sym c.is_some.ensures ∙ c.if-is_some.true) c.chunk_at.ensures.some in
    let chunk = chunk_of there.0.now in
    let begin : Chunk = record { begin = c.args.begin; bytes = c.args.bytes.items } in
    Keeps.stay (λ (may : MayBeKept c.args.most c.args.self.now begin). elim (may.free chunk there.1.0) [
      | inl before ↦ absurd (omega (arith, before, there.1.1.end))
      | inr after ↦ absurd (omega (arith, after, there.1.1.begin, may.some))
    ]) c.use_at.ensures

pub returns-in_default-clause-kept : goal.returns-in_default-clause-kept
returns-in_default-clause-kept g c =
    let len : c.len-len.result ≡ length c.args.bytes.items = omega (arith, c.len-len.ensures) in
    let past : 2 ^ 64 ≤ c.args.begin + length c.args.bytes.items = grind (arith, c.in_default.ensures, len) in
    Keeps.stay (λ may. absurd (omega (arith, past, may.ends))) (inr refl)

pub returns-then-len-eq0-clause-kept : goal.returns-then-len-eq0-clause-kept
returns-then-len-eq0-clause-kept g c =
    let len : c.len-len.result ≡ length c.args.bytes.items = omega (arith, c.len-len.ensures) in
    let end : c.in-Some.end ≡ c.args.begin + c.len-len.result = grind (arith, c.in-Some.ensures) in
    let end_too = end ∙ ap (λ (n : ℕ). c.args.begin + n) len in
    elim c.then-len-eq0.branch [
      | then-len-eq0-via-then-len-eq0 w ↦ let none = w.if-len-eq0.true in Keeps.stay (λ may. absurd (omega (arith, none, len, may.some))) (inr refl)
      | then-len-eq0-via-else-len-eq0+then-most-len w ↦ let past = w.if-most-len.true in Keeps.stay (λ may. absurd (omega (arith, past, len, may.counts))) (inr refl)
      | then-len-eq0-via-else-len-eq0+else-most-len+then-not-is_free w ↦
          let not = w.if-not-is_free.true in
          Keeps.stay (λ may.
          let yes : IsTrue w.is_free.result = w.is_free.ensures.1 (subst (λ (n : ℕ). IsFree c.args.self.now c.args.begin n) (sym end_too) may.free) in
          absurd (grind (arith, not, yes))) (inr refl)
    ]

pub returns-clause-kept : goal.returns-clause-kept
returns-clause-kept g c =
    let yes : IsTrue c.is_free.result = grind (arith, c.if-not-is_free.false) in
    let len : c.len-len.result ≡ length c.args.bytes.items = omega (arith, c.len-len.ensures) in
    let end : c.in-Some.end ≡ c.args.begin + c.len-len.result = grind (arith, c.in-Some.ensures) in
    let end_too = end ∙ ap (λ (n : ℕ). c.args.begin + n) len in
    let free = subst (λ (n : ℕ). IsFree c.args.self.now c.args.begin n) end_too (c.is_free.ensures.0 yes) in
    let some = c.if-len-eq0.false in
    let small = c.if-most-len.false in
    let fits : c.args.begin + c.len-len.result < 2 ^ 64 = grind (arith, c.in-Some.ensures) in
    Keeps.kept (record { some = omega (arith, some, len); counts = omega (arith, small, len); ends = omega (arith, fits, len); free = free }) (subst (λ (l : List Chunk). DropsOldest c.args.most l c.drop_oldest.new.self) c.in_ok-push.ensures.pushed c.drop_oldest.ensures)
