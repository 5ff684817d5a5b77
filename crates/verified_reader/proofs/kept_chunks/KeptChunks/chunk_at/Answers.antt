use Rattle.std.proofs.Common.{arith, ◌≤◌, ◌+◌, ◌≡◌, length, List, sym, subst, ◌∙◌}
use Rattle.std.specs.Prelude.{Contains}
use Rattle.std.proofs.lemmas.Map.Keys.{le_from_not_gt}
use Rattle.std.proofs.lemmas.Option.{none-some}
use Rattle.verified_reader.specs.Kept.{Chunk, IsKept}
use Rattle.verified_reader.specs.Steps.KeptChunks.{chunk_of}
use Rattle.verified_reader.proofs.Entries.{is_kept}
use Rattle.verified_reader.proofs.InOrder.{at_none, begins_there, last_ends, not_gt, not_kept}
use Rattle.verified_reader.proofs.kept_chunks.KeptChunks.chunk_at.Goals as goal
use Rattle.verified_reader.proofs.kept_chunks.KeptChunks.chunk_at.Goals.{then-place-begin-via-then-place-begin, then-place-begin-via-else-place-begin+then-len-place}

pub returns-in_err-number-clause-none : goal.returns-in_err-number-clause-none
returns-in_err-number-clause-none g c =
    let inside = c.self.inside in
    let none = (c.range.ensures.in_range tt).5 c.in_err-number.ensures.steps.0 in
    at_none c.from_residual.result (subst (λ (l : List Chunk). IsKept l c.args.place → ⊥) c.self.view_is
    (not_kept inside.by_use.entries inside.uses.entries inside.next_use inside.size c.self.invariant c.args.place
    (λ number chunk at le. absurd (none-some number (sym (none chunk.begin (tt, not_gt chunk.begin c.args.place le)) ∙ c.self.invariant.found number chunk at)))))

pub returns-in_err-chunk-clause-none : goal.returns-in_err-chunk-clause-none
returns-in_err-chunk-clause-none g c =
    let last = (c.range.ensures.in_range tt).3 (c.in_ok-number.field-0-0.now, c.in_ok-number.number.now) c.next_back.new.self c.in_ok-number.ensures.steps in
    let named = c.self.invariant.named c.in_ok-number.field-0-0.now c.in_ok-number.number.now last.1 in
    absurd (none-some named.0 (c.in_err-chunk.ensures.value ∙ named.1))

pub returns-then-place-begin-clause-none : goal.returns-then-place-begin-clause-none
returns-then-place-begin-clause-none g c =
    let inside = c.self.inside in
    let begin = c.in_ok-number.field-0-0.now in
    let number = c.in_ok-number.number.now in
    let last = (c.range.ensures.in_range tt).3 (begin, number) c.next_back.new.self c.in_ok-number.ensures.steps in
    let greatest = (c.range.ensures.in_range tt).4 (begin, number) c.next_back.new.self c.in_ok-number.ensures.steps in
    let chunk = c.in_ok-chunk.chunk.now in
    let near : begin ≤ c.args.place = le_from_not_gt begin c.args.place last.0.1 in
    let found = sym c.in_ok-chunk.ensures.value in
    let begins : chunk.begin ≡ begin = begins_there inside.by_use.entries inside.uses.entries inside.next_use inside.size c.self.invariant begin number chunk last.1 found in
    let past : chunk.begin + length chunk.bytes.items ≤ c.args.place → IsKept c.args.self.now c.args.place → ⊥ = λ ends.
    subst (λ (l : List Chunk). IsKept l c.args.place → ⊥) c.self.view_is
    (last_ends inside.by_use.entries inside.uses.entries inside.next_use inside.size c.self.invariant c.args.place begin number chunk last.1 found near
    (λ q le some. greatest q (tt, not_gt q c.args.place le) some) ends) in
    elim c.then-place-begin.branch [
      | then-place-begin-via-then-place-begin w ↦ let before = w.if-place-begin.true in absurd (omega (arith, before, begins, near))
      | then-place-begin-via-else-place-begin+then-len-place w ↦
          let after = w.if-place-begin.false in
          let short = w.if-len-place.true in
          past (omega (arith, after, short, w.len.ensures))
    ]

pub returns-clause-some : goal.returns-clause-some
returns-clause-some g c =
    let chunk = c.in_ok-chunk.chunk.now in
    let begins = c.if-place-begin.false in
    let ends = c.if-len-place.false in (
      subst (λ (l : List Chunk). Contains l (chunk_of chunk)) c.self.view_is
          (is_kept c.in_ok-number.number.now c.self.inside.by_use.entries chunk (sym c.in_ok-chunk.ensures.value)),
      record { begin = omega (arith, begins); end = omega (arith, begins, ends, c.len.ensures) },
    )
