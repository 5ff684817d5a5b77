use Rattle.std.proofs.Common.{arith, ◌≡◌, ◌-◌, ◌<◌, ◌≤◌, ◌⊎◌, ℕ, List, length, min, map, refl, sym, ap, subst, ◌∙◌, inl, inr}
use Rattle.std.specs.Prelude.{All}
use Rattle.std.proofs.lemmas.List.Elements.{All-nil}
use Rattle.range_proof.specs.RangeProof.{Proof, Shows, begin_of, file_size_of}
use Rattle.verified_reader.specs.Kept.{Chunk}
use Rattle.verified_reader.specs.Reader.{HoldsPlaces, IsCheckedBy, IsFarFrom, Part}
use Rattle.verified_reader.specs.Steps.KeptChunks.{chunk_of}
use Rattle.verified_reader.proofs.Reading.{least_is}
use Rattle.verified_reader.proofs.part.WantedPart.open.Goals as goal
use Rattle.verified_reader.proofs.part.WantedPart.open.Goals.{then-beyond-first-via-then-beyond-first, then-beyond-first-via-else-beyond-first+then-beyond-end}

-- where the range of a proof begins and ends, and between which places of the file its bytes are wanted
record Bounds (proof : Proof) (from to begin end size first last : ℕ) : Type 0 where
  pub begin_is : begin ≡ begin_of proof 0
  pub end_is : end ≡ begin_of proof (length proof.chunks)
  pub size_is : size ≡ file_size_of proof
  pub first_is : first ≡ min from (file_size_of proof)
  pub last_is : last ≡ min to (file_size_of proof)

bounds : (range proof : Proof) (from to begin end size first last : ℕ) → range ≡ proof → begin ≡ begin_of range 0 → end ≡ begin_of range (length range.chunks) →
    size ≡ file_size_of range → first ≡ min from size → last ≡ min to size → Bounds proof from to begin end size first last
bounds range proof from to begin end size first last same begin_is end_is size_is first_is last_is = record {
  begin_is = begin_is ∙ ap (λ (p : Proof). begin_of p 0) same;
  end_is = end_is ∙ ap (λ (p : Proof). begin_of p (length p.chunks)) same;
  size_is = size_is ∙ ap file_size_of same;
  first_is = first_is ∙ ap (λ (n : ℕ). min from n) (size_is ∙ ap file_size_of same);
  last_is = last_is ∙ ap (λ (n : ℕ). min to n) (size_is ∙ ap file_size_of same);
}

-- such a range holds the places
holds : (proof : Proof) (from to begin end size first last : ℕ) → Bounds proof from to begin end size first last → begin ≤ first → last ≤ end →
    ((last ≤ from) × (size ≤ 0)) ⊎ (from < last) → HoldsPlaces proof from to
holds proof from to begin end size first last b front back some =
    let begins = b.begin_is in
    let ends = b.end_is in
    let sizes = b.size_is in
    let firsts = b.first_is in
    let lasts = b.last_is in
    record {
      begin = omega (arith, front, begins, firsts);
      end = omega (arith, back, ends, lasts);
      some = λ not_empty. elim some [
        | inl none ↦ let empty = none.1 in absurd (omega (arith, empty, not_empty, sizes))
        | inr more ↦ omega (arith, more, lasts)
      ];
    }

-- and is far from them, or isn't
far : (proof : Proof) (from to begin end size first last beyond : ℕ) → Bounds proof from to begin end size first last →
    (beyond < first - begin) ⊎ (beyond < end - last) → IsFarFrom proof from to beyond
far proof from to begin end size first last beyond b past =
    let begins = b.begin_is in
    let ends = b.end_is in
    let firsts = b.first_is in
    let lasts = b.last_is in
    elim past [
      | inl before ↦ inl (omega (arith, before, begins, firsts))
      | inr after ↦ inr (omega (arith, after, ends, lasts))
    ]

near : (proof : Proof) (from to begin end size first last beyond : ℕ) → Bounds proof from to begin end size first last →
    first - begin ≤ beyond → end - last ≤ beyond → ¬ (IsFarFrom proof from to beyond)
near proof from to begin end size first last beyond b front back past =
    let begins = b.begin_is in
    let ends = b.end_is in
    let firsts = b.first_is in
    let lasts = b.last_is in
    elim past [
      | inl before ↦ omega (arith, before, front, begins, firsts)
      | inr after ↦ omega (arith, after, back, ends, lasts)
    ]

pub returns-then-beyond-first-clause-refused : goal.returns-then-beyond-first-clause-refused
returns-then-beyond-first-clause-refused g c =
    let b = bounds c.in-Ok.range c.args.proof c.args.from c.args.to c.begin-begin.result c.end-end.result c.file_size-size.result c.min-first.result
    c.min-last.result c.in-Ok.ensures.same c.begin-begin.ensures c.end-end.ensures c.file_size-size.ensures
    (c.min-first.ensures ∙ least_is c.args.from c.file_size-size.result) (c.min-last.ensures ∙ least_is c.args.to c.file_size-size.result) in
    let front = c.if-first-begin.false in
    let back = c.if-end-last.false in (
      subst (λ (p : Proof). Shows p c.args.hash.now c.args.salt.now) c.in-Ok.ensures.same c.in-Ok.ensures.shows,
      record { begin_is = b.begin_is; end_is = b.end_is },
      holds c.args.proof c.args.from c.args.to c.begin-begin.result c.end-end.result c.file_size-size.result c.min-first.result c.min-last.result b
          (omega (arith, front)) (omega (arith, back)) c.if-size-gt0.either,
      far c.args.proof c.args.from c.args.to c.begin-begin.result c.end-end.result c.file_size-size.result c.min-first.result c.min-last.result
          c.args.beyond b (elim c.then-beyond-first.branch [
            | then-beyond-first-via-then-beyond-first w ↦ inl w.if-beyond-first.true
            | then-beyond-first-via-else-beyond-first+then-beyond-end w ↦ inr w.if-beyond-end.true
          ]),
    )

pub invariant_of-result : goal.invariant_of-result
invariant_of-result g c =
    let range = c.in-Ok.range in
    let b = bounds range range c.args.from c.args.to c.begin-begin.result c.end-end.result c.file_size-size.result c.min-first.result c.min-last.result
    refl c.begin-begin.ensures c.end-end.ensures c.file_size-size.ensures (c.min-first.ensures ∙ least_is c.args.from c.file_size-size.result)
    (c.min-last.ensures ∙ least_is c.args.to c.file_size-size.result) in
    let begins = b.begin_is in
    let ends = b.end_is in
    let front = c.if-first-begin.false in
    let back = c.if-end-last.false in
    let firsts = b.first_is in
    let lasts = b.last_is in
    let sizes = b.size_is in
    record {
      begin = omega (arith, begins, front);
      in_order = elim c.if-size-gt0.either [
        | inl none ↦ let empty = none.1 in omega (arith, empty, firsts, sizes)
        | inr more ↦ omega (arith, more, firsts, lasts)
      ];
      end = omega (arith, ends, back);
      shows = c.in-Ok.ensures.shows;
      within = omega arith;
      shown = λ some. absurd (omega (arith, some));
      all = subst (λ items. All (IsCheckedBy range c.args.hash.now c.args.salt.now) (map chunk_of items)) (sym c.new.ensures.items) (All-nil (IsCheckedBy range c.args.hash.now c.args.salt.now));
    }

pub returns-clause-opened : goal.returns-clause-opened
returns-clause-opened g c =
    let make : Proof → ℕ → ℕ → List Chunk → Part = λ proof first last checked. record {
      hash = c.args.hash.now;
      salt = c.args.salt.now;
      proof = proof;
      from = first;
      to = last;
      right = 0;
      checked = checked;
    } in
    let same = c.in-Ok.ensures.same in
    let size : c.file_size-size.result ≡ file_size_of c.args.proof = c.file_size-size.ensures ∙ ap file_size_of same in
    let first : c.min-first.result ≡ min c.args.from (file_size_of c.args.proof) =
    c.min-first.ensures ∙ least_is c.args.from c.file_size-size.result ∙ ap (λ (n : ℕ). min c.args.from n) size in
    let last : c.min-last.result ≡ min c.args.to (file_size_of c.args.proof) =
    c.min-last.ensures ∙ least_is c.args.to c.file_size-size.result ∙ ap (λ (n : ℕ). min c.args.to n) size in
    ap (λ (p : Proof). make p c.min-first.result c.min-last.result (map chunk_of c.new.result.items)) same
    ∙ ap (λ (n : ℕ). make c.args.proof n c.min-last.result (map chunk_of c.new.result.items)) first
    ∙ ap (λ (n : ℕ). make c.args.proof (min c.args.from (file_size_of c.args.proof)) n (map chunk_of c.new.result.items)) last
    ∙ ap (λ items. make c.args.proof (min c.args.from (file_size_of c.args.proof)) (min c.args.to (file_size_of c.args.proof)) (map chunk_of items)) c.new.ensures.items

pub returns-clause-holds : goal.returns-clause-holds
returns-clause-holds g c =
    let b = bounds c.in-Ok.range c.args.proof c.args.from c.args.to c.begin-begin.result c.end-end.result c.file_size-size.result c.min-first.result
    c.min-last.result c.in-Ok.ensures.same c.begin-begin.ensures c.end-end.ensures c.file_size-size.ensures
    (c.min-first.ensures ∙ least_is c.args.from c.file_size-size.result) (c.min-last.ensures ∙ least_is c.args.to c.file_size-size.result) in
    let front = c.if-first-begin.false in
    let back = c.if-end-last.false in
    holds c.args.proof c.args.from c.args.to c.begin-begin.result c.end-end.result c.file_size-size.result c.min-first.result c.min-last.result b
    (omega (arith, front)) (omega (arith, back)) c.if-size-gt0.either

pub returns-clause-near : goal.returns-clause-near
returns-clause-near g c =
    let b = bounds c.in-Ok.range c.args.proof c.args.from c.args.to c.begin-begin.result c.end-end.result c.file_size-size.result c.min-first.result
    c.min-last.result c.in-Ok.ensures.same c.begin-begin.ensures c.end-end.ensures c.file_size-size.ensures
    (c.min-first.ensures ∙ least_is c.args.from c.file_size-size.result) (c.min-last.ensures ∙ least_is c.args.to c.file_size-size.result) in
    let front = c.if-beyond-first.false in
    let back = c.if-beyond-end.false in
    near c.args.proof c.args.from c.args.to c.begin-begin.result c.end-end.result c.file_size-size.result c.min-first.result c.min-last.result
    c.args.beyond b (omega (arith, front)) (omega (arith, back))
