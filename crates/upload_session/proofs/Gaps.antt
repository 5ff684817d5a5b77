-- Where runs leave positions free, and how many positions they have.
use Rattle.std.proofs.Common.{arith, ◌≡◌, ◌+◌, ◌-◌, ◌<◌, ◌≤◌, ℕ, Bool, true, false, List, [], ◌∷◌, ◌++◌, ◌&&◌, ◌||◌, nat_lt, length, refl, sym, ap, subst, ◌∙◌}
use Rattle.std.specs.Prelude.{All, Option, None, Some, cond, find, is_some}
use Rattle.std.specs.List.{list_any}
use Rattle.std.proofs.lemmas.Bool.{true≢false}
use Rattle.std.proofs.lemmas.Option.{same_Some}
use Rattle.std.proofs.lemmas.List.{length-append}
use Rattle.std.proofs.lemmas.List.Elements.{All-head, All-weaker}
use Rattle.std.proofs.lemmas.List.Folds.{list_any_none}
use Rattle.std.proofs.lemmas.List.Sums.{sum_by-cons}
use Rattle.xet_roots.specs.Groups.{Node}
use Rattle.chunk_ranges.specs.declared.chunk_range.ChunkRange as chunk_range
use Rattle.upload_session.specs.Gaps.{num_positions}
use Rattle.upload_session.specs.Session.{Placed, PlacedRun, placed_from, ends_after, meet, meets, AreApart, StandFor}
use Rattle.upload_session.proofs.Positions.{neither}
use Rattle.upload_session.proofs.Whole.{length-placed}

or-true : (b : Bool) → (b || true) ≡ true
or-true true = refl
or-true false = refl

neither-is : (a b : Bool) → a ≡ false → b ≡ false → (a || b) ≡ false
neither-is a b first second = ap (λ x. x || b) first ∙ second

module _ {C : Type 0} where
  module _ (position : ℕ) where
    abbrev pub found : List (PlacedRun C) → PlacedRun C → Type 0
    found runs run = find (ends_after position) runs ≡ Some run

    -- the run that is found is the first one, or a later one if the first one ends before
    module _ (first : PlacedRun C) (runs : List (PlacedRun C)) (run : PlacedRun C) {P : Type 0}
        (here : first ≡ run → position < first.1.end → P) (later : first.1.end ≤ position → found runs run → P) where
      pub first-or-later : found (first ∷ runs) run → P
      first-or-later is = choose (nat_lt position first.1.end) refl is
        where
          choose : (b : Bool) → nat_lt position first.1.end ≡ b → cond b (Some first) (find (ends_after position) runs) ≡ Some run → P
          choose true ends is = here (same_Some first run is) (grind (arith, ends))
          choose false ended is = later (grind (arith, ended)) is

    pub found-ends : (runs : List (PlacedRun C)) (run : PlacedRun C) → found runs run → position < run.1.end
    found-ends [] run is = absurd (true≢false (sym (ap is_some is)))
    found-ends (first ∷ runs) run is =
        first-or-later first runs run
        (λ same ends. subst (λ (run : PlacedRun C). position < run.1.end) same ends)
        (λ _ is. found-ends runs run is) is

    pub found-longer : (runs : List (PlacedRun C)) (run : PlacedRun C) → AreApart runs → found runs run → run.0 < run.1.end
    found-longer [] run apart is = absurd (true≢false (sym (ap is_some is)))
    found-longer (first ∷ runs) run (longer, far, apart) is =
        first-or-later first runs run
        (λ same ends. subst (λ (run : PlacedRun C). run.0 < run.1.end) same longer)
        (λ _ is. found-longer runs run apart is) is

    -- where the position is free, the run begins after it
    pub found-begins : (runs : List (PlacedRun C)) (run : PlacedRun C) → found runs run → meet runs position 1 ≡ false → position < run.0
    found-begins [] run is free = absurd (true≢false (sym (ap is_some is)))
    found-begins (first ∷ runs) run is free =
        let (one, others) = neither (meets position 1 first) (meet runs position 1) free in
        first-or-later first runs run
        (λ same ends. subst (λ (run : PlacedRun C). position < run.0) same (grind (arith, ends, one)))
        (λ _ is. found-begins runs run is others) is

    -- it has the positions from its first one up to its end
    pub found-taken : (place : ℕ) (runs : List (PlacedRun C)) (run : PlacedRun C) → found runs run → run.0 ≤ place → place < run.1.end
        → meet runs place 1 ≡ true
    found-taken place [] run is begun ends = absurd (true≢false (sym (ap is_some is)))
    found-taken place (first ∷ runs) run is begun ends =
        first-or-later first runs run
        (λ same _. subst (λ (run : PlacedRun C). run.0 ≤ place → place < run.1.end → meet (first ∷ runs) place 1 ≡ true) same
        (λ begun ends. ap (λ b. b || meet runs place 1) {y = true} (grind (arith, begun, ends))) begun ends)
        (λ _ is. ap (λ b. meets place 1 first || b) (found-taken place runs run is begun ends) ∙ or-true (meets place 1 first)) is

    -- no run has a position before it
    pub found-free : (place : ℕ) (runs : List (PlacedRun C)) (run : PlacedRun C) → AreApart runs → found runs run → position ≤ place → place < run.0
        → meet runs place 1 ≡ false
    found-free place [] run apart is from before = absurd (true≢false (sym (ap is_some is)))
    found-free place (first ∷ runs) run (longer, far, apart) is from before =
        first-or-later first runs run
        (λ same _. subst (λ (run : PlacedRun C). place < run.0 → meet (first ∷ runs) place 1 ≡ false) same
        (λ before. neither-is (meets place 1 first) (meet runs place 1) (grind (arith, before))
        (list_any_none (meets place 1) runs (λ k d inside. let farther = far k d inside in grind (arith, farther, before, longer)))) before)
        (λ ended is. neither-is (meets place 1 first) (meet runs place 1) (grind (arith, ended, from)) (found-free place runs run apart is from before)) is

    -- nor the one after its end
    pub found-free-end : (runs : List (PlacedRun C)) (run : PlacedRun C) → AreApart runs → found runs run → meet runs run.1.end 1 ≡ false
    found-free-end [] run apart is = absurd (true≢false (sym (ap is_some is)))
    found-free-end (first ∷ runs) run (longer, far, apart) is =
        first-or-later first runs run
        (λ same _. subst (λ (run : PlacedRun C). meet (first ∷ runs) run.1.end 1 ≡ false) same
        (neither-is (meets first.1.end 1 first) (meet runs first.1.end 1) (grind arith)
        (list_any_none (meets first.1.end 1) runs (λ k d inside. let farther = far k d inside in grind (arith, farther)))))
        (λ ended is. let ends = found-ends runs run is in
        neither-is (meets run.1.end 1 first) (meet runs run.1.end 1) (grind (arith, ended, ends)) (found-free-end runs run apart is)) is

    -- where all runs end before a position, no run has it or one after it
    pub none-free : (place : ℕ) (runs : List (PlacedRun C)) → find (ends_after position) runs ≡ None → position ≤ place → meet runs place 1 ≡ false
    none-free place [] none from = refl
    none-free place (first ∷ runs) none from = choose (none-free place runs) (nat_lt position first.1.end) refl none
      where
        choose : (find (ends_after position) runs ≡ None → position ≤ place → meet runs place 1 ≡ false)
            → (b : Bool) → nat_lt position first.1.end ≡ b → cond b (Some first) (find (ends_after position) runs) ≡ None
            → meet (first ∷ runs) place 1 ≡ false
        choose rest true ends is = absurd (true≢false (ap is_some is))
        choose rest false ended is = neither-is (meets place 1 first) (meet runs place 1) (grind (arith, ended, from)) (rest is from)

  -- so many positions were counted, and these runs are left
  abbrev pub Counted : List (PlacedRun C) → List (PlacedRun C) → ℕ → Type 0
  Counted all rest count =
      (count + num_positions rest ≡ num_positions all) × AreApart rest × All (λ (run : PlacedRun C). count ≤ run.0) rest

  pub counted-none : (all : List (PlacedRun C)) → AreApart all → Counted all all 0
  counted-none all apart = (omega arith, apart, λ k d inside. omega arith)

  -- they end before the next one, so that its positions can be added
  pub counted-next : (all rest : List (PlacedRun C)) (run : PlacedRun C) (count : ℕ) → Counted all (run ∷ rest) count
      → (run.0 ≤ run.1.end) × (count + (run.1.end - run.0) ≤ run.1.end) × Counted all rest (count + (run.1.end - run.0))
  counted-next all rest run count (is, (longer, far, apart), after) =
      let begun = All-head (λ (run : PlacedRun C). count ≤ run.0) run rest after in
      let sum = sum_by-cons (λ (run : PlacedRun C). run.1.end - run.0) run rest in
      let ahead = All-weaker (λ (next : PlacedRun C). run.1.end < next.0) (λ (next : PlacedRun C). count + (run.1.end - run.0) ≤ next.0)
      (λ next h. omega (arith, h, longer, begun)) rest far in
      (omega (arith, longer), omega (arith, longer, begun), (omega (arith, is, sum), apart, ahead))

-- each position that runs have is that of a chunk
pub positions-placed : {C A : Type 0} (kind : chunk_range.Ghosts C A) (runs : List (PlacedRun C)) (placed : List Placed) → StandFor kind runs placed
    → num_positions runs ≡ length placed
positions-placed kind [] placed none = sym (ap length none)
positions-placed {C} kind (run ∷ runs) placed (chunks, others, is, of_run, apart, rest) =
    let more = positions-placed kind runs others rest in
    let all = ap length is ∙ length-append (placed_from run.0 chunks) others in
    omega (arith, more, all, length-placed run.0 chunks, of_run.1, sum_by-cons (λ (run : PlacedRun C). run.1.end - run.0) run runs)
