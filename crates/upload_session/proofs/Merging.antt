-- Merging a placed range with the ranges right before and right after it.
use Rattle.std.proofs.Common.{arith, nat_cmp, ◌≡◌, ◌+◌, ◌<◌, ℕ, false, List, [], ◌∷◌, ◌++◌, length, refl, sym, ap, subst, ◌∙◌}
use Rattle.std.specs.Prelude.{All, Option, None, Some, option_map, option_to_list, unwrap_or}
use Rattle.std.specs.BTreeMap.{insert_entry, is_at}
use Rattle.std.specs.Map.{remove_entry, set_value}
use Rattle.std.proofs.lemmas.List.{append-nil, append_assoc}
use Rattle.std.proofs.lemmas.List.Elements.{All-nil, All-cons, All-head, All-tail}
use Rattle.std.proofs.lemmas.List.Sums.{sum_by-cons}
use Rattle.xet_roots.specs.Groups.{Node}
use Rattle.chunk_ranges.specs.declared.chunk_range.ChunkRange as chunk_range
use Rattle.upload_session.specs.declared.runs.Run.{Run}
use Rattle.upload_session.specs.Session.{PlacedRun, end_of, first_of, size_of_runs, AreApart, AreOf}
use Rattle.upload_session.specs.Steps.Neighbours.{IsWith, IsWithNext, IsPutBefore, TakeIn}
use Rattle.upload_session.specs.Steps.OpenRuns.{AreOpen, size_at}
use Rattle.upload_session.proofs.AroundEntries.{lookup-next, inserted, replaced}
use Rattle.upload_session.proofs.Neighbours.{Around, run_to, with_run, IsBetween, around-apart, joined-around, placed-around}
use Rattle.upload_session.proofs.OpenRuns.{size-at}

module _ {C A : Type 0} (kind : chunk_range.Ghosts C A) where
  -- a run's range is open at both ends
  abbrev IsOpen : PlacedRun C → Type 0
  IsOpen run = (kind.start run.1.range ≡ false) × (kind.end run.1.range ≡ false)

  of-values : (runs : List (PlacedRun C)) → AreOpen kind runs → All IsOpen runs
  of-values [] opened = All-nil IsOpen
  of-values (run ∷ runs) opened =
      let IsOpenRun = λ (run : Run C). (kind.start run.range ≡ false) × (kind.end run.range ≡ false) in
      All-cons IsOpen run runs (All-head IsOpenRun run.1 _ opened) (of-values runs (All-tail IsOpenRun run.1 _ opened))

  of-back : {X : Type 0} (P : X → Type 0) (front back : List X) → All P (front ++ back) → All P back
  of-back P [] back all = all
  of-back P (x ∷ front) back all = of-back P front back (All-tail P x (front ++ back) all)

  -- the size of one run, and of one or none
  size-one : (run : PlacedRun C) → size_of_runs kind (run ∷ []) ≡ kind.total run.1.range
  size-one run = omega (arith, sum_by-cons (λ (run : PlacedRun C). kind.total run.1.range) run [])

  size-option : (run : Option (PlacedRun C))
      → unwrap_or (option_map (λ (run : Run C). kind.total run.range) (option_map (λ (run : PlacedRun C). run.1) run)) 0 ≡ size_of_runs kind (option_to_list run)
  size-option None = refl
  size-option (Some run) = sym (size-one run)

  module _ (first count : ℕ) (given : C) (some : 0 < count) (runs : List (PlacedRun C)) (at : Around first (first + count) runs)
      (apart : AreApart runs) (opened : AreOpen kind runs) where
    sides : All IsOpen (with_run at.previous (with_run at.next at.back))
    sides = of-back IsOpen at.front (with_run at.previous (with_run at.next at.back))
        (subst (λ (l : List (PlacedRun C)). All IsOpen l) at.is (of-values runs opened))

    previous-open : (run : PlacedRun C) → at.previous ≡ Some run → IsOpen run
    previous-open run is = All-head IsOpen run (with_run at.next at.back) (subst (λ (previous : Option (PlacedRun C)). All IsOpen (with_run previous (with_run at.next at.back))) is sides)

    next-open : (run : PlacedRun C) → at.next ≡ Some run → IsOpen run
    next-open run is =
        All-head IsOpen run at.back
        (subst (λ (next : Option (PlacedRun C)). All IsOpen (with_run next at.back)) is (over at.previous (with_run at.next at.back) sides))
      where
        over : (previous : Option (PlacedRun C)) (others : List (PlacedRun C)) → All IsOpen (with_run previous others) → All IsOpen others
        over None others all = all
        over (Some run) others all = All-tail IsOpen run others all

    -- what is kept of the given range and of the run after it
    abbrev pub IsMade : Run C → Type 0
    IsMade made =
        (made.end ≡ end_of at.next (first + count))
        × ((chunks back : List Node) → kind.stands given chunks → AreOf kind at.next back → kind.stands made.range (chunks ++ back))
        × (kind.start made.range ≡ false) × (kind.end made.range ≡ false)
        × (kind.total made.range ≡ kind.total given + size_of_runs kind (option_to_list at.next))

    pub made-with : (made : Run C) → IsWithNext kind runs (first + count) given made
        → kind.total made.range ≡ kind.total given + size_at kind (first + count) runs → IsMade made
    made-with made is sum =
        let after = first + count in
        let next = lookup-next first after (omega (arith, some)) runs at in
        let (ends, meant, opens, closes) = choose at.next refl (subst (λ (found : Option (Run C)). IsWith kind found after given made) next is) in
        (ends, meant, opens, closes, omega (arith, sum, size-at kind after runs (option_map (λ (run : PlacedRun C). run.1) at.next) next, size-option at.next))
      where
        choose : (next : Option (PlacedRun C)) → at.next ≡ next → IsWith kind (option_map (λ (run : PlacedRun C). run.1) next) (first + count) given made
            → (made.end ≡ end_of next (first + count))
            × ((chunks back : List Node) → kind.stands given chunks → AreOf kind next back → kind.stands made.range (chunks ++ back))
            × (kind.start made.range ≡ false) × (kind.end made.range ≡ false)
        choose None is (ends, meant, opens, closes) =
            (ends, (λ chunks back stands none. subst (λ (l : List Node). kind.stands made.range (chunks ++ l)) (sym none) (subst (kind.stands made.range) (sym (append-nil chunks)) (meant chunks stands))), opens, closes)
        choose (Some run) is (ends, meant, opens, closes) = (ends, meant, opens, closes ∙ (next-open run is).1)

    between-none : (made : Run C) → IsMade made → at.previous ≡ None → IsBetween kind first count given at.previous at.next made.range
    between-none made (ends, meant, opens, closes, sum) none = (
      λ front chunks back keeps. λ stands meant_back.
          let nothing = subst (λ previous. AreOf kind previous front) none keeps in
          subst (λ l. kind.stands made.range (l ++ (chunks ++ back))) (sym nothing) (meant chunks back stands meant_back),
      opens,
      closes,
      omega (arith, sum, size-none at.previous none),
    )
      where
        size-none : (run : Option (PlacedRun C)) → run ≡ None → size_of_runs kind (option_to_list run) ≡ 0
        size-none run none = ap (λ run. size_of_runs kind (option_to_list run)) none

    between-some : (made : Run C) → IsMade made → (run : PlacedRun C) → at.previous ≡ Some run → (merged : C)
        → ((a b : List Node) → kind.stands run.1.range a → kind.stands made.range b → kind.stands merged (a ++ b))
        → kind.start merged ≡ kind.start run.1.range → kind.end merged ≡ kind.end made.range
        → kind.total merged ≡ kind.total run.1.range + kind.total made.range → IsBetween kind first count given at.previous at.next merged
    between-some made (ends, meant, opens, closes, sum) run is merged merges starts finishes total = (
      λ front chunks back keeps. λ stands meant_back. merges front (chunks ++ back) (subst (λ previous. AreOf kind previous front) is keeps) (meant chunks back stands meant_back),
      starts ∙ (previous-open run is).0,
      finishes ∙ closes,
      omega (arith, sum, total, ap (λ run. size_of_runs kind (option_to_list run)) is, size-one run),
    )

    -- the runs around, and the run of the chunks between them
    abbrev around_run : C → List (PlacedRun C)
    around_run range = at.front ++ (first_of at.previous first, run_to (end_of at.next (first + count)) range) ∷ at.back

    taken-in : (new : List (PlacedRun C)) (range : C) → new ≡ around_run range → IsBetween kind first count given at.previous at.next range → TakeIn kind runs first count given new
    taken-in new range is between =
        subst (λ new. TakeIn kind runs first count given new) (sym is) (
          joined-around kind first count given some runs at range between,
          around-apart first (first + count) (omega (arith, some)) range runs at apart,
          placed-around kind first count given some runs at range between,
        )

    -- the run is put in, and the one after it taken out
    pub placed-alone : (new : List (PlacedRun C)) (made : Run C) → IsMade made → at.previous ≡ None
        → new ≡ remove_entry (is_at (nat_cmp (first + count))) (insert_entry nat_cmp runs first made)
        → TakeIn kind runs first count given new
    placed-alone new made of_made none is =
        let begins : first ≡ first_of at.previous first = ap (λ run. first_of run first) (sym none) in
        taken-in new made.range
        (is ∙ inserted first (first + count) (omega (arith, some)) runs at made none
        ∙ ap (λ n. at.front ++ (n, made) ∷ at.back) begins
        ∙ ap (λ n. at.front ++ (first_of at.previous first, run_to n made.range) ∷ at.back) of_made.0)
        (between-none made of_made none)

    -- the range is merged with that of the run before, and the run after taken out
    pub placed-merged : (new : List (PlacedRun C)) (made : Run C) → IsMade made → (begin : ℕ) (last : Run C) (merged : C) → at.previous ≡ Some (begin, last)
        → ((a b : List Node) → kind.stands last.range a → kind.stands made.range b → kind.stands merged (a ++ b))
        → kind.start merged ≡ kind.start last.range → kind.end merged ≡ kind.end made.range
        → kind.total merged ≡ kind.total last.range + kind.total made.range
        → new ≡ remove_entry (is_at (nat_cmp (first + count))) (set_value (is_at (nat_cmp begin)) runs (run_to made.end merged))
        → TakeIn kind runs first count given new
    placed-merged new made of_made begin last merged previous merges starts finishes total is =
        let begins : begin ≡ first_of at.previous first = ap (λ run. first_of run first) (sym previous) in
        taken-in new merged
        (is ∙ replaced first (first + count) (omega (arith, some)) runs at (begin, last) (run_to made.end merged) previous
        ∙ ap (λ n. at.front ++ (n, run_to made.end merged) ∷ at.back) begins
        ∙ ap (λ n. at.front ++ (first_of at.previous first, run_to n merged) ∷ at.back) of_made.0)
        (between-some made of_made (begin, last) previous merged merges starts finishes total)

    -- the range is put before that of the run after, which begins where that before did, or where the chunks do
    pub placed-before : (new : List (PlacedRun C)) (begin : ℕ) (last next : Run C) (front : C) → at.previous ≡ Some (begin, last) → at.next ≡ Some (first + count, next)
        → ((a chunks : List Node) → kind.stands last.range a → kind.stands given chunks → kind.stands front (a ++ chunks)) → kind.start front ≡ false
        → kind.total front ≡ kind.total last.range + kind.total given
        → IsPutBefore kind begin front next at.front at.back new → TakeIn kind runs first count given new
    placed-before new begin last next front previous next_is meant opens sum (range, is, merges, starts, finishes, total) =
        let begins : begin ≡ first_of at.previous first = ap (λ run. first_of run first) (sym previous) in
        let ends : next.end ≡ end_of at.next (first + count) = ap (λ run. end_of run (first + count)) (sym next_is) in
        taken-in new range
        (is ∙ ap (λ n. at.front ++ (n, run_to next.end range) ∷ at.back) begins
        ∙ ap (λ n. at.front ++ (first_of at.previous first, run_to n range) ∷ at.back) ends) (
          λ a chunks b keeps_a stands keeps_b.
              subst (kind.stands range) (append_assoc a chunks b)
              (merges (a ++ chunks) b (meant a chunks (subst (λ run. AreOf kind run a) previous keeps_a) stands) (subst (λ run. AreOf kind run b) next_is keeps_b)),
          starts ∙ opens,
          finishes ∙ (next-open (first + count, next) next_is).1,
          omega (
            arith,
            sum,
            total,
            ap (λ run. size_of_runs kind (option_to_list run)) previous,
            size-one (begin, last),
            ap (λ run. size_of_runs kind (option_to_list run)) next_is,
            size-one (first + count, next),
          ),
        )

    pub placed-first : (new : List (PlacedRun C)) (next : Run C) (front : C) → at.previous ≡ None → at.next ≡ Some (first + count, next)
        → ((chunks : List Node) → kind.stands given chunks → kind.stands front chunks) → kind.start front ≡ false → kind.total front ≡ kind.total given
        → IsPutBefore kind first front next at.front at.back new → TakeIn kind runs first count given new
    placed-first new next front previous next_is meant opens sum (range, is, merges, starts, finishes, total) =
        let begins : first ≡ first_of at.previous first = ap (λ run. first_of run first) (sym previous) in
        let ends : next.end ≡ end_of at.next (first + count) = ap (λ run. end_of run (first + count)) (sym next_is) in
        taken-in new range
        (is ∙ ap (λ n. at.front ++ (n, run_to next.end range) ∷ at.back) begins
        ∙ ap (λ n. at.front ++ (first_of at.previous first, run_to n range) ∷ at.back) ends) (
          λ a chunks b keeps_a stands keeps_b.
              let nothing : a ≡ [] = subst (λ run. AreOf kind run a) previous keeps_a in
              subst (λ (l : List Node). kind.stands range (l ++ (chunks ++ b))) (sym nothing) (merges chunks b (meant chunks stands) (subst (λ run. AreOf kind run b) next_is keeps_b)),
          starts ∙ opens,
          finishes ∙ (next-open (first + count, next) next_is).1,
          omega (
            arith,
            sum,
            total,
            ap (λ run. size_of_runs kind (option_to_list run)) previous,
            ap (λ run. size_of_runs kind (option_to_list run)) next_is,
            size-one (first + count, next),
          ),
        )
