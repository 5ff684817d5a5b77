-- Runs that follow one another, one by one, and what they add up to.
use Rattle.std.proofs.Common.{arith, ◌≡◌, ◌+◌, ◌<◌, ◌≤◌, ◌++◌, ℕ, Bool, true, false, List, [], ◌∷◌, ◌-◌, get_or, length, reverse, take, refl, sym, ap, subst, ◌∙◌}
use Rattle.std.specs.Prelude.{◌↔◌, nat_lt, option_map, slice_get, IfSome, Option}
use Rattle.std.proofs.lemmas.List.{append-nil, append_assoc, get_or-map, length-map, reverse-append, take-map}
use Rattle.std.proofs.lemmas.Option.{slice_get-map}
use Rattle.std.proofs.lemmas.List.Sums.{sum_by-append, sum_by-cons}
use Rattle.std.specs.declared.alloc.Global.{Global}
use Rattle.subtree_levels.specs.Levels.{levels_size}
use Rattle.subtree_levels.specs.Subtree.{Subtree}
use Rattle.upload_session.specs.Session.{PlacedRun, CanFollow, EndBefore}
use Rattle.upload_session.specs.Subtrees.{subtrees}
use Rattle.session_json.specs.Reading.{size_of}
use Rattle.session_json.specs.Steps.SavedRuns.{placed, all_placed}
use Rattle.session_json.specs.declared.reading.SavedRun.{SavedRun}

-- what holds below a number, and at it
pub up_to : {X : Type 0} (F : ℕ → X → Type 0) (i : ℕ) → ((k : ℕ) (d : X) → k < i → F k d) → ((d : X) → F i d) → (k : ℕ) (d : X) → k < i + 1 → F k d
up_to {X} F i before here k d below = choose (nat_lt k i) refl
  where
    choose : (b : Bool) → nat_lt k i ≡ b → F k d
    choose true is = before k d (grind (arith, is))
    choose false is =
        let same : i ≡ k = grind (arith, is, below) in
        subst (λ n. F n d) same (here d)

-- the last run that is left is the next one
next_placed : (left : List SavedRun) (run : SavedRun) → all_placed (reverse (left ++ run ∷ [])) ≡ placed run ∷ all_placed (reverse left)
next_placed left run = ap all_placed (reverse-append left (run ∷ []))

pub pushed_next : (done after all : List (PlacedRun Subtree)) (runs left : List SavedRun) (run : SavedRun) → runs ≡ left ++ run ∷ []
    → after ≡ done ++ placed run ∷ [] → done ++ all_placed (reverse runs) ≡ all → after ++ all_placed (reverse left) ≡ all
pushed_next done after all runs left run is pushed whole =
    ap (λ (runs : List (PlacedRun Subtree)). runs ++ all_placed (reverse left)) pushed
    ∙ append_assoc done (placed run ∷ []) (all_placed (reverse left))
    ∙ ap (λ (runs : List (PlacedRun Subtree)). done ++ runs) (sym (ap (λ (runs : List SavedRun). all_placed (reverse runs)) is ∙ next_placed left run))
    ∙ whole

-- once none is left, all are pushed
pub all_pushed : (done all : List (PlacedRun Subtree)) (left : List SavedRun) → left ≡ [] → done ++ all_placed (reverse left) ≡ all → done ≡ all
all_pushed done all left none whole = sym (append-nil done) ∙ ap (λ (left : List SavedRun). done ++ all_placed (reverse left)) (sym none) ∙ whole

pub size_pushed : (done after : List (PlacedRun Subtree)) (run : PlacedRun Subtree) (size : ℕ) → after ≡ done ++ run ∷ [] → size ≡ size_of done
    → size + levels_size run.1.range.levels ≡ size_of after
size_pushed done after run size pushed is =
    let sum = sum_by-append (λ (run : PlacedRun Subtree). levels_size run.1.range.levels) done (run ∷ []) in
    let one = sum_by-cons (λ (run : PlacedRun Subtree). levels_size run.1.range.levels) run [] in
    omega (arith, ap size_of pushed, is, sum, one)

-- where the next run passes a bound, all runs do
pub size_passes : (done all : List (PlacedRun Subtree)) (runs left : List SavedRun) (run : SavedRun) (size bound : ℕ) → runs ≡ left ++ run ∷ []
    → done ++ all_placed (reverse runs) ≡ all → size ≡ size_of done → bound ≤ size + levels_size run.range.levels → bound ≤ size_of all
size_passes done all runs left run size bound is whole of passes =
    let next = ap (λ (runs : List SavedRun). all_placed (reverse runs)) is ∙ next_placed left run in
    let sum = sum_by-append (λ (run : PlacedRun Subtree). levels_size run.1.range.levels) done (all_placed (reverse runs)) in
    let one = sum_by-cons (λ (run : PlacedRun Subtree). levels_size run.1.range.levels) (placed run) (all_placed (reverse left)) in
    omega (arith, ap size_of whole, ap size_of next, of, sum, one, passes)

-- ---- the last run

pub last_placed : (runs : List SavedRun) → slice_get (all_placed runs) (length (all_placed runs) - 1) ≡ option_map placed (slice_get runs (length runs - 1))
last_placed runs = ap (λ n. slice_get (all_placed runs) (n - 1)) (length-map runs placed) ∙ slice_get-map placed runs (length runs - 1)

-- what the first runs are
pub first_placed : (runs : List SavedRun) (i : ℕ) → take i (all_placed runs) ≡ all_placed (take i runs)
first_placed runs i = take-map placed i runs

pub at_placed : (runs : List SavedRun) (i : ℕ) (run : SavedRun) (d : PlacedRun Subtree) → i < length runs → run ≡ get_or runs i run
    → get_or (all_placed runs) i d ≡ placed run
at_placed runs i run d within is = get_or-map placed runs i run d within ∙ ap placed (sym is)

-- a run can follow those before it, as saved runs and as runs of a session
pub follows_placed : (runs : List SavedRun) (i : ℕ) (run : SavedRun) (d : PlacedRun Subtree) → i < length runs → run ≡ get_or runs i run
    → CanFollow {A = Global} subtrees (take i (all_placed runs)) (get_or (all_placed runs) i d)
    ↔ CanFollow {A = Global} subtrees (all_placed (take i runs)) (placed run)
follows_placed runs i run d within is =
    let front = first_placed runs i in
    let at = at_placed runs i run d within is in (
      λ h.
          subst (λ (next : PlacedRun Subtree). CanFollow {A = Global} subtrees (all_placed (take i runs)) next) at
          (subst (λ (others : List (PlacedRun Subtree)). CanFollow {A = Global} subtrees others (get_or (all_placed runs) i d)) front h),
      λ h.
          subst (λ (others : List (PlacedRun Subtree)). CanFollow {A = Global} subtrees others (get_or (all_placed runs) i d)) (sym front)
          (subst (λ (next : PlacedRun Subtree). CanFollow {A = Global} subtrees (all_placed (take i runs)) next) (sym at) h),
    )

abbrev Before : ℕ → PlacedRun Subtree → Type 0
Before position last = (last.0 < position) × (last.1.end < position)

-- the last run begins and ends before a position
pub end_placed : (runs : List SavedRun) (position : ℕ) (found : Option SavedRun) → slice_get runs (length runs - 1) ≡ found
    → IfSome (option_map placed found) (Before position) ↔ EndBefore (all_placed runs) position
end_placed runs position found is =
    let same : option_map placed found ≡ slice_get (all_placed runs) (length (all_placed runs) - 1) = sym (last_placed runs ∙ ap (option_map placed) is) in (
      λ h. subst (λ (last : Option (PlacedRun Subtree)). IfSome last (Before position)) same h,
      λ h. subst (λ (last : Option (PlacedRun Subtree)). IfSome last (Before position)) (sym same) h,
    )
