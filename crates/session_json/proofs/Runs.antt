-- The runs that end after a position: what is left to write, once those before are written.
use Rattle.std.proofs.Common.{arith, ◌≡◌, ◌<◌, ◌≤◌, ℕ, Bool, true, false, List, [], ◌∷◌, nat_lt, refl, sym, ap, subst, ◌∙◌}
use Rattle.std.specs.Prelude.{All, None, Some, cond, filter, find, is_some}
use Rattle.std.proofs.lemmas.Bool.{true≢false}
use Rattle.std.proofs.lemmas.List.Elements.{All-head, All-tail, All-weaker}
use Rattle.upload_session.specs.Session.{PlacedRun, ends_after, AreApart}
use Rattle.upload_session.proofs.Gaps.{first-or-later, found-ends}

module _ {C : Type 0} where
  abbrev pub rest : ℕ → List (PlacedRun C) → List (PlacedRun C)
  rest position runs = filter (ends_after position) runs

  all-end : (position : ℕ) (runs : List (PlacedRun C)) → AreApart runs → All (λ run. position ≤ run.0) runs → rest position runs ≡ runs
  all-end position [] apart later = refl
  all-end position (run ∷ runs) (longer, far, apart) later =
      let here : position ≤ run.0 = All-head (λ (run : PlacedRun C). position ≤ run.0) run runs later in
      let ends : nat_lt position run.1.end ≡ true = grind (arith, here, longer) in
      ap (λ b. cond b (run ∷ rest position runs) (rest position runs)) ends
      ∙ ap (λ more. run ∷ more) (all-end position runs apart (All-tail (λ (run : PlacedRun C). position ≤ run.0) run runs later))

  -- at first all are left
  pub rest-all : (runs : List (PlacedRun C)) → AreApart runs → rest 0 runs ≡ runs
  rest-all [] apart = refl
  rest-all (run ∷ runs) (longer, far, apart) =
      let ends : nat_lt 0 run.1.end ≡ true = grind (arith, longer) in
      ap (λ b. cond b (run ∷ rest 0 runs) (rest 0 runs)) ends ∙ ap (λ more. run ∷ more) (rest-all runs apart)

  -- the runs after the first one are those that end after it
  rest-behind : (position : ℕ) (run : PlacedRun C) (runs : List (PlacedRun C)) → position ≤ run.1.end
      → All (λ next. run.1.end < next.0) runs → AreApart runs → rest position runs ≡ runs
  rest-behind position run runs before far apart =
      all-end position runs apart
      (All-weaker (λ (next : PlacedRun C). run.1.end < next.0) (λ (next : PlacedRun C). position ≤ next.0) (λ next h. grind (arith, before, h)) runs far)

  -- the run that is found is the first of those that are left, and the others end after it
  pub rest-next : (position : ℕ) (runs : List (PlacedRun C)) (run : PlacedRun C) → AreApart runs
      → find (ends_after position) runs ≡ Some run → rest position runs ≡ run ∷ rest run.1.end runs
  rest-next position [] run apart is = absurd (true≢false (sym (ap is_some is)))
  rest-next position (first ∷ runs) run (longer, far, apart) is =
      first-or-later position first runs run
      (λ same ends.
      let here : nat_lt position first.1.end ≡ true = grind (arith, ends) in
      let past : nat_lt run.1.end first.1.end ≡ false = ap (λ (other : PlacedRun C). nat_lt other.1.end first.1.end) (sym same) ∙ grind arith in
      ap (λ b. cond b (first ∷ rest position runs) (rest position runs)) here
      ∙ ap (λ more. first ∷ more) (rest-behind position first runs (grind (arith, ends)) far apart)
      ∙ ap (λ (other : PlacedRun C). other ∷ runs) same
      ∙ ap (λ more. run ∷ more) (sym (ap (λ b. cond b (first ∷ rest run.1.end runs) (rest run.1.end runs)) past
      ∙ rest-behind run.1.end first runs (ap-end same) far apart)))
      (λ ended later.
      let here : nat_lt position first.1.end ≡ false = grind (arith, ended) in
      let after : position < run.1.end = found-ends position runs run later in
      let past : nat_lt run.1.end first.1.end ≡ false = grind (arith, ended, after) in
      ap (λ b. cond b (first ∷ rest position runs) (rest position runs)) here
      ∙ rest-next position runs run apart later
      ∙ ap (λ more. run ∷ more) (sym (ap (λ b. cond b (first ∷ rest run.1.end runs) (rest run.1.end runs)) past)))
      is
    where
      ap-end : first ≡ run → run.1.end ≤ first.1.end
      ap-end same = subst (λ (other : PlacedRun C). other.1.end ≤ first.1.end) same (omega arith)

  ended-none : (position : ℕ) (run : PlacedRun C) (runs : List (PlacedRun C)) → find (ends_after position) (run ∷ runs) ≡ None
      → (find (ends_after position) runs ≡ None → rest position runs ≡ []) → rest position (run ∷ runs) ≡ []
  ended-none position run runs is others = choose (nat_lt position run.1.end) refl is
    where
      choose : (b : Bool) → nat_lt position run.1.end ≡ b → cond b (Some run) (find (ends_after position) runs) ≡ None → rest position (run ∷ runs) ≡ []
      choose true ends is = absurd (true≢false (ap is_some is))
      choose false ended is = ap (λ b. cond b (run ∷ rest position runs) (rest position runs)) ended ∙ others is

  -- where none is found, none is left
  pub rest-none : (position : ℕ) (runs : List (PlacedRun C)) → find (ends_after position) runs ≡ None → rest position runs ≡ []
  rest-none position [] is = refl
  rest-none position (run ∷ runs) is = ended-none position run runs is (rest-none position runs)
