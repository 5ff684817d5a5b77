-- What calls of a map find around free positions, and what is left when a run is put in.
use Rattle.std.proofs.Common.{arith, nat_cmp, ◌≡◌, ◌<◌, ◌≤◌, ℕ, true, List, [], ◌∷◌, ◌++◌, refl, sym, ap, subst, ◌∙◌, append_assoc}
use Rattle.std.specs.Prelude.{All, Option, None, Some, IfSome, option_map, is_some}
use Rattle.std.specs.BTreeMap.{insert_entry, is_at}
use Rattle.std.specs.Map.{lookup, remove_entry, set_value}
use Rattle.std.proofs.lemmas.Bool.{true≢false}
use Rattle.std.proofs.lemmas.Option.{same_Some}
use Rattle.std.proofs.lemmas.List.{append-nil, same_from_push}
use Rattle.std.proofs.lemmas.List.Elements.{All-nil, All-cons, All-append, All-weaker}
use Rattle.upload_session.specs.declared.runs.Run.{Run}
use Rattle.upload_session.specs.Session.{PlacedRun}
use Rattle.upload_session.specs.Steps.Neighbours.{EndsAt, NoneEndsAt, AreAround}
use Rattle.upload_session.proofs.Neighbours.{Around, with_run}
use Rattle.upload_session.proofs.Positions.{holds_of_last}
use Rattle.upload_session.proofs.SortedEntries.{upto, upto-both, upto-found, upto-near, lookup-none, lookup-at, set_value-at, insert-between, remove-none, remove-at}

-- a run that ends just before a position begins at it or before it, and is found where it begins
pub ends-near : {C : Type 0} (position begin : ℕ) (runs : List (PlacedRun C)) → EndsAt runs position begin → begin ≤ position
ends-near {C} position begin runs (front, run, is, ends) =
    holds_of_last (λ (run : PlacedRun C). run.0 ≤ position) front (begin, run) []
    (subst (λ (l : List (PlacedRun C)). All (λ (run : PlacedRun C). run.0 ≤ position) l) is (upto-near position runs))

pub ends-found : {C : Type 0} (position begin : ℕ) (runs : List (PlacedRun C)) → EndsAt runs position begin → is_some (lookup (is_at (nat_cmp begin)) runs) ≡ true
ends-found position begin runs (front, run, is, ends) = upto-found position runs front begin run is

module _ {C : Type 0} (first after : ℕ) (ahead : first < after) where
  more : (P : PlacedRun C → Type 0) (next : Option (PlacedRun C)) (runs : List (PlacedRun C)) → IfSome next P → All P runs → All P (with_run next runs)
  more P None runs h all = all
  more P (Some run) runs h all = All-cons P run runs h all

  ones : (P : PlacedRun C → Type 0) (next : Option (PlacedRun C)) → IfSome next P → All P (with_run next [])
  ones P next h = more P next [] h (All-nil P)

  split : (front : List (PlacedRun C)) (next : Option (PlacedRun C)) (back : List (PlacedRun C)) → front ++ with_run next back ≡ (front ++ with_run next []) ++ back
  split front None back = ap (λ l. l ++ back) (sym (append-nil front))
  split front (Some run) back = sym (append_assoc front (run ∷ []) back)

  module _ (runs : List (PlacedRun C)) (at : Around first after runs) where
    abbrev following : List (PlacedRun C)
    following = with_run at.next at.back

    following_after : All (λ (run : PlacedRun C). first < run.0) following
    following_after = more (λ (run : PlacedRun C). first < run.0) at.next at.back (by at.next at.next_begins)
        (All-weaker (λ (run : PlacedRun C). after < run.0) (λ (run : PlacedRun C). first < run.0) (λ run h. omega (arith, h, ahead)) at.back at.backs)
      where
        by : (next : Option (PlacedRun C)) → IfSome next (λ run. run.0 ≡ after) → IfSome next (λ run. first < run.0)
        by None h = tt
        by (Some run) h = omega (arith, h, ahead)

    front_before : (bound : ℕ) → first ≤ bound → All (λ (run : PlacedRun C). run.0 < bound) at.front
    front_before bound near = All-weaker (λ (run : PlacedRun C). (run.0 < run.1.end) × (run.1.end < first)) (λ (run : PlacedRun C). run.0 < bound) (λ run h. omega (arith, h.0, h.1, near)) at.front at.fronts

    found : upto first runs ≡ at.front ++ with_run at.previous []
    found =
        ap (upto first) (at.is ∙ split at.front at.previous following)
        ∙ upto-both first (at.front ++ with_run at.previous []) following
        (All-append (λ (run : PlacedRun C). run.0 ≤ first) at.front (with_run at.previous [])
        (All-weaker (λ (run : PlacedRun C). run.0 < first) (λ (run : PlacedRun C). run.0 ≤ first) (λ run h. omega (arith, h)) at.front (front_before first (omega arith)))
        (ones (λ (run : PlacedRun C). run.0 ≤ first) at.previous (by at.previous at.previous_ends)))
        following_after
      where
        by : (previous : Option (PlacedRun C)) → IfSome previous (λ run. (run.0 < first) × (run.1.end ≡ first)) → IfSome previous (λ run. run.0 ≤ first)
        by None h = tt
        by (Some run) h = omega (arith, h.0)

    pub previous-some : (begin : ℕ) → EndsAt runs first begin → (run : Run C) × (at.previous ≡ Some (begin, run))
    previous-some begin (front, run, is, ends) = (run, choose at.previous refl)
      where
        choose : (previous : Option (PlacedRun C)) → at.previous ≡ previous → at.previous ≡ Some (begin, run)
        choose None none =
            let same = sym is ∙ found ∙ ap (λ previous. at.front ++ with_run previous []) none ∙ append-nil at.front in
            let before = holds_of_last (λ (run : PlacedRun C). (run.0 < run.1.end) × (run.1.end < first)) front (begin, run) []
            (subst (λ (l : List (PlacedRun C)). All (λ (run : PlacedRun C). (run.0 < run.1.end) × (run.1.end < first)) l) (sym same) at.fronts) in
            absurd (omega (arith, before.1, ends))
        choose (Some previous) one =
            let same = sym found ∙ is in
            let both = same_from_push at.front front previous (begin, run) (ap (λ previous. at.front ++ with_run previous []) (sym one) ∙ same) in
            one ∙ ap (λ run. Some run) both.1

    pub previous-none : NoneEndsAt runs first → at.previous ≡ None
    previous-none none = choose at.previous refl at.previous_ends
      where
        choose : (previous : Option (PlacedRun C)) → at.previous ≡ previous → IfSome previous (λ run. (run.0 < first) × (run.1.end ≡ first)) → at.previous ≡ None
        choose None is there = is
        choose (Some run) is there = absurd (none at.front run (found ∙ ap (λ previous. at.front ++ with_run previous []) is) there.1)

    pub lookup-next : lookup (is_at (nat_cmp after)) runs ≡ option_map (λ run. run.1) at.next
    lookup-next = ap (λ runs. lookup (is_at (nat_cmp after)) runs) (at.is ∙ split at.front at.previous following) ∙ choose at.next at.next_begins
      where
        by : (previous : Option (PlacedRun C)) → IfSome previous (λ run. (run.0 < first) × (run.1.end ≡ first)) → IfSome previous (λ run. run.0 < after)
        by None h = tt
        by (Some run) h = omega (arith, h.0, ahead)

        low : All (λ (run : PlacedRun C). run.0 < after) (at.front ++ with_run at.previous [])
        low = All-append (λ (run : PlacedRun C). run.0 < after) at.front (with_run at.previous []) (front_before after (omega (arith, ahead)))
            (ones (λ (run : PlacedRun C). run.0 < after) at.previous (by at.previous at.previous_ends))

        choose : (next : Option (PlacedRun C)) → IfSome next (λ run. run.0 ≡ after)
            → lookup (is_at (nat_cmp after)) ((at.front ++ with_run at.previous []) ++ with_run next at.back) ≡ option_map (λ run. run.1) next
        choose None there = lookup-none after (at.front ++ with_run at.previous []) at.back low at.backs
        choose (Some run) there =
            ap (λ n. lookup (is_at (nat_cmp after)) ((at.front ++ with_run at.previous []) ++ (n, run.1) ∷ at.back)) there
            ∙ lookup-at after (at.front ++ with_run at.previous []) at.back run.1 low

    fronts_below : (run : PlacedRun C) → at.previous ≡ Some run → All (λ (other : PlacedRun C). other.0 < run.0) at.front
    fronts_below run is = subst (λ previous. IfSome previous (λ run. All (λ (other : PlacedRun C). other.0 < run.0) at.front)) is at.apart

    -- the run after them is taken out
    removed : (begin : ℕ) (last : Run C) → begin ≤ first → remove_entry (is_at (nat_cmp after)) (at.front ++ (begin, last) ∷ following) ≡ at.front ++ (begin, last) ∷ at.back
    removed begin last near =
        ap (λ runs. remove_entry (is_at (nat_cmp after)) runs) (sym (append_assoc at.front ((begin, last) ∷ []) following))
        ∙ choose at.next at.next_begins ∙ append_assoc at.front ((begin, last) ∷ []) at.back
      where
        front : List (PlacedRun C)
        front = at.front ++ (begin, last) ∷ []

        low : All (λ (run : PlacedRun C). run.0 < after) front
        low = All-append (λ (run : PlacedRun C). run.0 < after) at.front ((begin, last) ∷ []) (front_before after (omega (arith, ahead)))
            (ones (λ (run : PlacedRun C). run.0 < after) (Some (begin, last)) (omega (arith, near, ahead)))

        choose : (next : Option (PlacedRun C)) → IfSome next (λ run. run.0 ≡ after)
            → remove_entry (is_at (nat_cmp after)) (front ++ with_run next at.back) ≡ front ++ at.back
        choose None there = remove-none after front at.back low at.backs
        choose (Some run) there =
            ap (λ n. remove_entry (is_at (nat_cmp after)) (front ++ (n, run.1) ∷ at.back)) there
            ∙ remove-at after front at.back run.1 low

    pub inserted : (last : Run C) → at.previous ≡ None
        → remove_entry (is_at (nat_cmp after)) (insert_entry nat_cmp runs first last) ≡ at.front ++ (first, last) ∷ at.back
    inserted last none =
        ap (λ runs. remove_entry (is_at (nat_cmp after)) (insert_entry nat_cmp runs first last)) (at.is ∙ ap (λ previous. at.front ++ with_run previous following) none)
        ∙ ap (λ runs. remove_entry (is_at (nat_cmp after)) runs) (insert-between first at.front following last (front_before first (omega arith)) following_after)
        ∙ removed first last (omega arith)

    pub previous-found : (run : PlacedRun C) → at.previous ≡ Some run → lookup (is_at (nat_cmp run.0)) runs ≡ Some run.1
    previous-found run is =
        ap (λ runs. lookup (is_at (nat_cmp run.0)) runs) (at.is ∙ ap (λ previous. at.front ++ with_run previous following) is)
        ∙ lookup-at run.0 at.front following run.1 (fronts_below run is)

    pub replaced : (run : PlacedRun C) (last : Run C) → at.previous ≡ Some run
        → remove_entry (is_at (nat_cmp after)) (set_value (is_at (nat_cmp run.0)) runs last) ≡ at.front ++ (run.0, last) ∷ at.back
    replaced run last is =
        ap (λ runs. remove_entry (is_at (nat_cmp after)) (set_value (is_at (nat_cmp run.0)) runs last)) (at.is ∙ ap (λ previous. at.front ++ with_run previous following) is)
        ∙ ap (λ runs. remove_entry (is_at (nat_cmp after)) runs) (set_value-at run.0 at.front following run.1 last (fronts_below run is))
        ∙ removed run.0 last (omega (arith, near.0))
      where
        near : (run.0 < first) × (run.1.end ≡ first)
        near = subst (λ previous. IfSome previous (λ run. (run.0 < first) × (run.1.end ≡ first))) is at.previous_ends

    -- where a run begins just after them
    pub next-found : (run : Run C) → lookup (is_at (nat_cmp after)) runs ≡ Some run → at.next ≡ Some (after, run)
    next-found run is = choose at.next refl at.next_begins
      where
        choose : (next : Option (PlacedRun C)) → at.next ≡ next → IfSome next (λ run. run.0 ≡ after) → at.next ≡ Some (after, run)
        choose None none there = absurd (true≢false (ap is_some (sym is ∙ lookup-next ∙ ap (λ next. option_map (λ run. run.1) next) none)))
        choose (Some other) one there =
            let same = same_Some _ _ (sym (lookup-next ∙ ap (λ next. option_map (λ run. run.1) next) one) ∙ is) in
            one ∙ (λ i. Some (there i, same i))

    -- the others stand around them
    pub around-previous : (begin : ℕ) (last : Run C) → at.previous ≡ Some (begin, last) → AreAround begin after at.front at.back
    around-previous begin last is =
        let near : (begin < first) × (last.end ≡ first) = subst (λ previous. IfSome previous (λ run. (run.0 < first) × (run.1.end ≡ first))) is at.previous_ends in
        (fronts_below (begin, last) is, omega (arith, near.0, ahead), at.backs)

    pub around-first : AreAround first after at.front at.back
    around-first = (front_before first (omega arith), ahead, at.backs)
