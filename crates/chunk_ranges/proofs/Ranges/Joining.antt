-- Joining ranges of any kind, one after another.
use Rattle.std.proofs.Common.{◌≡◌, ℕ, ◌+◌, ◌≤◌, Bool, false, Some, List, [], ◌∷◌, ◌++◌, flat_map, refl, sym, ap, subst, ◌∙◌, arith, append_assoc, append-nil}
use Rattle.std.specs.List.{AllZip}
use Rattle.std.proofs.lemmas.List.Sums.{sum_by-append, sum_by-cons}
use Rattle.xet_roots.specs.Groups.{Node}
use Rattle.chunk_ranges.specs.Ranges.{NoMarkBetween, total_of}
use Rattle.chunk_ranges.specs.Steps.RangeMerging.{JoinsTo, start_of_first, end_of_last}

-- ---- ranges of any kind, joined one after another

module _ {R : Type 0} (stands : R → List Node → Type 0) (start end : R → Bool) (total : R → ℕ) where
  pub JoinsTo-all : (ranges : List R) → NoMarkBetween start end ranges → JoinsTo stands start end total ranges ranges
  JoinsTo-all ranges marks = record { marks = marks; first = refl; last = refl; sum = refl; lists = λ lists all. (lists, all, refl) }

  pub unmarked_at : (before after : List R) (a b : R) → NoMarkBetween start end (before ++ a ∷ b ∷ after) → (end a ≡ false) × (start b ≡ false)
  unmarked_at [] after a b marks = (marks.0, marks.1)
  unmarked_at (x ∷ []) after a b marks = (marks.2.0, marks.2.1)
  unmarked_at (x ∷ y ∷ before) after a b marks = unmarked_at (y ∷ before) after a b marks.2

  pub total_at : (before after : List R) (a b : R) → total a + total b ≤ total_of total (before ++ a ∷ b ∷ after)
  total_at before after a b = omega (arith, sum_by-append total before (a ∷ b ∷ after), sum_by-cons total a (b ∷ after), sum_by-cons total b after)

  module _ (a b ab : R) (same_start : start ab ≡ start a) (same_end : end ab ≡ end b) (sum : total ab ≡ total a + total b)
      (joined : (front back : List Node) → stands a front → stands b back → stands ab (front ++ back)) where
    join_unmarked : (before after : List R) → NoMarkBetween start end (before ++ a ∷ b ∷ after) → NoMarkBetween start end (before ++ ab ∷ after)
    join_unmarked [] [] marks = tt
    join_unmarked [] (c ∷ after) marks = (same_end ∙ marks.2.0, marks.2.1, marks.2.2)
    join_unmarked (x ∷ []) [] marks = (marks.0, same_start ∙ marks.1, tt)
    join_unmarked (x ∷ []) (c ∷ after) marks = (marks.0, same_start ∙ marks.1, (same_end ∙ marks.2.2.0, marks.2.2.1, marks.2.2.2))
    join_unmarked (x ∷ y ∷ before) after marks = (marks.0, marks.1, join_unmarked (y ∷ before) after marks.2)

    join_first : (before after : List R) → start_of_first start (before ++ ab ∷ after) ≡ start_of_first start (before ++ a ∷ b ∷ after)
    join_first [] after = ap Some same_start
    join_first (x ∷ before) after = refl

    join_last : (before after : List R) → end_of_last end (before ++ ab ∷ after) ≡ end_of_last end (before ++ a ∷ b ∷ after)
    join_last [] [] = ap Some same_end
    join_last [] (c ∷ after) = refl
    join_last (x ∷ []) [] = ap Some same_end
    join_last (x ∷ []) (c ∷ after) = refl
    join_last (x ∷ y ∷ before) after = join_last (y ∷ before) after

    join_lists : (before after : List R) (lists : List (List Node)) → AllZip stands (before ++ a ∷ b ∷ after) lists →
        (others : List (List Node)) × AllZip stands (before ++ ab ∷ after) others × (flat_map (λ list. list) others ≡ flat_map (λ list. list) lists)
    join_lists [] after [] all = elim all [ ]
    join_lists [] after (front ∷ []) all = elim all.1 [ ]
    join_lists [] after (front ∷ back ∷ lists) all =
        ((front ++ back) ∷ lists, (joined front back all.0 all.1.0, all.1.1), append_assoc front back (flat_map (λ list. list) lists))
    join_lists (x ∷ before) after [] all = elim all [ ]
    join_lists (x ∷ before) after (list ∷ lists) all =
        let rest = join_lists before after lists all.1 in
        (list ∷ rest.0, (all.0, rest.1), ap (λ (l : List Node). list ++ l) rest.2)

    pub JoinsTo-join : (ranges before after : List R) → JoinsTo stands start end total ranges (before ++ a ∷ b ∷ after) → JoinsTo stands start end total ranges (before ++ ab ∷ after)
    JoinsTo-join ranges before after h = record {
      marks = join_unmarked before after h.marks;
      first = join_first before after ∙ h.first;
      last = join_last before after ∙ h.last;
      sum = let so_far = h.sum in omega (arith, sum_by-append total before (ab ∷ after), sum_by-append total before (a ∷ b ∷ after), sum_by-cons total ab after, sum_by-cons total a (b ∷ after), sum_by-cons total b after);
      lists = λ lists all.
          let so_far = h.lists lists all in
          let next = join_lists before after so_far.0 so_far.1 in
          (next.0, next.1, next.2 ∙ so_far.2);
    }

  pub JoinsTo-one : (ranges : List R) (range : R) → JoinsTo stands start end total ranges (range ∷ []) → (lists : List (List Node)) → AllZip stands ranges lists →
      stands range (flat_map (λ list. list) lists)
  JoinsTo-one ranges range h lists all = let found = h.lists lists all in one found.0 found.1 found.2 where
    one : (others : List (List Node)) → AllZip stands (range ∷ []) others → flat_map (λ list. list) others ≡ flat_map (λ list. list) lists → stands range (flat_map (λ list. list) lists)
    one [] zip e = elim zip [ ]
    one (list ∷ []) zip e = subst (stands range) (sym (append-nil list) ∙ e) zip.0
    one (list ∷ next ∷ others) zip e = elim zip.1 [ ]
