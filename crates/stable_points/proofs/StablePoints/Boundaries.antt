-- The lemma of stable boundaries: all groups of a list that ends stable are full, so the groups of a list that follows
-- come after them.
use Rattle.std.proofs.Common.{◌≡◌, ◌<◌, ◌≤◌, List, [], ◌∷◌, ◌++◌, length, refl, sym, ap, subst, ◌∙◌, inl, inr, arith, append_assoc, append-nil, length-append}
use Rattle.xet_roots.specs.Groups.{Node, Cut, IsGroup, IsFull, AreGroups, Groups}
use Rattle.stable_points.specs.StablePoints.{EndsStable, IsGroupBoundary}
use Rattle.xet_roots.proofs.Grouping.OneCutting.{joined_nodes, AreGroups-head}
use Rattle.stable_points.proofs.StablePoints.CutPlaces.{not_both, not_among, back_of, EndsFirst, EndsAfter, FirstInFront, cut_place, after_cut, EndsFirst-from_front, EndsStable-append, after_one, EndsAfter-ends}

-- each is a full group
abbrev pub AreFull : List (List Node) → Type 0
AreFull [] = Unit {0}
AreFull (group ∷ more) = IsGroup group × IsFull group × AreFull more

AreFull-append : (groups others : List (List Node)) → AreFull groups → AreGroups others → AreGroups (groups ++ others)
AreFull-append [] others h k = k
AreFull-append (group ∷ []) [] h k = h.0
AreFull-append (group ∷ []) (other ∷ others) h k = (h.0, h.1, k)
AreFull-append (group ∷ next ∷ groups) others h k = (h.0, h.1, AreFull-append (next ∷ groups) others h.2 k)

-- no list whose only natural cut is its last node begins with a full group that isn't all of it
full_is_no_beginning : (group rest : List Node) → IsFull group → 0 < length rest → EndsFirst (group ++ rest) → ⊥
full_is_no_beginning group rest full some h =
    let ends = back_of group rest h.between h.last some (h.parts) in
    elim full.ends [
      | inl cut ↦
          let whole : h.between ≡ cut.0 ++ cut.1 ∷ ends.0 =
          ends.1 ∙ ap (λ (l : List Node). l ++ ends.0) cut.2 ∙ append_assoc cut.0 (cut.1 ∷ []) ends.0 in
          not_among h.between cut.0 cut.1 ends.0 h.gap.no_cut whole cut.3
      | inr nine ↦ let len = ap length ends.1 in let six = h.gap.six in omega (arith, length-append group ends.0)
    ]

cut_is_last : (before : List Node) (first : Node) (gap : List Node) → IsGroup (before ++ first ∷ gap) → Cut first → 2 ≤ length before → gap ≡ []
cut_is_last before first [] is_group cut two = refl
cut_is_last before first (x ∷ gap) is_group cut two =
    absurd (not_both first (is_group.no_cut_inside before first (x ∷ gap) refl two (omega arith)) cut)

-- in a group of nine, a natural cut that leaves at most six nodes after it is the last node
gap_in_nine : (group rest : List Node) (h : FirstInFront group rest) → IsGroup group → length group ≡ 9 → h.start ≡ []
gap_in_nine group rest h is_group nine =
    let len = ap length h.front_parts in
    let six = h.gap.six in
    cut_is_last h.before h.first h.start (subst IsGroup h.front_parts is_group) h.first_cut
    (omega (arith, length-append h.before (h.first ∷ h.start), length-append h.start h.between))

-- what follows a full group ends stable after a natural cut where the whole does
after_group : (group rest : List Node) → IsGroup group → IsFull group → 0 < length rest → EndsAfter (group ++ rest) → EndsAfter rest
after_group group rest is_group full some (inr h) = absurd (full_is_no_beginning group rest full some h)
after_group group rest is_group full some (inl h) = elim full.ends [
  | inl cut ↦ after_cut group rest cut some h
  | inr nine ↦ elim (cut_place group rest some h) [
    | inl stable ↦ inl stable
    | inr place ↦ inr (EndsFirst-from_front group rest place (gap_in_nine group rest place is_group nine))
  ]
]

full_groups : (groups : List (List Node)) → AreGroups groups → EndsAfter (joined_nodes groups) → AreFull groups
full_groups [] h ends = tt
full_groups (group ∷ []) h ends =
    let whole : EndsAfter group = subst EndsAfter (append-nil group) ends in
    let last = EndsAfter-ends group whole in
    (h, record { at_least_three = last.1; ends = inl last.0 }, tt)
full_groups (group ∷ next ∷ groups) h ends =
    let some = (AreGroups-head next groups h.2).not_empty in
    let rest = after_group group (joined_nodes (next ∷ groups)) h.0 h.1 (omega (arith, length-append next (joined_nodes groups))) ends in
    (h.0, h.1, full_groups (next ∷ groups) h.2 rest)

joined-append : (groups others : List (List Node)) → joined_nodes (groups ++ others) ≡ joined_nodes groups ++ joined_nodes others
joined-append [] others = refl
joined-append (group ∷ groups) others =
    ap (λ (l : List Node). group ++ l) (joined-append groups others) ∙ sym (append_assoc group (joined_nodes groups) (joined_nodes others))

-- the groups of two parts, where the place between them is stable
pub Groups-after : (left right : List Node) (groups others : List (List Node)) → EndsAfter left → Groups left groups → Groups right others →
    Groups (left ++ right) (groups ++ others)
Groups-after left right groups others ends cutting rest = record {
  joined =
      joined-append groups others
      ∙ ap (λ (l : List Node). l ++ joined_nodes others) cutting.joined
      ∙ ap (λ (l : List Node). left ++ l) rest.joined;
  are_groups = AreFull-append groups others
      (full_groups groups cutting.are_groups (subst EndsAfter (sym cutting.joined) ends))
      rest.are_groups;
}

pub Groups-at_stable : (cut : Node) (left right : List Node) (groups others : List (List Node)) → Cut cut → EndsStable (cut ∷ left) → Groups left groups → Groups right others →
    Groups (left ++ right) (groups ++ others)
Groups-at_stable cut left right groups others is_cut ends = Groups-after left right groups others (after_one cut left is_cut ends)

-- either form of the lemma: nodes stand before a stable end, or one natural cut does
pub boundary_inside : (before left after : List Node) → EndsStable left → IsGroupBoundary (before ++ left) after
boundary_inside before left after ends = λ groups others. Groups-after (before ++ left) after groups others (inl (EndsStable-append before left ends))

pub boundary_after_cut : (cut : Node) (left after : List Node) → Cut cut → EndsStable (cut ∷ left) → IsGroupBoundary left after
boundary_after_cut cut left after is_cut ends = λ groups others. Groups-at_stable cut left after groups others is_cut ends

-- a stable place stays a boundary whatever nodes stand around it
pub boundary_around : (left right : List Node) → EndsStable left → (before after : List Node) → IsGroupBoundary (before ++ left) (right ++ after)
boundary_around left right ends before after = boundary_inside before left (right ++ after) ends
