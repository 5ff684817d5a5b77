-- The law of groups: each list of nodes has exactly one division into groups.
use Rattle.std.proofs.Common.{◌≡◌, ℕ, ◌+◌, ◌<◌, ◌≤◌, ◌⊎◌, true, false, List, [], ◌∷◌, ◌++◌, length, flat_map, refl, sym, ap, subst, ◌∙◌, inl, inr, zero, arith, append_assoc, append-nil, length-append, suc}
use Rattle.std.proofs.lemmas.Bool.{cases_lt, false≢true}
use Rattle.xet_roots.specs.Groups.{Node, is_cut, Cut, NotCut, IsGroup, IsFull, AreGroups, Groups}
use Rattle.xet_roots.specs.Steps.Scan.{IsFirstGroup}
use Rattle.xet_roots.proofs.Lists.Places.{meets}
use Rattle.xet_roots.proofs.Lists.Places.Meets.{same, earlier, later}

abbrev pub joined_nodes : List (List Node) → List Node
joined_nodes groups = flat_map (λ (group : List Node). group) groups

pub AreGroups-head : (group : List Node) (groups : List (List Node)) → AreGroups (group ∷ groups) → IsGroup group
AreGroups-head group [] h = h
AreGroups-head group (next ∷ others) h = h.0

pub AreGroups-tail : (group : List Node) (groups : List (List Node)) → AreGroups (group ∷ groups) → AreGroups groups
AreGroups-tail group [] h = tt
AreGroups-tail group (next ∷ others) h = h.2

-- a group before which more nodes stand is full
AreGroups-full : (group : List Node) (groups : List (List Node)) (x : Node) (rest : List Node) →
    AreGroups (group ∷ groups) → joined_nodes groups ≡ x ∷ rest → IsFull group
AreGroups-full group [] x rest h e = absurd (let clash : ⊥ = cc in clash)
AreGroups-full group (next ∷ others) x rest h e = h.1

-- a full group is no proper beginning of a group
not_longer : (group : List Node) (x : Node) (gap : List Node) → IsFull group → IsGroup (group ++ x ∷ gap) → ⊥
not_longer group x gap full longer = elim full.ends [
  | inl cut ↦
      let before = cut.0 in
      let last = cut.1 in
      let whole : group ++ x ∷ gap ≡ before ++ last ∷ (x ∷ gap) = ap (λ (l : List Node). l ++ x ∷ gap) cut.2 ∙ append_assoc before (last ∷ []) (x ∷ gap) in
      let len : length group ≡ length before + 1 = ap length cut.2 ∙ length-append before (last ∷ []) in
      let three = full.at_least_three in
      let two : 2 ≤ length before = omega arith in
      let not_cut = longer.no_cut_inside before last (x ∷ gap) whole two (omega arith) in
      false≢true (sym not_cut ∙ cut.3)
  | inr nine ↦
      let most = longer.at_most_nine in
      let len = length-append group (x ∷ gap) in
      omega arith
]

none_from_empty : (group : List Node) (groups : List (List Node)) → AreGroups (group ∷ groups) → joined_nodes (group ∷ groups) ≡ [] → ⊥
none_from_empty group groups h e =
    let some = (AreGroups-head group groups h).not_empty in
    let len = ap length e in
    omega (arith, length-append group (joined_nodes groups))

same_groups : (groups others : List (List Node)) →
    joined_nodes groups ≡ joined_nodes others → AreGroups groups → AreGroups others → groups ≡ others
same_groups [] [] e h k = refl
same_groups [] (o ∷ os) e h k = absurd (none_from_empty o os k (sym e))
same_groups (g ∷ gs) [] e h k = absurd (none_from_empty g gs h e)
same_groups (g ∷ gs) (o ∷ os) e h k = elim (meets g (joined_nodes gs) o (joined_nodes os) e) [
  | same p q ↦ let rest = same_groups gs os q (AreGroups-tail g gs h) (AreGroups-tail o os k) in cc
  | earlier x gap p q ↦ absurd (not_longer g x gap (AreGroups-full g gs x _ h q) (subst IsGroup p (AreGroups-head o os k)))
  | later x gap p q ↦ absurd (not_longer o x gap (AreGroups-full o os x _ k q) (subst IsGroup p (AreGroups-head g gs h)))
]

-- there is at most one cutting
pub Groups-unique : (nodes : List Node) (groups others : List (List Node)) → Groups nodes groups → Groups nodes others → groups ≡ others
Groups-unique nodes groups others h k = same_groups groups others (h.joined ∙ sym k.joined) h.are_groups k.are_groups

-- ---- there is one

pub Groups-push : (group rest : List Node) (groups : List (List Node)) → IsFirstGroup group rest → Groups rest groups → Groups (group ++ rest) (group ∷ groups)
Groups-push group rest [] first tail = record {
  joined = ap (λ (l : List Node). group ++ l) tail.joined;
  are_groups = first.is_group;
}
Groups-push group rest (next ∷ others) first tail = record {
  joined = ap (λ (l : List Node). group ++ l) tail.joined;
  are_groups = (
    first.is_group,
    elim first.full [
      | inl none ↦ absurd (none_from_empty next others tail.are_groups (tail.joined ∙ none))
      | inr full ↦ full
    ],
    tail.are_groups,
  );
}

pub is_or_not_cut : (node : Node) → Cut node ⊎ NotCut node
is_or_not_cut node = elim (is_cut node) as (λ b. (b ≡ true) ⊎ (b ≡ false)) [ true ↦ inl refl | false ↦ inr refl ]

-- some nodes that a group may begin with and go on
record IsOpen (nodes : List Node) : Type 0 where
  few : length nodes < 9
  no_cut : (before : List Node) (node : Node) (after : List Node) → nodes ≡ before ++ node ∷ after → 2 ≤ length before → NotCut node

abbrev pub FirstGroupOf : List Node → Type 0
FirstGroupOf nodes = (group : List Node) × (rest : List Node) × (nodes ≡ group ++ rest) × IsFirstGroup group rest

-- where one node follows some others, a decomposition falls at that node or among the others
abbrev PushedCases : List Node → Node → List Node → Node → List Node → Type 0
PushedCases front last before node after =
    ((front ≡ before) × (last ≡ node) × (after ≡ [])) ⊎ ((gap : List Node) × (front ≡ before ++ node ∷ gap))

pushed : (front : List Node) (last : Node) (before : List Node) (node : Node) (after : List Node) →
    front ++ last ∷ [] ≡ before ++ node ∷ after → PushedCases front last before node after
pushed front last before node after e = elim (meets front (last ∷ []) before (node ∷ after) e) [
  | same p q ↦ inl (p, cc, cc)
  | earlier x gap p q ↦ absurd (let len = ap length q in omega (arith, length-append gap (node ∷ after)))
  | later x gap p q ↦ let at : x ≡ node = cc in inr (gap, subst (λ (y : Node). front ≡ before ++ y ∷ gap) at p)
]

-- what an open group and any next node make is a group
IsGroup-push : (front : List Node) (last : Node) → IsOpen front → IsGroup (front ++ last ∷ [])
IsGroup-push front last h = record {
  not_empty = omega (arith, length-append front (last ∷ []));
  at_most_nine = let few = h.few in omega (arith, length-append front (last ∷ []));
  no_cut_inside = λ before node after e two more. elim (pushed front last before node after e) [
    | inl at ↦ absurd (let none = ap length at.2 in omega arith)
    | inr among ↦ h.no_cut before node among.0 among.1 two
  ];
}

IsOpen-push : (front : List Node) (last : Node) → IsOpen front → length front < 8 → (2 ≤ length front → NotCut last) → IsOpen (front ++ last ∷ [])
IsOpen-push front last h few no_cut = record {
  few = omega (arith, length-append front (last ∷ []));
  no_cut = λ before node after e two. elim (pushed front last before node after e) [
    | inl at ↦ subst NotCut at.1 (no_cut (let len = ap length at.0 in omega arith))
    | inr among ↦ h.no_cut before node among.0 among.1 two
  ];
}

first_group_from : (front nodes : List Node) → IsOpen front → 0 < length (front ++ nodes) → FirstGroupOf (front ++ nodes)
first_group_from front [] h some =
    let e = append-nil front in
    let not_empty : 0 < length front = let len = ap length e in omega arith in (
      front,
      [],
      refl,
      record {
        is_group = record {
          not_empty = not_empty;
          at_most_nine = let few = h.few in omega arith;
          no_cut_inside = λ before node after p two _. h.no_cut before node after p two;
        };
        full = inl refl;
      },
    )
first_group_from front (node ∷ nodes) h some =
    let regrouped = append_assoc front (node ∷ []) nodes in
    let closed : ((nodes ≡ []) ⊎ IsFull (front ++ node ∷ [])) → FirstGroupOf (front ++ node ∷ nodes) = λ full.
    (front ++ node ∷ [], nodes, sym regrouped, record { is_group = IsGroup-push front node h; full = full }) in
    let opened : length front < 8 → (2 ≤ length front → NotCut node) → FirstGroupOf (front ++ node ∷ nodes) = λ few no_cut.
    subst FirstGroupOf regrouped (first_group_from (front ++ node ∷ []) nodes (IsOpen-push front node h few no_cut) (omega (arith, length-append (front ++ node ∷ []) nodes, length-append front (node ∷ [])))) in
    let len = length-append front (node ∷ []) in
    elim (cases_lt (length front) 8) [
      | inl few ↦ elim (cases_lt (length front) 2) [
        | inl short ↦ opened few (λ two. absurd (omega arith))
        | inr two ↦ elim (is_or_not_cut node) [
          | inl cut ↦ closed (inr (record { at_least_three = omega arith; ends = inl (front, node, refl, cut) }))
          | inr no_cut ↦ opened few (λ _. no_cut)
        ]
      ]
      | inr many ↦ closed (inr (record { at_least_three = omega arith; ends = inr (let few = h.few in omega arith) }))
    ]

IsOpen-nil : IsOpen []
IsOpen-nil = record {
  few = omega arith;
  no_cut = λ before node after e two. absurd (let len = ap length e in omega (arith, length-append before (node ∷ after)));
}

pub first_group : (nodes : List Node) → 0 < length nodes → FirstGroupOf nodes
first_group nodes some = first_group_from [] nodes IsOpen-nil some

-- there is a cutting, by induction on a bound on the length
groups_within : (bound : ℕ) (nodes : List Node) → length nodes ≤ bound → (groups : List (List Node)) × Groups nodes groups
groups_within bound [] h = ([], record { joined = refl; are_groups = tt })
groups_within zero (node ∷ nodes) h = absurd (omega arith)
groups_within (suc bound) (node ∷ nodes) h =
    let first = first_group (node ∷ nodes) (omega arith) in
    let group = first.0 in
    let rest = first.1 in
    let some = first.3.is_group.not_empty in
    let len = ap length first.2 in
    let tail = groups_within bound rest (omega (arith, length-append group rest)) in
    (group ∷ tail.0, subst (λ (l : List Node). Groups l (group ∷ tail.0)) (sym first.2) (Groups-push group rest tail.0 first.3 tail.1))

pub Groups-exist : (nodes : List Node) → (groups : List (List Node)) × Groups nodes groups
Groups-exist nodes = groups_within (length nodes) nodes (omega arith)

-- how long the groups of a cutting are
pub group_length : (before : List (List Node)) (group : List Node) (after : List (List Node)) → AreGroups (before ++ group ∷ after) →
    (1 ≤ length group) × (length group ≤ 9) × (0 < length after → 3 ≤ length group)
group_length [] group [] h = (h.not_empty, h.at_most_nine, λ some. absurd (omega arith))
group_length [] group (next ∷ after) h = (h.0.not_empty, h.0.at_most_nine, λ _. h.1.at_least_three)
group_length (first ∷ before) group after h = group_length before group after (AreGroups-tail first (before ++ group ∷ after) h)
