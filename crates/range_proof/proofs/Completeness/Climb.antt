-- From the chunks up: the nodes of a range lead to the root of the list, and its sides have the sizes of the nodes beside
-- it.
use Rattle.std.proofs.Common.{◌≡◌, ℕ, zero, suc, ◌<◌, ◌≤◌, ◌^◌, List, [], ◌∷◌, ◌++◌, length, map, refl, sym, ap, subst, ◌∙◌, arith, append_assoc, append-nil, length-append, pow-suc}
use Rattle.std.specs.List.{AllByRecursion}
use Rattle.std.proofs.lemmas.List.{length-map, map-append, nil_from_length, append_cancel_left, append_cancel_right}
use Rattle.std.proofs.lemmas.List.Concat.{flat_map-append}
use Rattle.std.proofs.lemmas.List.Sums.{sum_by-cons}
use Rattle.xet_roots.specs.Groups.{Node, AreGroups, Groups}
use Rattle.xet_roots.specs.Roots.{parent, total_size, IsRoot}
use Rattle.xet_roots.specs.Roots.IsRootBy.{no_node, one_node as one_root, of_parents}
use Rattle.xet_roots.proofs.Grouping.OneCutting.{AreGroups-head, AreGroups-tail, Groups-unique, group_length}
use Rattle.xet_roots.proofs.Roots.Making.{total_size-append}
use Rattle.xet_roots.proofs.Roots.OneRoot.{Groups-few, Groups-some}
use Rattle.level_nodes.specs.Level.{Level}
use Rattle.range_proof.specs.RangeProof.{AreSides, Rises, joined}
use Rattle.range_proof.specs.RangeProof.AreSides.{one_node, beside}
use Rattle.range_proof.proofs.Parts.{total_size-parents}
use Rattle.range_proof.proofs.Soundness.Descent.{lefts, rights}

-- ---- Parts of a division into groups

AreGroups-front : (groups more : List (List Node)) → AreGroups (groups ++ more) → AreGroups groups
AreGroups-front [] more h = tt
AreGroups-front (group ∷ []) more h = AreGroups-head group more h
AreGroups-front (group ∷ next ∷ groups) more h = (h.0, h.1, AreGroups-front (next ∷ groups) more h.2)

AreGroups-back : (before groups : List (List Node)) → AreGroups (before ++ groups) → AreGroups groups
AreGroups-back [] groups h = h
AreGroups-back (group ∷ before) groups h = AreGroups-back before groups (AreGroups-tail group (before ++ groups) h)

pub joined-append : (groups more : List (List Node)) → joined (groups ++ more) ≡ joined groups ++ joined more
joined-append groups more = flat_map-append (λ (group : List Node). group) groups more

pub parents_parts : (before hit after : List (List Node)) →
    map parent (before ++ hit ++ after) ≡ map parent before ++ map parent hit ++ map parent after
parents_parts before hit after =
    map-append parent (before ++ hit) after ∙ ap (λ l. l ++ map parent after) (map-append parent before hit)

-- the groups that a range lies in, and what they have beside it
pub Groups-hit : (front range back left right : List Node) (before hit after : List (List Node)) →
    Groups (front ++ range ++ back) (before ++ hit ++ after) → front ≡ joined before ++ left → back ≡ right ++ joined after →
    Groups (left ++ range ++ right) hit
Groups-hit front range back left right before hit after cutting is_front is_back =
    let whole : joined before ++ (joined hit ++ joined after) ≡ joined before ++ ((left ++ range ++ right) ++ joined after) =
    sym (append_assoc (joined before) (joined hit) (joined after)) ∙ ap (λ l. l ++ joined after) (sym (joined-append before hit))
    ∙ sym (joined-append (before ++ hit) after) ∙ cutting.joined
    ∙ ap (λ l. l ++ range ++ back) is_front ∙ ap (λ l. joined before ++ left ++ range ++ l) is_back ∙ simp append_assoc in
    record {
      joined = append_cancel_right _ _ (joined after) (append_cancel_left (joined before) _ _ whole);
      are_groups = AreGroups-back before hit (AreGroups-front (before ++ hit) after cutting.are_groups);
    }

pub hit_some : (left range right : List Node) (hit : List (List Node)) → Groups (left ++ range ++ right) hit → 0 < length range → 0 < length hit
hit_some left range right hit cutting some =
    Groups-some (left ++ range ++ right) hit cutting (omega (arith, length-append (left ++ range) right, length-append left range))

pub parents_some : (hit : List (List Node)) → 0 < length hit → 0 < length (map parent hit)
parents_some hit some = omega (arith, length-map hit parent)

-- ---- At the top

record IsAlone (front range back : List Node) : Type 0 where
  no_front : front ≡ []
  no_back : back ≡ []
  one : length range ≡ 1

alone : (front range back : List Node) → length (front ++ range ++ back) ≤ 1 → 0 < length range → IsAlone front range back
alone front range back few some =
    let len = length-append (front ++ range) back in
    let len' = length-append front range in
    record {
      no_front = nil_from_length front (omega arith);
      no_back = nil_from_length back (omega arith);
      one = omega arith;
    }

root_of_one : (nodes : List Node) (root : List ℕ) → length nodes ≡ 1 → IsRoot nodes root → (size : ℕ) × (nodes ≡ (root, size) ∷ [])
root_of_one nodes root one no_node = absurd (omega arith)
root_of_one nodes root one (one_root {size = size}) = (size, refl)
root_of_one nodes root one (of_parents two cutting is_root) = absurd (omega arith)

root_of_parents : (nodes : List Node) (groups : List (List Node)) (root : List ℕ) → 2 ≤ length nodes → Groups nodes groups → IsRoot nodes root → IsRoot (map parent groups) root
root_of_parents nodes groups root two cutting no_node = absurd (omega arith)
root_of_parents nodes groups root two cutting one_root = absurd (omega arith)
root_of_parents nodes groups root two cutting (of_parents _ cutting' is_root) =
    subst (λ (l : List (List Node)). IsRoot (map parent l) root) (Groups-unique _ _ _ cutting' cutting) is_root

-- ---- All levels up

-- the range leads to the root
pub rises : {front range back : List Node} {levels : List Level} (root : List ℕ) → AreSides front range back levels → IsRoot (front ++ range ++ back) root →
    0 < length range → (size : ℕ) × Rises levels range ((root, size) ∷ [])
rises {front} {range} {back} root (one_node few) is_root some =
    let only = alone front range back few some in
    let whole : front ++ range ++ back ≡ range = ap (λ l. l ++ range ++ back) only.no_front ∙ ap (λ l. range ++ l) only.no_back ∙ append-nil range in
    root_of_one range root only.one (subst (λ (l : List Node). IsRoot l root) whole is_root)
rises {front} {range} {back} root (beside {left = left} {right = right} before hit after two cutting is_front is_back first last up) is_root some =
    let hit_cutting = Groups-hit front range back left right before hit after cutting is_front is_back in
    let above = root_of_parents _ (before ++ hit ++ after) root two cutting is_root in
    let top = rises root up (subst (λ (l : List Node). IsRoot l root) (parents_parts before hit after) above) (parents_some hit (hit_some left range right hit hit_cutting some)) in
    (top.0, (hit, hit_cutting, top.1))

-- the sides have the sizes of the nodes beside the range
pub sizes_beside : {front range back : List Node} {levels : List Level} → AreSides front range back levels → 0 < length range →
    (lefts levels ≡ total_size front) × (rights levels ≡ total_size back)
sizes_beside {front} {range} {back} (one_node few) some =
    let only = alone front range back few some in
    (ap total_size (sym only.no_front), ap total_size (sym only.no_back))
sizes_beside {front} {range} {back} (beside {left = left} {right = right} before hit after {levels = levels} two cutting is_front is_back first last up) some =
    let hit_cutting = Groups-hit front range back left right before hit after cutting is_front is_back in
    let above = sizes_beside up (parents_some hit (hit_some left range right hit hit_cutting some)) in
    let sides : Level = record { left = left; right = right } in
    let front_size = ap total_size is_front in
    let back_size = ap total_size is_back in (
      omega (arith, total_size-append (joined before) left, total_size-parents before, sum_by-cons (λ (s : Level). total_size s.left) sides levels),
      omega (arith, total_size-append right (joined after), total_size-parents after, sum_by-cons (λ (s : Level). total_size s.right) sides levels),
    )

-- at most k levels above at most 2 ^ k nodes
pub few_levels : {front range back : List Node} {levels : List Level} → AreSides front range back levels → (k : ℕ) → length (front ++ range ++ back) ≤ 2 ^ k → length levels ≤ k
few_levels (one_node few) k h = omega arith
few_levels (beside before hit after two cutting is_front is_back first last up) zero h = absurd (omega arith)
few_levels (beside before hit after two cutting is_front is_back first last up) (suc k) h =
    let groups = Groups-few _ (before ++ hit ++ after) cutting in
    let len = ap length (parents_parts before hit after) in
    let above = few_levels up k (omega (arith, pow-suc 2 k, length-map (before ++ hit ++ after) parent)) in
    omega arith

-- the first and the last group of some
pub record IsFirst (groups : List (List Node)) (group : List Node) : Type 0 where
  pub more : List (List Node)
  pub parts : groups ≡ group ∷ more

pub record IsLast (groups : List (List Node)) (group : List Node) : Type 0 where
  pub more : List (List Node)
  pub parts : groups ≡ more ++ group ∷ []

pub first_of_groups : (groups : List (List Node)) → 0 < length groups → (group : List Node) × IsFirst groups group
first_of_groups [] some = absurd (omega arith)
first_of_groups (group ∷ groups) some = (group, record { more = groups; parts = refl })

pub last_of_groups : (groups : List (List Node)) → 0 < length groups → (group : List Node) × IsLast groups group
last_of_groups [] some = absurd (omega arith)
last_of_groups (group ∷ []) some = (group, record { more = []; parts = refl })
last_of_groups (group ∷ next ∷ groups) some =
    let last = last_of_groups (next ∷ groups) (omega arith) in
    (last.0, record { more = group ∷ last.1.more; parts = ap (λ l. group ∷ l) last.1.parts })

-- a side has at most 8 nodes
pub few_beside : {front range back : List Node} {levels : List Level} → AreSides front range back levels → 0 < length range →
    AllByRecursion (λ sides. length sides.left ≤ 8) levels × AllByRecursion (λ sides. length sides.right ≤ 8) levels
few_beside (one_node few) some = (tt, tt)
few_beside {front} {range} {back} (beside {left = left} {right = right} before hit after two cutting is_front is_back first last up) some =
    let hit_cutting = Groups-hit front range back left right before hit after cutting is_front is_back in
    let groups_some = hit_some left range right hit hit_cutting some in
    let above = few_beside up (parents_some hit groups_some) in
    let one = first_of_groups hit groups_some in
    let other = last_of_groups hit groups_some in
    let left_few = first one.0 one.1.more one.1.parts in
    let right_few = last other.1.more other.0 other.1.parts in
    let one_nine = group_length [] one.0 one.1.more (subst AreGroups one.1.parts hit_cutting.are_groups) in
    let other_nine = group_length other.1.more other.0 [] (subst AreGroups other.1.parts hit_cutting.are_groups) in
    let one_most = one_nine.1 in
    let other_most = other_nine.1 in
    ((omega arith, above.0), (omega arith, above.1))
