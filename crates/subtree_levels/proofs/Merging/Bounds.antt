-- How many parents a merge of two subtrees makes, and how many levels they have.
use Rattle.std.proofs.Common.{ℕ, ◌+◌, ◌*◌, ◌≤◌, Bool, List, [], ◌∷◌, ◌++◌, length, ap, arith, length-append}
use Rattle.std.proofs.lemmas.List.{length-map}
use Rattle.xet_roots.specs.Groups.{Node}
use Rattle.subtree_levels.specs.Levels.{Level, node_count}
use Rattle.subtree_levels.specs.Canonical.{IsCanonicalBy}
use Rattle.subtree_levels.specs.Canonical.IsCanonicalBy.{whole, collapsed}
use Rattle.subtree_levels.specs.Steps.LevelMerging.{above, between, IsMergeSplit, IsLevelMerge}
use Rattle.subtree_levels.specs.Steps.LevelMerging.IsMergeSplit.{both, left_alone, right_alone}
use Rattle.subtree_levels.specs.Steps.LevelMerging.IsLevelMerge.{all_in_sight, appended, prepended, step}
use Rattle.xet_roots.proofs.Roots.OneRoot.{Groups-few}
use Rattle.subtree_levels.proofs.Canonical.Bounds.{few_nodes}

-- the nodes in sight are those carried and some of the operands' first levels
pub between_few : (xs : List Level) (carry : List Node) (ys : List Level) →
    length (between xs carry ys) + (node_count (above xs) + node_count (above ys)) ≤ node_count xs + (length carry + node_count ys)
between_few [] carry [] = omega arith
between_few [] carry (y ∷ []) = omega (arith, length-append carry y.left)
between_few [] carry (y ∷ next ∷ ys) = omega (arith, length-append carry y.left)
between_few (x ∷ []) carry [] = omega (arith, length-append x.left carry)
between_few (x ∷ []) carry (y ∷ []) = omega (arith, length-append x.left (carry ++ y.left), length-append carry y.left)
between_few (x ∷ []) carry (y ∷ next ∷ ys) = omega (arith, length-append x.left (carry ++ y.left), length-append carry y.left)
between_few (x ∷ next ∷ xs) carry [] = omega (arith, length-append x.right carry)
between_few (x ∷ next ∷ xs) carry (y ∷ []) = omega (arith, length-append x.right (carry ++ y.left), length-append carry y.left)
between_few (x ∷ next ∷ xs) carry (y ∷ next' ∷ ys) = omega (arith, length-append x.right (carry ++ y.left), length-append carry y.left)

module _ (make : List Node → Node) (at_start at_end : Bool) where
  -- what is collapsed is in sight, and an operand has a level less above
  pub middle_few : {xs ys : List Level} {seen left middle right : List Node} → IsMergeSplit at_start at_end xs ys seen left middle right → length middle ≤ length seen
  middle_few (both left_is seen right_is) = let len = ap length seen in omega arith
  middle_few {middle = middle} {right = right} (left_alone left_is seen high) = let len = ap length seen in omega (arith, length-append middle right)
  middle_few {left = left} {middle = middle} (right_alone seen low right_is) = let len = ap length seen in omega (arith, length-append left middle)

  -- the work of a list: twice as much is at most its nodes, and two for each level below the top
  pub canonical_work : {nodes : List Node} {levels : List Level} {work : ℕ} → IsCanonicalBy make at_start at_end nodes levels work →
      2 * work + 2 ≤ length nodes + 2 * length levels
  canonical_work (whole none) = omega arith
  canonical_work (collapsed {nodes} {left} {middle} {right} {groups} {levels} {work} split cutting canonical) =
      let rest = canonical_work canonical in
      let few = Groups-few middle groups cutting in
      let len = ap length split.parts in
      omega (arith, length-map groups make, length-append left (middle ++ right), length-append middle right)

  -- the work of a merge, likewise
  pub merge_work : {xs ys levels : List Level} {carry : List Node} {work : ℕ} → IsLevelMerge make at_start at_end xs carry ys levels work →
      2 * work + 2 ≤ node_count xs + (length carry + node_count ys) + 2 * length levels
  merge_work (all_in_sight {x} {y} {carry} canonical) =
      let rest = canonical_work canonical in
      let few = between_few (x ∷ []) carry (y ∷ []) in
      omega arith
  merge_work (appended unmarked none) = omega arith
  merge_work (prepended unmarked none) = omega arith
  merge_work (step {xs = xs} {ys = ys} {carry = carry} {middle = middle} {groups = groups} split cutting rest) =
      let above_work = merge_work rest in
      let few = Groups-few middle groups cutting in
      let within = middle_few split in
      let seen = between_few xs carry ys in
      omega (arith, length-map groups make)

  -- nodes, levels and parents together never grow
  pub step_room : {xs ys : List Level} (carry : List Node) {left middle right : List Node} (parents : List Node) →
      IsMergeSplit at_start at_end xs ys (between xs carry ys) left middle right → 3 * length parents ≤ length middle + 2 →
      (length parents + length parents) + ((node_count (above xs) + length (above xs)) + (node_count (above ys) + length (above ys)))
      ≤ length carry + ((node_count xs + length xs) + (node_count ys + length ys))
  step_room carry parents (both {x} {next_x} {y} {next_y} {xs} {ys} left_is seen right_is) few =
      let within = middle_few (both {x = x} {next_x = next_x} {y = y} {next_y = next_y} {xs = xs} {ys = ys} left_is seen right_is) in
      let sight = between_few (x ∷ next_x ∷ xs) carry (y ∷ next_y ∷ ys) in
      omega arith
  step_room carry parents (left_alone {x} {next_x} {y} {xs} left_is seen high) few =
      let within = middle_few (left_alone {x = x} {next_x = next_x} {y = y} {xs = xs} left_is seen high) in
      let sight = between_few (x ∷ next_x ∷ xs) carry (y ∷ []) in
      omega arith
  step_room carry parents (right_alone {x} {y} {next_y} {ys} seen low right_is) few =
      let within = middle_few (right_alone {x = x} {y = y} {next_y = next_y} {ys = ys} seen low right_is) in
      let sight = between_few (x ∷ []) carry (y ∷ next_y ∷ ys) in
      omega arith

  -- what is collapsed and what stays were nodes of the operands or carried
  step_count : {xs ys : List Level} (carry : List Node) {left middle right : List Node} → IsMergeSplit at_start at_end xs ys (between xs carry ys) left middle right →
      (length left + length right) + (length middle + (node_count (above xs) + node_count (above ys))) ≤ node_count xs + (length carry + node_count ys)
  step_count carry (both {x} {next_x} {y} {next_y} {xs} {ys} left_is seen right_is) =
      let len = ap length seen in
      let len_left = ap length left_is in
      let len_right = ap length right_is in
      omega (arith, length-append x.right (carry ++ y.left), length-append carry y.left)
  step_count carry {middle = middle} {right = right} (left_alone {x} {next_x} {y} {xs} left_is seen high) =
      let len = ap length seen in
      let len_left = ap length left_is in
      omega (arith, length-append x.right (carry ++ y.left), length-append carry y.left, length-append middle right)
  step_count carry {left = left} {middle = middle} (right_alone {x} {y} {next_y} {ys} seen low right_is) =
      let len = ap length seen in
      let len_right = ap length right_is in
      omega (arith, length-append x.left (carry ++ y.left), length-append carry y.left, length-append left middle)

  -- a merge has at most as many nodes as the operands
  pub merge_count : {xs ys levels : List Level} {carry : List Node} {work : ℕ} → IsLevelMerge make at_start at_end xs carry ys levels work →
      node_count levels ≤ node_count xs + (length carry + node_count ys)
  merge_count (all_in_sight {x} {y} {carry} canonical) =
      let few = few_nodes make at_start at_end canonical in
      omega (arith, length-append x.left (carry ++ y.left), length-append carry y.left)
  merge_count (appended {x} {y} {carry} unmarked none) = omega (arith, length-append x.left (carry ++ y.left), length-append carry y.left)
  merge_count (prepended {x} {y} {carry} unmarked none) = omega (arith, length-append x.left (carry ++ y.left), length-append carry y.left)
  merge_count (step {xs = xs} {ys = ys} {carry = carry} {middle = middle} {groups = groups} split cutting rest) =
      let above_count = merge_count rest in
      let few = Groups-few middle groups cutting in
      let here = step_count carry split in
      omega (arith, length-map groups make)
