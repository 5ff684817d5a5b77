-- Merging two subtrees from what they keep of each level, from the chunks up. Only private contracts and proofs use it.
-- What a reader has to believe is in Canonical and Subtree.
use Rattle.std.specs.Prelude.{◌≡◌, ℕ, ◌+◌, ◌≤◌, ◌⊎◌, Bool, true, false, List, [], ◌∷◌, ◌++◌, length, map, drop}
use Rattle.xet_roots.specs.Groups.{Node, Cut, Groups}
use Rattle.stable_points.specs.StablePoints.{NoStable, IsFirstStable, IsLastStable}
use Rattle.subtree_levels.specs.Levels.{Level, no_level, left_at}
use Rattle.subtree_levels.specs.Canonical.{IsSplit, IsCanonicalBy}
use Rattle.subtree_levels.specs.WellFormed.{IsLeftSide, IsRightSide}
use Rattle.stable_points.specs.Steps.StableScan.{AddsNoStable, AddsNoStableBefore}
use Rattle.subtree_levels.specs.declared.levels.Operand.{Operand}
use Rattle.subtree_levels.specs.declared.levels.Operand.TheVariants.{Front, Back}

-- what may stay on the left, and on the right, below the top under a mark: nothing if the end is marked
abbrev pub IsLeftUnder : Bool → List Node → Type 0
IsLeftUnder true left = left ≡ []
IsLeftUnder false left = IsLeftSide left

abbrev pub IsRightUnder : Bool → List Node → Type 0
IsRightUnder true right = right ≡ []
IsRightUnder false right = IsRightSide right

-- there is a level, the top has no right nodes, and all levels below it have sides
abbrev pub HaveSides : Bool → Bool → List Level → Type 0
HaveSides at_start at_end [] = ⊥
HaveSides at_start at_end (top ∷ []) = top.right ≡ []
HaveSides at_start at_end (level ∷ next ∷ levels) =
    IsLeftUnder at_start level.left × IsRightUnder at_end level.right × HaveSides at_start at_end (next ∷ levels)

-- levels as an operand: if there are none, one level without nodes
abbrev pub operand : List Level → List Level
operand [] = no_level ∷ []
operand (level ∷ levels) = level ∷ levels

-- the levels above the first; above the top there are no nodes
abbrev pub above : List Level → List Level
above [] = []
above (top ∷ []) = no_level ∷ []
above (level ∷ next ∷ levels) = next ∷ levels

-- the nodes of a front operand's first level that face the back one; at the top these are all
abbrev pub inner_nodes : List Level → List Node
inner_nodes [] = []
inner_nodes (top ∷ []) = top.left
inner_nodes (level ∷ next ∷ levels) = level.right

-- the nodes in sight between two operands, including those carried between them
abbrev pub between : List Level → List Node → List Level → List Node
between xs carry [] = inner_nodes xs ++ carry
between xs carry (y ∷ ys) = inner_nodes xs ++ (carry ++ y.left)

-- after nodes that are collapsed: how many more are, and what stays on the right
abbrev pub IsHighAfter : Bool → List Node → List Node → Type 0
IsHighAfter true middle right = right ≡ []
IsHighAfter false middle right =
    ((cut : Node) → Cut cut → IsLastStable (cut ∷ middle) right)
    ⊎ ((middle ≡ []) × ((cut : Node) → Cut cut → NoStable (cut ∷ right)))

-- before nodes that are collapsed: what stays on the left, and how many more are collapsed
abbrev pub IsLowBefore : Bool → List Node → List Node → Type 0
IsLowBefore true left middle = left ≡ []
IsLowBefore false left middle = IsFirstStable left middle ⊎ ((middle ≡ []) × NoStable left)

-- nodes have no split under marks
abbrev pub NoSplit : Bool → Bool → List Node → Type 0
NoSplit at_start at_end nodes = (left middle right : List Node) → ¬ (IsSplit at_start at_end nodes left middle right)

-- the split of the nodes in sight between two operands: what is collapsed, and what stays on either side. An operand
-- that has levels above keeps its outer side.
pub data IsMergeSplit (at_start at_end : Bool) : List Level → List Level → List Node → List Node → List Node → List Node → Type 0 where
  both : {x next_x y next_y : Level} {xs ys : List Level} {seen left middle right : List Node} →
      left ≡ x.left → seen ≡ middle → right ≡ y.right →
      IsMergeSplit at_start at_end (x ∷ next_x ∷ xs) (y ∷ next_y ∷ ys) seen left middle right
  left_alone : {x next_x y : Level} {xs : List Level} {seen left middle right : List Node} →
      left ≡ x.left → seen ≡ middle ++ right → IsHighAfter at_end middle right →
      IsMergeSplit at_start at_end (x ∷ next_x ∷ xs) (y ∷ []) seen left middle right
  right_alone : {x y next_y : Level} {ys : List Level} {seen left middle right : List Node} →
      seen ≡ left ++ middle → IsLowBefore at_start left middle → right ≡ y.right →
      IsMergeSplit at_start at_end (x ∷ []) (y ∷ next_y ∷ ys) seen left middle right

-- the levels that two operands, and nodes carried between them, are merged to, and the work, which is the number of
-- parents made. If neither operand has levels above, all nodes are in sight. They are the top if the end isn't marked
-- and they have no split that the front operand hadn't, and if the start isn't marked and they have none that the back
-- operand hadn't.
pub data IsLevelMerge (make : List Node → Node) (at_start at_end : Bool) : List Level → List Node → List Level → List Level → ℕ → Type 0 where
  all_in_sight : {x y : Level} {carry : List Node} {levels : List Level} {work : ℕ} →
      IsCanonicalBy make at_start at_end (between (x ∷ []) carry (y ∷ [])) levels work →
      IsLevelMerge make at_start at_end (x ∷ []) carry (y ∷ []) levels work
  appended : {x y : Level} {carry : List Node} → at_end ≡ false →
      (NoSplit at_start false x.left → NoSplit at_start false (between (x ∷ []) carry (y ∷ []))) →
      IsLevelMerge make at_start at_end (x ∷ []) carry (y ∷ []) (record { left = between (x ∷ []) carry (y ∷ []); right = [] } ∷ []) 0
  prepended : {x y : Level} {carry : List Node} → at_start ≡ false →
      (NoSplit false at_end y.left → NoSplit false at_end (between (x ∷ []) carry (y ∷ []))) →
      IsLevelMerge make at_start at_end (x ∷ []) carry (y ∷ []) (record { left = between (x ∷ []) carry (y ∷ []); right = [] } ∷ []) 0
  step : {xs ys levels : List Level} {carry left middle right : List Node} {groups : List (List Node)} {work : ℕ} →
      IsMergeSplit at_start at_end xs ys (between xs carry ys) left middle right → Groups middle groups →
      IsLevelMerge make at_start at_end (above xs) (map make groups) (above ys) levels work →
      IsLevelMerge make at_start at_end xs carry ys (record { left = left; right = right } ∷ levels) (length groups + work)

-- ---- what is in sight

-- what is in sight at a level: the levels of both operands from that one up, the nodes carried between them, and the
-- outer marks
pub record Sight : Type 0 where
  pub front : List Level
  pub carry : List Node
  pub back : List Level
  pub at_start : Bool
  pub at_end : Bool

abbrev pub seen : Sight → List Node
seen sight = between sight.front sight.carry sight.back

-- what is in sight n levels further up, with other nodes carried
abbrev pub sight_up : ℕ → Sight → List Node → Sight
sight_up n sight carry = record {
  front = operand (drop n sight.front);
  carry = carry;
  back = operand (drop n sight.back);
  at_start = sight.at_start;
  at_end = sight.at_end;
}

abbrev pub IsSightSplit : Sight → List Node → List Node → List Node → Type 0
IsSightSplit sight left middle right = IsMergeSplit sight.at_start sight.at_end sight.front sight.back (seen sight) left middle right

abbrev pub IsSightMerge : (List Node → Node) → Sight → List Level → ℕ → Type 0
IsSightMerge make sight levels work = IsLevelMerge make sight.at_start sight.at_end sight.front sight.carry sight.back levels work

-- ---- in place

-- the front one of two operands; `other` is the operand that isn't kept
abbrev pub front_of : {T : Type 0} → Operand → T → T → T
front_of Front kept other = kept
front_of Back kept other = other

abbrev pub back_of : {T : Type 0} → Operand → T → T → T
back_of Front kept other = other
back_of Back kept other = kept

-- what the levels of an operand and those of the other one have in sight
abbrev pub sight_of : Operand → Bool → Bool → List Level → List Node → List Level → Sight
sight_of kept at_start at_end levels carry other = record {
  front = front_of kept levels other;
  carry = carry;
  back = back_of kept levels other;
  at_start = at_start;
  at_end = at_end;
}

-- the levels of an operand in sight
abbrev pub levels_of : Operand → Sight → List Level
levels_of operand sight = front_of operand sight.front sight.back

-- the nodes that stay on the side of an operand's level that faces the other operand
abbrev pub inner_side : Operand → List Node → List Node → List Node
inner_side Front left right = right
inner_side Back left right = left

-- levels have the sides of an operand whose list has the outer mark of both
abbrev pub HaveSidesOf : Operand → Bool → Bool → List Level → Type 0
HaveSidesOf Front at_start at_end levels = HaveSides at_start false levels
HaveSidesOf Back at_start at_end levels = HaveSides false at_end levels

-- a level of an operand with other nodes on the side that faces the other operand
abbrev pub with_side : Operand → Level → List Node → Level
with_side Front level side = record { left = level.left; right = side }
with_side Back level side = record { left = side; right = level.right }

-- the lowest levels, as many as there are lists, each with other nodes on that side
abbrev pub lowest_with : Operand → List (List Node) → List Level → List Level
lowest_with kept [] levels = []
lowest_with kept (side ∷ sides) [] = []
lowest_with kept (side ∷ sides) (level ∷ levels) = with_side kept level side ∷ lowest_with kept sides levels

-- the levels of a front operand with more nodes after those of its first level that face the back one
abbrev pub with_inner : List Level → List Node → List Level
with_inner [] more = []
with_inner (top ∷ []) more = record { left = top.left ++ more; right = top.right } ∷ []
with_inner (level ∷ next ∷ levels) more = record { left = level.left; right = level.right ++ more } ∷ next ∷ levels

-- the levels of a back operand with more nodes before those of its first level that face the front one
abbrev pub with_left : List Level → List Node → List Level
with_left [] more = []
with_left (level ∷ levels) more = record { left = more ++ level.left; right = level.right } ∷ levels

-- what is in sight only extends the first level of an operand: the outer end of the other isn't marked, the other has
-- no levels above, and no stable point is added
abbrev pub OnlyExtends : Operand → Sight → Type 0
OnlyExtends Front sight =
    (sight.at_end ≡ false) × (length sight.back ≤ 1) × AddsNoStable (inner_nodes sight.front) (sight.carry ++ left_at sight.back 0)
OnlyExtends Back sight =
    (sight.at_start ≡ false) × (length sight.front ≤ 1) × AddsNoStableBefore (inner_nodes sight.front ++ sight.carry) (left_at sight.back 0)

-- the levels of an operand with these nodes
abbrev pub extended : Operand → List Level → List Node → List Level → List Level
extended Front levels carry other = with_inner levels (carry ++ left_at other 0)
extended Back levels carry other = with_left levels (inner_nodes (operand other) ++ carry)
