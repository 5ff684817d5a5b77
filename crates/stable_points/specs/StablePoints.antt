-- Stable points of a list of nodes: places at which groups end, whatever nodes come before and after, as in the module
-- `merklehash::merkle_hash_subtree` of the crate `xet-core-structures`. A place in a list is the pair of the parts
-- before and after it.
use Rattle.std.specs.Prelude.{◌≡◌, ℕ, ◌+◌, ◌<◌, ◌≤◌, List, [], ◌∷◌, ◌++◌, length, slice_get, MatchOption}
use Rattle.xet_roots.specs.Groups.{Node, Cut, NotCut, Groups}

-- none of some nodes is a natural cut
abbrev pub NoCut : List Node → Type 0
NoCut [] = Unit {0}
NoCut (node ∷ nodes) = NotCut node × NoCut nodes

-- the nodes between two natural cuts of a stable point: 2 to 6 nodes, none of them a natural cut, so that the second
-- cut is 3 to 7 nodes after the first
pub record IsStableGap (between : List Node) : Type 0 where
  pub no_cut : NoCut between
  pub two : 2 ≤ length between
  pub six : length between ≤ 6

-- a list that ends with a natural cut, 3 to 7 nodes after the natural cut before it
pub record EndsStable (nodes : List Node) : Type 0 where
  pub before : List Node
  pub first : Node
  pub between : List Node
  pub last : Node
  pub parts : nodes ≡ before ++ first ∷ (between ++ last ∷ [])
  pub first_cut : Cut first
  pub last_cut : Cut last
  pub gap : IsStableGap between

-- a list whose first natural cut has index 2 to 6
pub record BeginsStable (nodes : List Node) : Type 0 where
  pub between : List Node
  pub first : Node
  pub after : List Node
  pub parts : nodes ≡ between ++ first ∷ after
  pub first_cut : Cut first
  pub gap : IsStableGap between

-- a stable point: the place after the second of three natural cuts with no natural cut between them,
-- each 3 to 7 nodes after the one before it
pub record IsStable (left right : List Node) : Type 0 where
  pub ends : EndsStable left
  pub begins : BeginsStable right

-- no place of a list is a stable point
abbrev pub NoStable : List Node → Type 0
NoStable nodes = (left right : List Node) → nodes ≡ left ++ right → ¬ (IsStable left right)

-- the first and the last stable point of the list that consists of two parts
pub record IsFirstStable (left right : List Node) : Type 0 where
  pub stable : IsStable left right
  pub first : (l r : List Node) → left ++ right ≡ l ++ r → IsStable l r → length left ≤ length l

pub record IsLastStable (left right : List Node) : Type 0 where
  pub stable : IsStable left right
  pub last : (l r : List Node) → left ++ right ≡ l ++ r → IsStable l r → length l ≤ length left

-- ---- by indices

-- the node at an index is a natural cut
abbrev pub CutAt : List Node → ℕ → Type 0
CutAt nodes i = MatchOption (slice_get nodes i) ⊥ Cut

-- three natural cuts with no natural cut between them, each 3 to 7 nodes after the one before it
pub record IsTriple (nodes : List Node) (a b c : ℕ) : Type 0 where
  pub cut_a : CutAt nodes a
  pub cut_b : CutAt nodes b
  pub cut_c : CutAt nodes c
  pub three_to_b : a + 3 ≤ b
  pub seven_to_b : b ≤ a + 7
  pub three_to_c : b + 3 ≤ c
  pub seven_to_c : c ≤ b + 7
  pub no_cut_before_b : (i : ℕ) → a < i → i < b → ¬ (CutAt nodes i)
  pub no_cut_after_b : (i : ℕ) → b < i → i < c → ¬ (CutAt nodes i)

-- ---- groups

-- the groups of two parts together are the groups of the first, then those of the second
abbrev pub IsGroupBoundary : List Node → List Node → Type 0
IsGroupBoundary left right =
    (groups others : List (List Node)) → Groups left groups → Groups right others → Groups (left ++ right) (groups ++ others)
