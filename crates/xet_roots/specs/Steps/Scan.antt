-- What reading a list of nodes from the first one on finds: the first group, and the parents of all groups. Only private
-- contracts and proofs use it. What a reader has to believe is in Groups and Roots.
use Rattle.std.specs.Prelude.{◌≡◌, ◌⊎◌, List, [], ◌++◌, map}
use Rattle.xet_roots.specs.Groups.{Node, IsGroup, IsFull, Groups}

-- the first group of a list, and what follows it
pub record IsFirstGroup (group rest : List Node) : Type 0 where
  pub is_group : IsGroup group
  pub full : (rest ≡ []) ⊎ IsFull group

-- some nodes are the parents of the groups of a list
abbrev pub AreParents : (List Node → Node) → List Node → List Node → Type 0
AreParents make nodes parents = (groups : List (List Node)) × Groups nodes groups × (parents ≡ map make groups)

-- some lists are the first groups of a list, and `rest` is what follows them: its groups complete them
abbrev pub AreFirstGroups : List Node → List (List Node) → List Node → Type 0
AreFirstGroups nodes groups rest = (more : List (List Node)) → Groups rest more → Groups nodes (groups ++ more)

-- these are the first groups of each list that begins with `nodes`, and `rest` is what of `nodes` follows them
abbrev pub StayFirstGroups : List Node → List (List Node) → List Node → Type 0
StayFirstGroups nodes groups rest = (more : List Node) → AreFirstGroups (nodes ++ more) groups (rest ++ more)

-- the parents of the groups of a list are added to `old`
abbrev pub PushesParents : (List Node → Node) → List Node → List Node → List Node → Type 0
PushesParents make nodes old new = (parents : List Node) × AreParents make nodes parents × (new ≡ old ++ parents)

-- some parents are made and a rest is left: whatever groups the rest has, theirs complete the parents to what is wanted
abbrev pub LeadsTo : (List Node → Node) → (List Node → Type 0) → List Node → List Node → Type 0
LeadsTo make Wanted made rest = (groups : List (List Node)) → Groups rest groups → Wanted (made ++ map make groups)

-- to the parents of the groups of some nodes
abbrev pub MadeSoFar : (List Node → Node) → List Node → List Node → List Node → Type 0
MadeSoFar make nodes made rest = LeadsTo make (AreParents make nodes) made rest
