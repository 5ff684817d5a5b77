-- The parts of a subtree's JSON value, read before its levels and nodes are checked together: rules 1 to 4. Members
-- with other names are ignored.
use Rattle.std.specs.Prelude.{◌≡◌, ℕ, Bool, List, [], ◌∷◌, Some, None, codes}
use Rattle.std.specs.List.{AllZip}
use Rattle.serde_json.specs.Data.{Data, Members, boolean, array}
use Rattle.serde_json.specs.Find.{get, as_object}
use Rattle.serde_json.specs.View.{items_of}
use Rattle.xet_roots.specs.Groups.{Node}
use Rattle.level_nodes.specs.NodeJson.{whole, ReadsNode}

-- an array of two whole numbers is a level's counts
pub record ReadsCounts (value : Data) (count : ℕ × ℕ) : Type 0 where
  pub left : Data
  pub right : Data
  pub two : value ≡ array (items_of (left ∷ right ∷ []))
  pub left_is : whole left ≡ Some count.0
  pub right_is : whole right ≡ Some count.1

-- the members of an object, each of the right type
pub record HasMembers (json : Data) (at_start at_end : Bool) (levels nodes : List Data) : Type 0 where
  pub start_is : get (codes "at_start") json ≡ Some (boolean at_start)
  pub end_is : get (codes "at_end") json ≡ Some (boolean at_end)
  pub levels_are : get (codes "levels") json ≡ Some (array (items_of levels))
  pub nodes_are : get (codes "nodes") json ≡ Some (array (items_of nodes))

-- the marks, the counts of each level and the nodes in a value
pub record ReadsParts (json : Data) (at_start at_end : Bool) (counts : List (ℕ × ℕ)) (nodes : List Node) : Type 0 where
  pub level_values : List Data
  pub node_values : List Data
  pub members : HasMembers json at_start at_end level_values node_values
  pub counts_are : AllZip ReadsCounts level_values counts
  pub nodes_are : AllZip ReadsNode node_values nodes

-- the lowest of the rules 1 to 4 that a value breaks: it isn't an object; a member is missing or of another type; an
-- element of `nodes` isn't a node; an element of `levels` isn't a level
pub data BreaksPartRule (json : Data) : ℕ → Type 0 where
  no_object : as_object json ≡ None → BreaksPartRule json 1
  no_members : {members : Members} → as_object json ≡ Some members →
      ((at_start at_end : Bool) (levels nodes : List Data) → ¬ (HasMembers json at_start at_end levels nodes)) → BreaksPartRule json 2
  no_nodes : {at_start at_end : Bool} {levels node_values : List Data} → HasMembers json at_start at_end levels node_values →
      ((nodes : List Node) → ¬ (AllZip ReadsNode node_values nodes)) → BreaksPartRule json 3
  no_levels : {at_start at_end : Bool} {level_values node_values : List Data} (nodes : List Node) → HasMembers json at_start at_end level_values node_values →
      AllZip ReadsNode node_values nodes → ((counts : List (ℕ × ℕ)) → ¬ (AllZip ReadsCounts level_values counts)) → BreaksPartRule json 4
