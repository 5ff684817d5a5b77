-- The JSON form of a subtree, as data of the toolchain's `serde_json`. It has the members that the module
-- `merklehash::merkle_hash_subtree` of the crate `xet-core-structures` writes, in the order of their names.
use Rattle.std.specs.Prelude.{ℕ, Bool, [], ◌∷◌, map, codes}
use Rattle.serde_json.specs.Data.{Data, boolean, array, object, no_members, member}
use Rattle.serde_json.specs.View.{items_of}
use Rattle.level_nodes.specs.FlatLevels.{flat_nodes, count_of}
use Rattle.level_nodes.specs.NodeJson.{number_json, nodes_json}
use Rattle.subtree_levels.specs.Subtree.{Subtree}

-- the numbers of left and right nodes of a level
abbrev pub counts_json : ℕ × ℕ → Data
counts_json count = array (items_of (number_json count.0 ∷ number_json count.1 ∷ []))

-- the members of a subtree's object
abbrev pub subtree_object : Bool → Bool → Data → Data → Data
subtree_object at_start at_end levels nodes = object (
    member (codes "at_end") (boolean at_end) (
    member (codes "at_start") (boolean at_start) (
    member (codes "levels") levels (
    member (codes "nodes") nodes no_members))))

-- the marks; the counts of each level, from the chunks up; and the left nodes of all levels, lowest level first, then
-- the right nodes of all levels, highest level first
abbrev pub subtree_json : Subtree → Data
subtree_json subtree = subtree_object subtree.at_start subtree.at_end
    (array (items_of (map counts_json (map count_of subtree.levels)))) (nodes_json (flat_nodes subtree.levels []))
