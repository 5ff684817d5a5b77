-- The JSON form of a node, as data of the toolchain's `serde_json`. Members with other names are ignored.
use Rattle.std.specs.Prelude.{◌≡◌, ℕ, List, map, Option, Some, option_and_then, codes}
use Rattle.std.specs.Str.{str_to_ascii_lowercase}
use Rattle.serde_json.specs.Data.{Data, number, string, array, object, unsigned, no_members, member}
use Rattle.serde_json.specs.Find.{get, as_str, as_number, as_u64}
use Rattle.serde_json.specs.View.{items_of}
use Rattle.xet_hash.specs.Hash.{IsHash, IsHexText, hex_text}
use Rattle.xet_roots.specs.Groups.{Node}

-- a whole number
abbrev pub number_json : ℕ → Data
number_json n = number (unsigned n)

-- a node: the hex text of its hash, and its size
abbrev pub node_json : Node → Data
node_json node = object (member (codes "hash") (string (hex_text node.0)) (member (codes "size") (number_json node.1) no_members))

-- some nodes in order
abbrev pub nodes_json : List Node → Data
nodes_json nodes = array (items_of (map node_json nodes))

-- the whole number in a value, if it is from 0 to 2 ^ 64 - 1
abbrev pub whole : Data → Option ℕ
whole value = option_and_then as_u64 (as_number value)

-- an object with `hash`, 64 hex digits in lower or upper case, and `size`, a whole number, is a node
pub record ReadsNode (value : Data) (node : Node) : Type 0 where
  pub text : List ℕ
  pub text_is : option_and_then as_str (get (codes "hash") value) ≡ Some text
  pub are_digits : IsHexText text
  pub reads : hex_text node.0 ≡ str_to_ascii_lowercase text
  pub is_hash : IsHash node.0
  pub size_is : option_and_then whole (get (codes "size") value) ≡ Some node.1
