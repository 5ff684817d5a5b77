-- The JSON form of a range proof, as data of the toolchain's `serde_json`, and the lowest of the rules 1 to 8 that a value
-- breaks. Members with other names are ignored.
use Rattle.std.specs.Prelude.{◌≡◌, ℕ, ◌^◌, ◌<◌, ◌≤◌, All, List, length, map, Some, None, codes}
use Rattle.std.specs.List.{AllZip}
use Rattle.serde_json.specs.Data.{Data, Members, array, object, no_members, member}
use Rattle.serde_json.specs.Find.{get, as_object}
use Rattle.serde_json.specs.View.{items_of}
use Rattle.level_nodes.specs.Level.{Level}
use Rattle.level_nodes.specs.NodeJson.{nodes_json, ReadsNode}
use Rattle.range_proof.specs.RangeProof.{Proof, file_size_of}

-- ---- Writing

-- the sides of a level
abbrev pub sides_json : Level → Data
sides_json sides = object (member (codes "left") (nodes_json sides.left) (member (codes "right") (nodes_json sides.right) no_members))

-- the members of a proof's object
abbrev pub proof_object : Data → Data → Data
proof_object chunks levels = object (member (codes "chunks") chunks (member (codes "levels") levels no_members))

-- the nodes of the chunks, and the sides of each level, from the chunks up
abbrev pub proof_json : Proof → Data
proof_json proof = proof_object (nodes_json proof.chunks) (array (items_of (map sides_json proof.levels)))

-- ---- Reading

-- the members of a proof's object, each an array
pub record HasMembers (json : Data) (chunks levels : List Data) : Type 0 where
  pub chunks_are : get (codes "chunks") json ≡ Some (array (items_of chunks))
  pub levels_are : get (codes "levels") json ≡ Some (array (items_of levels))

-- the members of a level's object, each an array
pub record HasSides (value : Data) (left right : List Data) : Type 0 where
  pub left_is : get (codes "left") value ≡ Some (array (items_of left))
  pub right_is : get (codes "right") value ≡ Some (array (items_of right))

-- the sides of a level in a value
pub record ReadsSides (value : Data) (sides : Level) : Type 0 where
  pub left_values : List Data
  pub right_values : List Data
  pub members : HasSides value left_values right_values
  pub left_are : AllZip ReadsNode left_values sides.left
  pub right_are : AllZip ReadsNode right_values sides.right

-- the chunks and levels of a proof in a value
pub record ReadsProof (json : Data) (proof : Proof) : Type 0 where
  pub chunk_values : List Data
  pub level_values : List Data
  pub members : HasMembers json chunk_values level_values
  pub chunks_are : AllZip ReadsNode chunk_values proof.chunks
  pub levels_are : AllZip ReadsSides level_values proof.levels

-- each value is an object with the arrays `left` and `right`
abbrev pub AreLevels : List Data → Type 0
AreLevels values = All (λ value. (left : List Data) × (right : List Data) × HasSides value left right) values

-- the lowest of the rules 1 to 4 that a value breaks: it isn't an object; `chunks` or `levels` is missing or no array; a
-- level isn't an object with the arrays `left` and `right`; a node isn't one
pub data BreaksPartRule (json : Data) : ℕ → Type 0 where
  no_object : as_object json ≡ None → BreaksPartRule json 1
  no_arrays : {members : Members} → as_object json ≡ Some members →
      ((chunks levels : List Data) → ¬ (HasMembers json chunks levels)) → BreaksPartRule json 2
  no_levels : {chunks levels : List Data} → HasMembers json chunks levels → ¬ (AreLevels levels) → BreaksPartRule json 3
  no_nodes : {chunks levels : List Data} → HasMembers json chunks levels → AreLevels levels →
      ((proof : Proof) → ¬ (ReadsProof json proof)) → BreaksPartRule json 4

-- all sides have at most 8 nodes
pub record HasFewBeside (levels : List Level) : Type 0 where
  pub left : All (λ sides. length sides.left ≤ 8) levels
  pub right : All (λ sides. length sides.right ≤ 8) levels

-- the lowest of the rules 5 to 8 that the nodes of a value break: there is a chunk; there are at most 64 levels; a side has
-- at most 8 nodes; the sizes fit 64 bits
pub data BreaksValueRule (proof : Proof) : ℕ → Type 0 where
  no_chunk : length proof.chunks ≡ 0 → BreaksValueRule proof 5
  many_levels : 0 < length proof.chunks → 64 < length proof.levels → BreaksValueRule proof 6
  many_beside : 0 < length proof.chunks → length proof.levels ≤ 64 → ¬ (HasFewBeside proof.levels) → BreaksValueRule proof 7
  sizes_pass : 0 < length proof.chunks → length proof.levels ≤ 64 → HasFewBeside proof.levels →
      2 ^ 64 ≤ file_size_of proof → BreaksValueRule proof 8

-- the lowest rule that a value breaks: a rule of its parts, or a rule of the parts together
pub data BreaksRule (json : Data) : ℕ → Type 0 where
  of_parts : {rule : ℕ} → BreaksPartRule json rule → BreaksRule json rule
  of_value : {rule : ℕ} {proof : Proof} → ReadsProof json proof → BreaksValueRule proof rule → BreaksRule json rule

-- a value describes a proof: its nodes are those of the proof, and it breaks no rule
pub record Reads (json : Data) (proof : Proof) : Type 0 where
  pub parts : ReadsProof json proof
  pub kept : (rule : ℕ) → ¬ (BreaksRule json rule)
