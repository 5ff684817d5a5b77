-- The JSON form of a session over subtrees, as data of the toolchain's `serde_json`: the form that serde gives the sessions of
-- the Rust crate `yurewha`.
use Rattle.std.specs.Prelude.{◌≡◌, ◌↔◌, ℕ, ◌^◌, ◌<◌, Bool, true, false, List, [], map, codes}
use Rattle.std.specs.List.{AllByRecursion as Each}
use Rattle.std.specs.List.Sorted.{IsStrictlySortedBy}
use Rattle.std.specs.declared.alloc.Global.{Global}
use Rattle.serde_json.specs.Data.{Data, array, object, no_members, member}
use Rattle.serde_json.specs.View.{items_of}
use Rattle.serde_json.specs.Written.{compact_text}
use Rattle.xet_hash.specs.Hash.{IsHash}
use Rattle.xet_hash.specs.HashForms.{hash_cmp}
use Rattle.level_nodes.specs.FlatLevels.{flat_nodes}
use Rattle.level_nodes.specs.NodeJson.{number_json}
use Rattle.subtree_levels.specs.Levels.{node_count}
use Rattle.subtree_levels.specs.Subtree.{Subtree}
use Rattle.subtree_levels.specs.WellFormed.{IsWellFormed}
use Rattle.xet_merkle.specs.SubtreeJson.{subtree_json}
use Rattle.upload_session.specs.Hashes.{Hash, Knows}
use Rattle.upload_session.specs.Session.{Parts, PlacedRun, AreApart}
use Rattle.upload_session.specs.declared.kept_hashes.SeenHashes.{SeenHashes}
use Rattle.session_json.specs.Reading.{size_of}

-- a hash: its four words
abbrev pub hash_json : Hash → Data
hash_json hash = array (items_of (map number_json hash))

-- a run: its first position, the position after its last one, and the subtree of its chunks
abbrev pub run_json : PlacedRun Subtree → Data
run_json run = object (
    member (codes "first") (number_json run.0) (
    member (codes "end") (number_json run.1.end) (
    member (codes "chunks") (subtree_json run.1.range) no_members)))

-- a session: its runs, by rising position, and hashes
abbrev pub session_json : List (PlacedRun Subtree) → List Hash → Data
session_json runs hashes = object (
    member (codes "runs") (array (items_of (map run_json runs))) (
    member (codes "known_hashes") (array (items_of (map hash_json hashes))) no_members))

-- the hashes that are known, each once, by rising order
pub record AreKnownInOrder (kept : SeenHashes Global) (hashes : List Hash) : Type 0 where
  pub known : Knows kept hashes
  pub rising : IsStrictlySortedBy hash_cmp hashes

-- the text of a session: its runs, and its known hashes by rising order, or none
pub record IsTextOf (session : Parts Subtree (SeenHashes Global)) (with_hashes : Bool) (text : List ℕ) : Type 0 where
  pub hashes : List Hash
  pub all : with_hashes ≡ true → AreKnownInOrder session.kept hashes
  pub none : with_hashes ≡ false → hashes ≡ []
  pub text_is : text ≡ compact_text (session_json session.runs hashes)

-- what holds of each run of a session: its numbers have 64 bits, and its range is open at both ends, well formed and of hashes
pub record IsSoundRun (run : PlacedRun Subtree) : Type 0 where
  pub first_fits : run.0 < 2 ^ 64
  pub end_fits : run.1.end < 2 ^ 64
  pub no_start : run.1.range.at_start ≡ false
  pub no_end : run.1.range.at_end ≡ false
  pub well_formed : IsWellFormed run.1.range
  pub few : node_count run.1.range.levels < 2 ^ 64
  pub hashes : Each (λ node. IsHash node.0) (flat_nodes run.1.range.levels [])

-- what holds of each session: its runs are sound and apart, its size is the sum of theirs and has 64 bits, and it knows hashes alone
pub record IsSound (session : Parts Subtree (SeenHashes Global)) : Type 0 where
  pub runs : Each IsSoundRun session.runs
  pub apart : AreApart session.runs
  pub size : session.size ≡ size_of session.runs
  pub fits : session.size < 2 ^ 64
  pub hashes : (known : List Hash) → Knows session.kept known → Each IsHash known

-- two sessions have the same runs and the same size, and know the same hashes
pub record IsSameSession (a b : Parts Subtree (SeenHashes Global)) : Type 0 where
  pub runs : a.runs ≡ b.runs
  pub size : a.size ≡ b.size
  pub known : (known : List Hash) → Knows a.kept known ↔ Knows b.kept known
