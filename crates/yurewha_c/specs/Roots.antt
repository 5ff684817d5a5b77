-- What calls on lists of chunks return.
use Rattle.std.specs.Prelude.{◌≡◌, ◌≢◌, ◌⊎◌, ◌↔◌, ℕ, ◌^◌, ◌≤◌, List, ◌++◌, length, take, drop}
use Rattle.xet_merkle.specs.Groups.{Node}
use Rattle.xet_merkle.specs.Roots.{total_size, IsFileHash}
use Rattle.xet_merkle.specs.StablePoints.{NoStable, IsGroupBoundary}
use Rattle.yurewha_c.specs.Chunks.{nodes_of}
use Rattle.yurewha_c.specs.Statuses.{done, arguments, sizes, memory}
use Rattle.yurewha_c.specs.declared.chunks.Chunk.{Chunk}
use Rattle.yurewha_c.specs.declared.hash.Hash.{Hash}

-- the status of a call that computes the root of chunks; with one chunk or none it allocates nothing
pub record IsRootStatus (chunks : List Chunk) (status : ℕ) : Type 0 where
  pub on_sizes : (status ≡ sizes) ↔ (2 ^ 64 ≤ total_size (nodes_of chunks))
  pub statuses : (status ≡ done) ⊎ ((status ≡ sizes) ⊎ (status ≡ memory))
  pub on_short : length chunks ≤ 1 → status ≡ done

-- the file hash of chunks under a salt is written, or nothing is
pub record WritesFileHash (chunks : List Chunk) (salt : List ℕ) (status : ℕ) (old new : Hash) : Type 0 where
  pub file : status ≡ done → IsFileHash (nodes_of chunks) salt new.words
  pub root_status : IsRootStatus chunks status
  pub unchanged : status ≢ done → new ≡ old

-- a stable point of nodes is written, and `IsPoint` holds of it, or nothing is written
pub record WritesPoint (IsPoint : List Node → List Node → Type 0) (nodes : List Chunk) (status old new : ℕ) : Type 0 where
  pub statuses : (status ≡ done) ⊎ (status ≡ arguments)
  pub bound : status ≡ done → new ≤ length nodes
  pub point : status ≡ done → IsPoint (take new (nodes_of nodes)) (drop new (nodes_of nodes))
  pub none : status ≡ arguments → NoStable (nodes_of nodes)
  pub unchanged : status ≢ done → new ≡ old

-- a group ends after `point` nodes, whatever nodes come before and after the given ones
abbrev pub IsBoundaryAnywhere : ℕ → List Node → Type 0
IsBoundaryAnywhere point nodes = (before after : List Node) → IsGroupBoundary (before ++ take point nodes) (drop point nodes ++ after)
