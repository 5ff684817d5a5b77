use Rattle.std.proofs.Common.{◌≡◌, ℕ, ◌+◌, ◌/◌, ◌≤◌, List, ◌++◌, length, vec_capacity, vec_len}
use Rattle.keyed_blake3.specs.Blake3Hasher.{Holds as Hashes}
use Rattle.xet_hash.specs.Hash.{data_key}
use Rattle.xet_chunker.specs.Chunker.{Holds as IsOpen}
use Rattle.xet_roots.specs.Groups.{Node}
use Rattle.xet_file.specs.FileHasher.{Takes}
use Rattle.xet_file.proofs.file_hasher.take.Given as goal

abbrev pub invariant-chunks : goal.invariant-chunks
invariant-chunks g l = record {
  taken : (chunk : List ℕ) → IsOpen l.fn.chunker chunk → Hashes data_key l.fn.hasher chunk →
      (front : List ℕ) × (nodes : List Node) × (l.fn.piece ≡ front ++ l.rest) × (l.ended.items ≡ l.fn.ended.items ++ nodes)
      × Takes chunk front l.chunker l.hasher nodes;
  room : (chunk : List ℕ) × IsOpen l.chunker chunk × Hashes data_key l.hasher chunk
      × (vec_len l.ended + (length chunk + length l.rest) / 8192 ≤ vec_capacity l.ended);
}

abbrev pub decreases-chunks : goal.decreases-chunks
decreases-chunks g l = length l.rest
