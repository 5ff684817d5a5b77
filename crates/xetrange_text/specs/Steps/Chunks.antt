-- The chunks that are collected. Only private contracts and proofs use them.
use Rattle.std.specs.Prelude.{◌≡◌, ℕ, List, ◌++◌}
use Rattle.std.specs.declared.clone.Clone as clone
use Rattle.xet_merkle.specs.Groups.{Node}
use Rattle.xet_merkle.specs.Roots.{total_size}
use Rattle.chunk_ranges.specs.declared.chunk_range.ChunkRange as chunk_range
use Rattle.pair_text.specs.PairText.{AreGood}
use Rattle.xetrange_text.specs.declared.chunks.Chunks.{Chunks}

module _ {C A : Type 0} {kept : chunk_range.Ghosts C A} {copied : clone.Ghosts A} where
  -- some chunks are those of the ended range, followed by the last ones
  pub record StandForChunks (held : Chunks C A kept copied) (chunks : List Node) : Type 0 where
    pub before : List Node
    pub ended : kept.stands held.ended before
    pub parts : chunks ≡ before ++ held.last.items
    pub total_is : held.total ≡ total_size chunks

  -- they are what some good lines say
  abbrev pub StandForLines : Chunks C A kept copied → List (List ℕ) → Type 0
  StandForLines held lines = (chunks : List Node) × StandForChunks held chunks × AreGood lines chunks
