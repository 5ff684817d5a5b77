-- Subtrees as a kind of range.
use Rattle.subtree_levels.specs.Levels.{levels_size}
use Rattle.subtree_levels.specs.Subtree.{Subtree, IsCanonical}
use Rattle.chunk_ranges.specs.declared.chunk_range.ChunkRange as chunk_range

-- what subtrees stand for, their marks and their sizes
abbrev pub subtrees : {A : Type 0} → chunk_range.Ghosts Subtree A
subtrees = record {
  stands = IsCanonical;
  start = λ range. range.at_start;
  end = λ range. range.at_end;
  total = λ range. levels_size range.levels;
}
