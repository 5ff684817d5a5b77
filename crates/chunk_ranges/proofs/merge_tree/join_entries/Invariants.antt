use Rattle.std.proofs.Common.{◌≡◌, ◌+◌, ◌∷◌, ◌++◌, length, map, reverse}
use Rattle.chunk_ranges.specs.Steps.Bracketing.{depth, AreBegun}
use Rattle.chunk_ranges.specs.Steps.RangeMerging.{JoinsTo}
use Rattle.chunk_ranges.proofs.merge_tree.join_entries.Given as goal

abbrev pub invariant-entries : goal.invariant-entries
invariant-entries g l = record {
  begun : AreBegun l.entries.items (length l.values.items);
  one : depth l.entries.items (length l.values.items) ≡ 1;
  joins : JoinsTo g.R.ChunkRange.stands g.R.ChunkRange.start g.R.ChunkRange.end g.R.ChunkRange.total (map (λ entry. entry.1) l.fn.entries.items)
      (map (λ entry. entry.1) l.entries.items ++ reverse l.values.items);
}

abbrev pub decreases-entries : goal.decreases-entries
decreases-entries g l = length l.entries.items

abbrev pub invariant-begun : goal.invariant-begun
invariant-begun g l = record {
  left : length l.values.items + l.counter ≡ length l.initial.values.items;
  joins : JoinsTo g.R.ChunkRange.stands g.R.ChunkRange.start g.R.ChunkRange.end g.R.ChunkRange.total (map (λ entry. entry.1) l.fn.entries.items)
      (map (λ entry. entry.1) l.entries.items ++ (l.range ∷ reverse l.values.items));
}
