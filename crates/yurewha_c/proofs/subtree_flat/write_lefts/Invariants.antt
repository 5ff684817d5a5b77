use Rattle.std.proofs.Common.{◌≡◌, drop, length, take}
use Rattle.xet_merkle.specs.FlatLevels.{left_nodes}
use Rattle.yurewha_c.specs.Chunks.{nodes_of}
use Rattle.yurewha_c.proofs.subtree_flat.write_lefts.Given as goal

abbrev pub invariant-lefts : goal.invariant-lefts
invariant-lefts l = record {
  place : l.place ≡ length (left_nodes (take l.i l.subtree.levels));
  written : nodes_of (take l.place l.nodes) ≡ left_nodes (take l.i l.subtree.levels);
  rest : drop (length (left_nodes l.subtree.levels)) l.nodes ≡ drop (length (left_nodes l.subtree.levels)) l.initial.nodes;
  len : length l.nodes ≡ length l.initial.nodes;
}
