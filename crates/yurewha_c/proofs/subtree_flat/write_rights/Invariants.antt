use Rattle.std.proofs.Common.{◌≡◌, ◌+◌, ◌-◌, ◌++◌, drop, length, take}
use Rattle.xet_merkle.specs.FlatLevels.{right_nodes}
use Rattle.yurewha_c.specs.Chunks.{nodes_of}
use Rattle.yurewha_c.proofs.subtree_flat.write_rights.Given as goal

abbrev pub invariant-rights : goal.invariant-rights
invariant-rights l = record {
  place : l.place ≡ l.at + length (right_nodes (drop (l.count - l.i) l.subtree.levels));
  written : nodes_of (take l.place l.nodes) ≡ nodes_of (take l.at l.initial.nodes) ++ right_nodes (drop (l.count - l.i) l.subtree.levels);
  rest : drop (l.at + length (right_nodes l.subtree.levels)) l.nodes ≡ drop (l.at + length (right_nodes l.subtree.levels)) l.initial.nodes;
  len : length l.nodes ≡ length l.initial.nodes;
}
