use Rattle.std.proofs.Common.{◌≡◌, ◌+◌, ◌++◌, drop, length, take}
use Rattle.yurewha_c.specs.Chunks.{nodes_of}
use Rattle.yurewha_c.proofs.subtree_flat.write_nodes.Given as goal

abbrev pub invariant-nodes : goal.invariant-nodes
invariant-nodes l = record {
  written : nodes_of (take (l.at + l.i) l.list) ≡ nodes_of (take l.at l.initial.list) ++ take l.i l.nodes;
  rest : drop (l.at + length l.nodes) l.list ≡ drop (l.at + length l.nodes) l.initial.list;
  len : length l.list ≡ length l.initial.list;
}
