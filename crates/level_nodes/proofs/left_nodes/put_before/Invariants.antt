use Rattle.std.proofs.Common.{◌≡◌, ◌+◌, ◌≤◌, ◌++◌, length, drop}
use Rattle.level_nodes.proofs.left_nodes.put_before.Given as goal

abbrev pub invariant-nodes : goal.invariant-nodes
invariant-nodes g l = record {
  len : length l.nodes.items ≡ length l.fn.nodes.items;
  room : l.at + length l.fn.more ≡ l.end + length l.rest;
  bound : length l.rest ≤ l.at;
  short : length l.rest ≤ length l.fn.more;
  put : l.rest ++ drop l.at l.nodes.items ≡ l.fn.more ++ drop l.end l.fn.nodes.items;
}

abbrev pub decreases-nodes : goal.decreases-nodes
decreases-nodes g l = length l.rest
