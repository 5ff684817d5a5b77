use Rattle.std.specs.List.{AllByRecursion}
use Rattle.xet_hash.specs.Hash.{IsHash}
use Rattle.session_json.proofs.reading_back.Rest.nodes.Given as goal

abbrev pub invariant-nodes : goal.invariant-nodes
invariant-nodes l = AllByRecursion (λ node. IsHash node.0) l.nodes.items
