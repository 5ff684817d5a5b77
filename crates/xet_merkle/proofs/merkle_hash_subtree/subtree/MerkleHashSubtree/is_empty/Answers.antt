use Rattle.std.proofs.Common.{arith}
use Rattle.std.proofs.lemmas.Bool.Decides.{nat_tests}
use Rattle.xet_roots.specs.Roots.{parent}
use Rattle.subtree_levels.proofs.Canonical.Bounds.{nodes_of_none}
use Rattle.xet_merkle.proofs.merkle_hash_subtree.subtree.MerkleHashSubtree.is_empty.Goals as goal

pub returns-clause-nodes : goal.returns-clause-nodes
returns-clause-nodes g c = grind (arith, nat_tests, c.num_nodes.ensures)

pub returns-clause-chunks : goal.returns-clause-chunks
returns-clause-chunks g c = λ chunks canonical.
    let empty = returns-clause-nodes g c in
    let none = nodes_of_none parent c.args.self.now.at_start c.args.self.now.at_end canonical.1 in
    (λ is. none.0 (empty.0 is), λ is. empty.1 (none.1 is))
