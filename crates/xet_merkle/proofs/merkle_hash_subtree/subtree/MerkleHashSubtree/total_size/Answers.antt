use Rattle.std.proofs.Common.{ap, ◌∙◌}
use Rattle.subtree_levels.specs.Levels.{levels_size}
use Rattle.subtree_levels.specs.Subtree.{Subtree}
use Rattle.xet_roots.specs.Roots.{parent_hash}
use Rattle.subtree_levels.proofs.Canonical.Collapsing.{levels_size-canonical}
use Rattle.xet_merkle.proofs.merkle_hash_subtree.subtree.MerkleHashSubtree.total_size.Goals as goal

pub returns-clause-nodes : goal.returns-clause-nodes
returns-clause-nodes g c = c.self.invariant.size_is ∙ ap (λ (s : Subtree). levels_size s.levels) c.self.view_is

pub returns-clause-chunks : goal.returns-clause-chunks
returns-clause-chunks g c = λ chunks canonical. returns-clause-nodes g c ∙ levels_size-canonical parent_hash canonical.1
