use Rattle.std.proofs.Common.{sym, ap, ◌∙◌}
use Rattle.subtree_levels.specs.Levels.{levels_size}
use Rattle.subtree_levels.specs.Subtree.{Subtree}
use Rattle.xet_roots.specs.Roots.{parent_hash}
use Rattle.subtree_levels.proofs.Canonical.Collapsing.{levels_size-canonical}
use Rattle.subtree_levels.proofs.Merging.Kept.{canonical_well_formed}
use Rattle.xet_merkle.proofs.merkle_hash_subtree.subtree.MerkleHashSubtree.from_chunks_of.Goals as goal

pub from_levels-requires-clause-well_formed : goal.from_levels-requires-clause-well_formed
from_levels-requires-clause-well_formed g c = canonical_well_formed c.args.at_start c.args.at_end c.in_ok-levels.ensures.1

pub from_levels-requires-clause-size : goal.from_levels-requires-clause-size
from_levels-requires-clause-size g c = levels_size-canonical parent_hash c.in_ok-levels.ensures.1 ∙ sym c.in-Some.ensures.total.1

pub returns-clause-size : goal.returns-clause-size
returns-clause-size g c = ap (λ (s : Subtree). levels_size s.levels) c.in_ok-from_levels.ensures ∙ levels_size-canonical parent_hash c.in_ok-levels.ensures.1
