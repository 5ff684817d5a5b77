use Rattle.std.proofs.Common.{rules}
use Rattle.xet_merkle.proofs.merkle_hash_subtree.subtree.merging.whole_of.Goals as goal

pub returns-in_default-clause-refusals : goal.returns-in_default-clause-refusals
returns-in_default-clause-refusals g c = search rules

pub returns-clause-mergeable : goal.returns-clause-mergeable
returns-clause-mergeable g c = search rules

pub returns-clause-refusals : goal.returns-clause-refusals
returns-clause-refusals g c = search rules
