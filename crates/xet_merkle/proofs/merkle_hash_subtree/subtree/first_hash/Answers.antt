use Rattle.std.proofs.Common.{sym, ◌∙◌}
use Rattle.subtree_levels.proofs.Canonical.FinalHash.{hash_of_none, hash_of_some}
use Rattle.xet_merkle.proofs.merkle_hash_subtree.subtree.first_hash.Goals as goal

pub returns-in-empty : goal.returns-in-empty
returns-in-empty c = c.default.ensures ∙ sym (hash_of_none c.args.nodes.now c.in-empty.len_below)

pub returns-in-len1-up : goal.returns-in-len1-up
returns-in-len1-up c = hash_of_some c.args.nodes.now c.index-nodes-0.result c.in-len1-up.len_at_least
