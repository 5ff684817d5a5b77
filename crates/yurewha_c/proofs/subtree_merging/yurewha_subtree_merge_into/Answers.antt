use Rattle.std.proofs.Common.{rules}
use Rattle.yurewha_c.proofs.subtree_merging.yurewha_subtree_merge_into.Goals as goal

pub returns-in-Err-clause-unchanged : goal.returns-in-Err-clause-unchanged
returns-in-Err-clause-unchanged g c = search rules
