use Rattle.std.proofs.Common.{rules}
use Rattle.yurewha_c.proofs.subtree.yurewha_subtree_from_chunks.Goals as goal

pub returns-in-Ok-clause-made : goal.returns-in-Ok-clause-made
returns-in-Ok-clause-made g c = search rules
