use Rattle.std.proofs.Common.{arith}
use Rattle.range_proof.proofs.FlatOf.{flat_kept}
use Rattle.yurewha_c.specs.Chunks.{nodes_of}
use Rattle.yurewha_c.specs.FlatLists.{counts_of}
use Rattle.yurewha_c.proofs.proof_check.yurewha_range_proof_check.Goals as goal

pub returns-in-Some-clause-valid : goal.returns-in-Some-clause-valid
returns-in-Some-clause-valid c = (
  λ done. absurd (omega arith),
  λ valid. absurd (flat_kept (counts_of c.args.levels.now) (nodes_of c.args.nodes.now) valid.0 c.in-Some.rule valid.1.flat valid.1.well_formed c.in-Some.ensures.broken),
)
