use Rattle.std.proofs.Common.{◌≤◌, ◌<◌, ◌⊎◌, List, length, subst}
use Rattle.std.specs.Prelude.{◌↔◌, IsErrOf}
use Rattle.xet_roots.specs.Groups.{Node}
use Rattle.xet_roots.specs.declared.error.CoreError.TheVariants.{InvalidArguments}
use Rattle.range_proof.proofs.proof.RangeProof.from_chunks.Goals as goal

pub returns-clause-refused : goal.returns-clause-refused
returns-clause-refused g c =
    subst (λ (l : List Node). IsErrOf c.proof.result InvalidArguments ↔ ((c.args.end ≤ c.args.first) ⊎ (length l < c.args.end))) c.in_ok-tree.ensures.chunks
    c.proof.ensures.refused
