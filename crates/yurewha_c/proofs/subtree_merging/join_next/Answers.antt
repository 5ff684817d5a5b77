use Rattle.xet_roots.proofs.Results.{passed_on}
use Rattle.chunk_ranges.proofs.Ranges.Adjacent.{for_memory}
use Rattle.yurewha_c.proofs.subtree_merging.join_next.Goals as goal

pub returns-in_err-merge_into-clause-errors : goal.returns-in_err-merge_into-clause-errors
returns-in_err-merge_into-clause-errors c =
    let can = rw c.in-Some.is at c.requires in
    passed_on _ c.from_residual.result c.in_err-merge_into.field-0.0 c.from_residual.ensures.1
    (for_memory can.0 can.1 c.in_err-merge_into.field-0.0 c.in_err-merge_into.ensures.refusals)
