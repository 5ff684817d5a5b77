use Rattle.std.proofs.Common.{refl}
use Rattle.yurewha_c.proofs.RangeStatuses.{put_status}
use Rattle.yurewha_c.proofs.session_joining.put_copy.Goals as goal

pub returns-in-Err-put_range-clause-status : goal.returns-in-Err-put_range-clause-status
returns-in-Err-put_range-clause-status c =
    let refused = c.in-Err-put_range.ensures in
    rw (c.in-Ok.ensures.copy, c.status_of_range_fault.ensures)
    (put_status _ c.in-Err-put_range.fault refl c.args.kept.now c.args.first c.args.count c.in-Ok.copy refused.range refused.overlap refused.positions refused.sizes)
