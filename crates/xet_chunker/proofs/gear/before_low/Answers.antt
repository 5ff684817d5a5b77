use Rattle.std.proofs.Common.{◌+◌, ap, ◌∙◌, arith, take}
use Rattle.xet_chunker.specs.Gear.{gear_after}
use Rattle.xet_chunker.proofs.Cuts.Scanning.{passed_both}
use Rattle.xet_chunker.proofs.gear.before_low.Goals as goal

pub returns-clause-low : goal.returns-clause-low
returns-clause-low c = λ more.
    c.before_low_in_few-count.ensures.low (omega arith)
    ∙ ap (λ l. gear_after c.pass_fours-passed.result.1 (take (c.before_low_in_few-count.result.0 + 1) l)) c.split_at.ensures.back
    ∙ passed_both c.args.gear c.pass_fours-passed.result.1 c.pass_fours-passed.result.0 c.before_low_in_few-count.result.0 c.args.bytes.now c.pass_fours-passed.ensures.passed
