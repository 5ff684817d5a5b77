use Rattle.std.proofs.Common.{[]}
use Rattle.xetrange_text.proofs.MergedRanges.{AreRanges-none, AreMerged-none}
use Rattle.xetrange_text.proofs.merged_lines.MergedLines.new.Goals as goal

pub returns : goal.returns
returns g c =
    let empty = c.in-Ok.ensures in
    ([], AreRanges-none, AreMerged-none c.in-Ok.merged (empty.start, empty.end) empty.size empty.canonical, c.new.ensures.items, tt)
