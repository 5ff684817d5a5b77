use Rattle.std.proofs.Common.{◌≡◌, ◌-◌, length, get_or, ◌∙◌, arith, rules}
use Rattle.subtree_levels.proofs.OfLevels.Reading.{top_of-last}
use Rattle.subtree_levels.proofs.levels.top.Goals as goal

pub returns : goal.returns
returns g c =
    let levels = c.args.levels.now in
    let last : c.unwrap.result.now ≡ get_or levels (length levels - 1) c.unwrap.result.now = search rules in
    let some = c.requires in
    last ∙ top_of-last levels (length levels - 1) c.unwrap.result.now (omega arith)
