use Rattle.std.proofs.Common.{arith}
use Rattle.std.specs.Prelude.{Option, Some, None, IfNone}
use Rattle.subtree_levels.proofs.Canonical.Splits.{no_split_after, split_at_places}
use Rattle.subtree_levels.proofs.split.find_split.Goals as goal

if_none : {A P : Type 0} (found : Option A) → P → IfNone found P
if_none None p = p
if_none (Some place) p = tt

pub returns-in_err-high-clause-none : goal.returns-in_err-high-clause-none
returns-in_err-high-clause-none g c =
    if_none c.from_residual-in_err-high.result (no_split_after g.T.AsNode.node_of c.args.marks.at_start c.args.marks.at_end c.args.nodes.now
    c.split_at.result.1.now c.in_ok-low.low c.split_at.ensures.back c.in_ok-low.ensures.low c.in_err-high.ensures.none)

pub returns-clause-split : goal.returns-clause-split
returns-clause-split g c =
    split_at_places g.T.AsNode.node_of c.args.marks.at_start c.args.marks.at_end c.args.nodes.now c.split_at.result.0.now c.split_at.result.1.now
    c.split_at-2.result.0.now c.split_at-2.result.1.now c.in_ok-low.low c.in_ok-high.high (omega arith) c.split_at.ensures.front c.split_at.ensures.back
    c.split_at-2.ensures.front c.split_at-2.ensures.back c.in_ok-low.ensures.low c.in_ok-high.ensures.high
