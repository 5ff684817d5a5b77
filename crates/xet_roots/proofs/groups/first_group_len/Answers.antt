use Rattle.std.proofs.Common.{arith, sym, ◌∙◌, ap}
use Rattle.xet_roots.specs.Groups.{is_cut}
use Rattle.xet_roots.proofs.Grouping.FirstGroup.{IsFirstGroup-at_cut, IsFirstGroup-at_end}
use Rattle.xet_roots.proofs.groups.first_group_len.Goals as goal

pub returns-then-is_natural_cut-clause-first : goal.returns-then-is_natural_cut-clause-first
returns-then-is_natural_cut-clause-first c =
    IsFirstGroup-at_cut c.args.nodes.now c.scan.i c.index-nodes-i.result (omega arith) (omega arith) (omega arith) c.scan.invariant
    (ap is_cut (sym c.index-nodes-i.is) ∙ sym c.is_natural_cut.ensures ∙ c.if-is_natural_cut.true)

pub returns-clause-first : goal.returns-clause-first
returns-clause-first c =
    IsFirstGroup-at_end c.args.nodes.now c.min-longest.result c.requires c.min-longest.ensures
    (λ k d two below. c.scan.invariant k d two (omega arith))
