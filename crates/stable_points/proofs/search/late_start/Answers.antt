use Rattle.std.proofs.Common.{◌≡◌, ◌+◌, ◌-◌, ◌++◌, ◌∷◌, [], length, take, drop, sym, ap, ◌∙◌, arith}
use Rattle.std.proofs.lemmas.List.{take_all, take_more}
use Rattle.stable_points.proofs.StablePoints.Appending.{late_scan_from}
use Rattle.stable_points.proofs.search.late_start.Goals as goal

pub returns-then-has_cut-clause-scan : goal.returns-then-has_cut-clause-scan
returns-then-has_cut-clause-scan c =
    let nodes = c.args.nodes.now in
    let rest = c.nodes.rest.now in
    let node = c.node-item.result in
    let n = length rest - 1 in
    let some = c.in-len1-up.len_at_least in
    let ends : rest ≡ take n rest ++ node ∷ [] =
    sym (take_all (n + 1) rest (omega arith)) ∙ take_more rest n node (omega arith) ∙ ap (λ x. take n rest ++ x ∷ []) (sym c.node-item.is) in
    late_scan_from nodes rest (take n rest) (drop (length rest) nodes) node c.nodes.invariant.parts ends
    (sym c.is_natural_cut.ensures ∙ c.if-is_natural_cut.true) (sym c.nodes.invariant.passed ∙ c.if-has_cut.true)
