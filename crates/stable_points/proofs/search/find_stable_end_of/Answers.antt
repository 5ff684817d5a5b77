use Rattle.std.proofs.Common.{◌≡◌, ◌+◌, ◌++◌, true, map, take, drop, ap, subst, sym, ◌∙◌, List, arith}
use Rattle.std.proofs.lemmas.List.{drop-map, length-map}
use Rattle.xet_roots.specs.Groups.{Node}
use Rattle.stable_points.specs.StablePoints.{IsLastStable}
use Rattle.stable_points.specs.Steps.StableScan.{IsFront}
use Rattle.stable_points.proofs.StablePoints.Boundaries.{boundary_around}
use Rattle.stable_points.proofs.StablePoints.Ends.{last_from}
use Rattle.stable_points.proofs.StablePoints.Loops.{last_after_nothing, none_after_nothing}
use Rattle.std.proofs.lemmas.Option.{IfSome_then}
use Rattle.stable_points.proofs.search.find_stable_end_of.Goals as goal

pub returns-in-Some-last_stable_of-clause-last : goal.returns-in-Some-last_stable_of-clause-last
returns-in-Some-last_stable_of-clause-last g c =
    let node = g.T.AsNode.node_of in
    let all = map node c.args.nodes.now in
    let start = c.in-Some.start in
    let found = c.in-Some-last_stable_of.found in
    let late : map node c.split_at.result.1.now ≡ drop start all = ap (map node) c.split_at.ensures.back ∙ sym (drop-map node start c.args.nodes.now) in
    last_from all start found c.in-Some.ensures.cut
    (subst (λ (l : List Node). (front : List Node) → IsFront true front → IsLastStable (front ++ take found l) (drop found l)) late c.in-Some-last_stable_of.ensures.last)

pub returns-in-Some-last_stable_of-clause-boundary : goal.returns-in-Some-last_stable_of-clause-boundary
returns-in-Some-last_stable_of-clause-boundary g c =
    let all = map g.T.AsNode.node_of c.args.nodes.now in
    let place = c.in-Some.start + c.in-Some-last_stable_of.found in
    boundary_around (take place all) (drop place all) (returns-in-Some-last_stable_of-clause-last g c).stable.ends

pub returns-clause-last : goal.returns-clause-last
returns-clause-last g c = last_after_nothing (map g.T.AsNode.node_of c.args.nodes.now) c.last_stable_of-2.result c.last_stable_of-2.ensures.last

pub returns-clause-none : goal.returns-clause-none
returns-clause-none g c = none_after_nothing (map g.T.AsNode.node_of c.args.nodes.now) c.last_stable_of-2.result c.last_stable_of-2.ensures.none

pub returns-clause-boundary : goal.returns-clause-boundary
returns-clause-boundary g c =
    let nodes = map g.T.AsNode.node_of c.args.nodes.now in
    IfSome_then c.last_stable_of-2.result (returns-clause-last g c) (λ place last. boundary_around (take place nodes) (drop place nodes) last.stable.ends)
