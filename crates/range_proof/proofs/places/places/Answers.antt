use Rattle.std.proofs.Common.{◌≡◌, ◌+◌, List, [], ◌∷◌, ◌++◌, ℕ, take, sym, ap, subst, ◌∙◌, arith}
use Rattle.std.proofs.lemmas.List.{take_more, take_all}
use Rattle.std.proofs.lemmas.List.Sums.{sum_by_more, sum_by_more_le}
use Rattle.xet_roots.specs.Groups.{Node}
use Rattle.range_proof.specs.Steps.Places.{ArePlaces}
use Rattle.range_proof.proofs.PlacesOf.{AreSums-none, AreSums-push}
use Rattle.range_proof.proofs.places.places.Goals as goal

pub nodes-init : goal.nodes-init
nodes-init g c = record {
  place = omega arith;
  so_far = AreSums-none (λ (n : Node). n.1) c.args.start c.push.new.self.items
      (c.in_ok-push.ensures.items ∙ ap (λ (l : List ℕ). l ++ c.args.start ∷ []) c.in_ok-places.ensures.items);
}

pub overflow_add-place : goal.overflow_add-place
overflow_add-place g c =
    let node = c.nodes-item.result in
    let most = sum_by_more_le (λ (n : Node). n.1) c.args.nodes.now c.nodes.size-index node c.nodes-test.true in
    let size = ap (λ (n : Node). n.1) c.nodes-item.is in
    let place = c.nodes.invariant.place in
    let fits = c.requires in
    omega arith

pub nodes-preserved : goal.nodes-preserved
nodes-preserved g c =
    let nodes = c.args.nodes.now in
    let i = c.nodes.size-index in
    let node = c.nodes-item.result in
    let more = sum_by_more (λ (n : Node). n.1) nodes i node c.nodes-test.true in
    let size = ap (λ (n : Node). n.1) c.nodes-item.is in
    let place = c.nodes.invariant.place in
    let taken : take (i + 1) nodes ≡ take i nodes ++ node ∷ [] =
    take_more nodes i node c.nodes-test.true ∙ ap (λ (n : Node). take i nodes ++ n ∷ []) (sym c.nodes-item.is) in
    record {
      place = omega arith;
      so_far =
          subst (ArePlaces c.args.start (take (i + 1) nodes)) (sym c.in_ok-push-2.ensures.items)
          (subst (λ (l : List Node). ArePlaces c.args.start l (c.nodes.places.items ++ (c.nodes.place + node.1) ∷ [])) (sym taken)
          (AreSums-push (λ (n : Node). n.1) c.args.start (take i nodes) c.nodes.places.items node (c.nodes.place + node.1) c.nodes.invariant.so_far (omega arith)));
    }

pub returns : goal.returns
returns g c =
    subst (λ (l : List Node). ArePlaces c.args.start l c.nodes.places.items) (take_all c.nodes.size-index c.args.nodes.now c.nodes-test.false)
    c.nodes.invariant.so_far
