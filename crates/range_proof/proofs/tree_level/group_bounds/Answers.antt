use Rattle.std.proofs.Common.{◌≡◌, ◌+◌, ◌≤◌, ◌-◌, ℕ, List, [], ◌∷◌, ◌++◌, length, take, drop, sym, ap, subst, ◌∙◌, arith, length-drop}
use Rattle.std.proofs.lemmas.List.{take_rest}
use Rattle.range_proof.proofs.TreeOf.{IsBoundedTo, IsBoundedTo-none, IsBoundedTo-more, bounds_of_all}
use Rattle.range_proof.proofs.tree_level.group_bounds.Goals as goal

pub groups-init : goal.groups-init
groups-init g c = record {
  within = omega arith;
  bounded = IsBoundedTo-none c.args.nodes.now c.push.new.self.items
      (c.in_ok-push.ensures.items ∙ ap (λ (l : List ℕ). l ++ 0 ∷ []) c.in_ok-bounds.ensures.items);
}

pub groups-preserved : goal.groups-preserved
groups-preserved g c =
    let nodes = c.args.nodes.now in
    let begin = c.groups.begin in
    let n = c.first_group_len-begin.result in
    let whole : take (length nodes - begin) (drop begin nodes) ≡ drop begin nodes = take_rest nodes begin in
    let bound : n ≤ length (drop begin nodes) = rw whole at c.first_group_len-begin.ensures.bound in
    let first = rw whole at c.first_group_len-begin.ensures.first in
    let so_far = c.groups.invariant.within in
    record {
      within = omega (arith, length-drop begin nodes);
      bounded = subst (IsBoundedTo nodes (begin + n)) (sym c.in_ok-push-2.ensures.items)
          (IsBoundedTo-more nodes begin n c.groups.bounds.items c.groups.invariant.bounded bound first);
    }

pub returns : goal.returns
returns g c = bounds_of_all c.args.nodes.now c.groups.begin c.groups.bounds.items c.groups-test.false c.groups.invariant.bounded
