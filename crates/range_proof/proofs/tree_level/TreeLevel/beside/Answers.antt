use Rattle.std.proofs.Common.{◌≡◌, ◌+◌, ◌<◌, ◌≤◌, ◌-◌, ℕ, List, length, get_or, take, drop, sym, ap, subst, ◌∙◌, arith}
use Rattle.xet_roots.specs.Groups.{Node, Groups}
use Rattle.range_proof.specs.Steps.Trees.{IsBeside}
use Rattle.range_proof.proofs.PlacesOf.{IsPart}
use Rattle.range_proof.proofs.TreeOf.{node_searchable, cuts, beside_of}
use Rattle.range_proof.proofs.tree_level.TreeLevel.beside.Goals as goal

pub part_at-from-requires-clause-some : goal.part_at-from-requires-clause-some
part_at-from-requires-clause-some g c =
    let order = c.requires.some in
    let within = c.requires.within in
    let len = ap length c.self.view_is in
    subst (λ (l : List ℕ). 0 < length l) (sym c.deref.ensures.value) (node_searchable _ _ c.self.invariant c.args.first (omega arith)).some

pub part_at-from-requires-clause-begin : goal.part_at-from-requires-clause-begin
part_at-from-requires-clause-begin g c =
    let order = c.requires.some in
    let within = c.requires.within in
    let len = ap length c.self.view_is in
    subst (λ (l : List ℕ). get_or l 0 0 ≤ c.args.first) (sym c.deref.ensures.value) (node_searchable _ _ c.self.invariant c.args.first (omega arith)).begin

pub part_at-from-requires-clause-end : goal.part_at-from-requires-clause-end
part_at-from-requires-clause-end g c =
    let order = c.requires.some in
    let within = c.requires.within in
    let len = ap length c.self.view_is in
    subst (λ (l : List ℕ). c.args.first < get_or l (length l - 1) 0) (sym c.deref.ensures.value) (node_searchable _ _ c.self.invariant c.args.first (omega arith)).end

pub part_at-last-requires-clause-some : goal.part_at-last-requires-clause-some
part_at-last-requires-clause-some g c =
    let order = c.requires.some in
    let within = c.requires.within in
    let len = ap length c.self.view_is in
    subst (λ (l : List ℕ). 0 < length l) (sym c.deref-2.ensures.value) (node_searchable _ _ c.self.invariant (c.args.end - 1) (omega arith)).some

pub part_at-last-requires-clause-begin : goal.part_at-last-requires-clause-begin
part_at-last-requires-clause-begin g c =
    let order = c.requires.some in
    let within = c.requires.within in
    let len = ap length c.self.view_is in
    subst (λ (l : List ℕ). get_or l 0 0 ≤ c.args.end - 1) (sym c.deref-2.ensures.value) (node_searchable _ _ c.self.invariant (c.args.end - 1) (omega arith)).begin

pub part_at-last-requires-clause-end : goal.part_at-last-requires-clause-end
part_at-last-requires-clause-end g c =
    let order = c.requires.some in
    let within = c.requires.within in
    let len = ap length c.self.view_is in
    subst (λ (l : List ℕ). c.args.end - 1 < get_or l (length l - 1) 0) (sym c.deref-2.ensures.value) (node_searchable _ _ c.self.invariant (c.args.end - 1) (omega arith)).end

pub slice_bounds-copied-end-2 : goal.slice_bounds-copied-end-2
slice_bounds-copied-end-2 g c =
    let order = c.requires.some in
    let within = c.requires.within in
    let len = ap length c.self.view_is in
    let first : IsPart c.deref.result.now c.args.first c.part_at-from.result = record { within = c.part_at-from.ensures.within; begins = c.part_at-from.ensures.begins; ends = c.part_at-from.ensures.ends } in
    let last : IsPart c.deref-2.result.now (c.args.end - 1) c.part_at-last.result = record { within = c.part_at-last.ensures.within; begins = c.part_at-last.ensures.begins; ends = c.part_at-last.ensures.ends } in
    let first_is : IsPart c.self.inside.bounds.items c.args.first c.part_at-from.result = subst (λ (l : List ℕ). IsPart l c.args.first c.part_at-from.result) c.deref.ensures.value first in
    let last_is : IsPart c.self.inside.bounds.items (c.args.end - 1) c.part_at-last.result = subst (λ (l : List ℕ). IsPart l (c.args.end - 1) c.part_at-last.result) c.deref-2.ensures.value last in
    let cut = cuts _ _ c.self.invariant c.args.first c.args.end _ _ c.index.result.now c.index-2.result.now c.requires.some (omega arith) first_is last_is c.index.ensures c.index-2.ensures in
    let nodes = ap length c.deref-4.ensures.value in
    omega arith

pub returns : goal.returns
returns g c =
    let order = c.requires.some in
    let within = c.requires.within in
    let len = ap length c.self.view_is in
    let first : IsPart c.deref.result.now c.args.first c.part_at-from.result = record { within = c.part_at-from.ensures.within; begins = c.part_at-from.ensures.begins; ends = c.part_at-from.ensures.ends } in
    let last : IsPart c.deref-2.result.now (c.args.end - 1) c.part_at-last.result = record { within = c.part_at-last.ensures.within; begins = c.part_at-last.ensures.begins; ends = c.part_at-last.ensures.ends } in
    let first_is : IsPart c.self.inside.bounds.items c.args.first c.part_at-from.result = subst (λ (l : List ℕ). IsPart l c.args.first c.part_at-from.result) c.deref.ensures.value first in
    let last_is : IsPart c.self.inside.bounds.items (c.args.end - 1) c.part_at-last.result = subst (λ (l : List ℕ). IsPart l (c.args.end - 1) c.part_at-last.result) c.deref-2.ensures.value last in
    let begin = c.index.result.now in
    let stop = c.index-2.result.now in
    let nodes = c.self.inside.nodes.items in
    let is : c.in_ok-sides.sides ≡ record { left = take (c.args.first - begin) (drop begin nodes); right = take (stop - c.args.end) (drop c.args.end nodes) } =
    c.in_ok-sides.ensures
    ∙ (λ i. record { left = take (c.args.first - begin) (drop begin (c.deref-3.ensures.value i)); right = take (stop - c.args.end) (drop c.args.end (c.deref-4.ensures.value i)) }) in
    subst (λ (l : List Node). (groups : List (List Node)) → Groups l groups → IsBeside l groups c.args.first c.args.end c.in_ok-sides.sides c.part_at-from.result (c.part_at-last.result + 1))
    c.self.view_is
    (beside_of nodes _ c.self.invariant c.args.first c.args.end _ _ begin stop c.requires.some (omega arith) first_is last_is c.index.ensures c.index-2.ensures c.in_ok-sides.sides is)
