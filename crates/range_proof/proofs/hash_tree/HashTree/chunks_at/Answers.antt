use Rattle.std.proofs.Common.{◌≡◌, ◌+◌, ◌-◌, ℕ, List, min, subst, ap, ◌∙◌}
use Rattle.xet_roots.specs.Groups.{Node}
use Rattle.xet_roots.specs.Roots.{total_size}
use Rattle.range_proof.specs.Proving.{IsRangeOfBytes}
use Rattle.range_proof.proofs.PlacesOf.{IsPart}
use Rattle.range_proof.proofs.TreeOf.{IsRangeOfBytes-from}
use Rattle.range_proof.proofs.hash_tree.HashTree.chunks_at.Goals as goal

pub returns-clause-range : goal.returns-clause-range
returns-clause-range g c =
    let stop = c.min-stop.result in
    let stop_is : stop ≡ min c.args.to (total_size c.args.self.now) = c.min-stop.ensures ∙ ap (min c.args.to) c.total_size.ensures in
    let places = c.self.inside.places.items in
    let first : IsPart c.deref.result.now c.args.from c.part_at-first.result =
    record { within = c.part_at-first.ensures.within; begins = c.part_at-first.ensures.begins; ends = c.part_at-first.ensures.ends } in
    let last : IsPart c.deref-2.result.now (stop - 1) c.part_at-last.result =
    record { within = c.part_at-last.ensures.within; begins = c.part_at-last.ensures.begins; ends = c.part_at-last.ensures.ends } in
    subst (λ (n : ℕ). IsRangeOfBytes c.args.self.now c.args.from n c.part_at-first.result (c.part_at-last.result + 1)) stop_is
    (subst (λ (l : List Node). IsRangeOfBytes l c.args.from stop c.part_at-first.result (c.part_at-last.result + 1)) c.self.view_is
    (IsRangeOfBytes-from _ places c.args.from stop c.part_at-first.result c.part_at-last.result c.self.invariant.places_are c.if-stop-from.false
    (subst (λ (l : List ℕ). IsPart l c.args.from c.part_at-first.result) c.deref.ensures.value first)
    (subst (λ (l : List ℕ). IsPart l (stop - 1) c.part_at-last.result) c.deref-2.ensures.value last)))
