use Rattle.std.proofs.Common.{◌≡◌, ℕ, ◌∷◌, [], ◌++◌, List, drop, length, map, take, rules, tests, refl, sym, ap, ◌∙◌, arith, length-append, length-drop}
use Rattle.std.proofs.lemmas.List.{nil_from_length}
use Rattle.xet_roots.specs.Groups.{Node}
use Rattle.xet_roots.specs.Roots.{parent_by}
use Rattle.xet_roots.specs.Steps.Scan.{PushesParents}
use Rattle.xet_roots.proofs.Roots.Making.{LeadsTo-more, LeadsTo-one, LeadsTo-all, total_size-drop-le}
use Rattle.xet_roots.proofs.aggregated_hashes.push_parents.Goals as goal

pub batches-init : goal.batches-init
batches-init g c =
    record {
      so_far = λ groups cutting. (map (parent_by g.P.ParentMaker.hash_of) groups, (groups, cutting, refl), refl);
      fits = omega arith;
      count = refl;
      few = c.requires.few;
    }

pub batches-preserved : goal.batches-preserved
batches-preserved g c =
    let make = parent_by g.P.ParentMaker.hash_of in
    let wanted = PushesParents make c.args.nodes.now c.args.made.now.items in
    let made = c.batches.made.items in
    let rest = c.batches.rest.now in
    let inv = c.batches.invariant in
    let e = c.in_ok-read.ensures in
    let read : ℕ = c.in_ok-read.read in
    let groups = e.parents.0 in
    let after : c.split_at.result.1.now ≡ drop read rest = c.split_at.ensures.back in
    let left = length-drop read rest in
    record {
      so_far = rw (after, e.parents.2) (LeadsTo-more make wanted made rest groups (drop read rest) e.parents.1 inv.so_far);
      fits = rw after (omega (arith, total_size-drop-le read rest, inv.fits));
      count = omega (arith, inv.count, e.count);
      few = rw after (omega (arith, inv.few, e.few, e.within.1));
    }

pub groups-preserved : goal.groups-preserved
groups-preserved g c =
    let make = parent_by g.P.ParentMaker.hash_of in
    let wanted = PushesParents make c.args.nodes.now c.args.made.now.items in
    let made = c.groups.made.items in
    let rest = c.groups.rest.now in
    let n = c.first_group_len.result in
    let m = c.first_group_len-in-groups.result in
    let group = c.split_at-in-groups.result.0.now in
    let other = c.split_at-in-groups-2.result.0.now in
    let first = c.first_group_len.ensures.first in
    let after : c.split_at-in-groups.result.1.now ≡ drop n rest = c.split_at-in-groups.ensures.back in
    let second = rw after at c.first_group_len-in-groups.ensures.first in
    let some = first.is_group.not_empty in
    let one_more = LeadsTo-one make wanted made rest n first c.groups.invariant.so_far in
    let so_far = LeadsTo-one make wanted (made ++ make (take n rest) ∷ []) (drop n rest) m second one_more in
    let parent : (c.make_two-of_first.result.0, c.group_size-in-groups.result) ≡ make group = λ i. (c.make_two-of_first.ensures.first i, c.group_size-in-groups.ensures i) in
    let other_parent : (c.make_two-of_first.result.1, c.group_size-in-groups-2.result) ≡ make other = λ i. (c.make_two-of_first.ensures.second i, c.group_size-in-groups-2.ensures i) in
    let once : c.push-in-groups.new.self.items ≡ made ++ make group ∷ [] =
    c.in_ok-push-2.ensures.items ∙ ap (λ (node : Node). made ++ node ∷ []) parent in
    let items : c.push-in-groups-2.new.self.items ≡ (made ++ make group ∷ []) ++ make other ∷ [] =
    c.in_ok-push-3.ensures.items ∙ ap (λ (node : Node). c.push-in-groups.new.self.items ++ node ∷ []) other_parent ∙ ap (λ (l : List Node). l ++ make other ∷ []) once in
    let length_once = length-append made (make group ∷ []) in
    let length_twice = length-append (made ++ make group ∷ []) (make other ∷ []) in
    let len = length-drop n rest in
    let len_after = length-drop m (drop n rest) in
    let count = c.groups.invariant.count in
    let more = c.make_two-of_first.ensures.count in
    let few = c.groups.invariant.few in
    let front : other ≡ take m (drop n rest) = c.split_at-in-groups-2.ensures.front ∙ ap (take m) after in
    let back : c.split_at-in-groups-2.result.1.now ≡ drop m (drop n rest) = c.split_at-in-groups-2.ensures.back ∙ ap (drop m) after in
    record {
      so_far = rw (items, front, back, c.split_at-in-groups.ensures.front) so_far;
      fits = rw back (let fits = c.groups.invariant.fits in omega (arith, total_size-drop-le n rest, total_size-drop-le m (drop n rest)));
      count = rw items (omega arith);
      few = rw (items, back) (omega arith);
    }

pub returns-then-is_empty-clause-parents : goal.returns-then-is_empty-clause-parents
returns-then-is_empty-clause-parents g c =
    let make = parent_by g.P.ParentMaker.hash_of in
    let wanted = PushesParents make c.args.nodes.now c.args.made.now.items in
    let made = c.groups.made.items in
    let rest = c.groups.rest.now in
    let n = c.first_group_len.result in
    let group = c.split_at-in-groups.result.0.now in
    let none : length c.split_at-in-groups.result.1.now ≡ 0 = search (rules, tests) in
    let all : drop n rest ≡ [] = sym c.split_at-in-groups.ensures.back ∙ nil_from_length c.split_at-in-groups.result.1.now none in
    let parent : (c.make.result, c.group_size.result) ≡ make group = λ i. (c.make.ensures.hash i, c.group_size.ensures i) in
    let items : c.push.new.self.items ≡ made ++ make (take n rest) ∷ [] =
    c.in_ok-push.ensures.items ∙ ap (λ (node : Node). made ++ node ∷ []) (parent ∙ ap make c.split_at-in-groups.ensures.front) in
    rw items (LeadsTo-all make wanted (made ++ make (take n rest) ∷ []) (drop n rest) all (LeadsTo-one make wanted made rest n c.first_group_len.ensures.first c.groups.invariant.so_far))

pub returns : goal.returns
returns g c =
    let none : length c.groups.rest.now ≡ 0 = search (rules, tests) in
    record {
      parents = LeadsTo-all (parent_by g.P.ParentMaker.hash_of) (PushesParents (parent_by g.P.ParentMaker.hash_of) c.args.nodes.now c.args.made.now.items) c.groups.made.items c.groups.rest.now (nil_from_length c.groups.rest.now none) c.groups.invariant.so_far;
      count = c.groups.invariant.count;
      few = let few = c.groups.invariant.few in omega arith;
    }
