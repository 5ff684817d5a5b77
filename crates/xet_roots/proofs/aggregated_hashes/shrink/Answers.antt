use Rattle.std.proofs.Common.{◌≡◌, ℕ, rules, tests, List, [], ◌∷◌, ◌++◌, ◌≤◌, ◌+◌, ◌-◌, length, take, drop, set, sym, ap, ◌∙◌, arith, length-set, length-drop, length-take}
use Rattle.std.proofs.lemmas.List.{nil_from_length, take_more_set, drop-set-lt, drop-drop, drop_all, take_rest}
use Rattle.xet_roots.specs.Groups.{Node}
use Rattle.xet_roots.specs.Roots.{parent}
use Rattle.xet_roots.specs.Steps.Scan.{AreParents}
use Rattle.xet_roots.proofs.Roots.Making.{LeadsTo-one, LeadsTo-all, total_size-drop-le}
use Rattle.xet_roots.proofs.aggregated_hashes.shrink.Goals as goal

pub groups-preserved : goal.groups-preserved
groups-preserved g c =
    let nodes = c.groups.nodes.items in
    let start = c.args.nodes.now.items in
    let made = c.groups.made in
    let read = c.groups.read in
    let n = c.first_group_len-first.result in
    let m = c.first_group_len-second.result in
    let p = c.two_parents-of_first.result.0 in
    let q = c.two_parents-of_first.result.1 in
    let written = c.groups.invariant.written in
    let fits = c.groups.invariant.fits in
    let test = c.groups-test.true in
    let rest = drop read nodes in
    let after = drop n rest in
    let len_rest = length-drop read nodes in
    let len_after = length-drop n rest in
    let whole : take (length c.deref.result.now - read) (drop read c.deref.result.now) ≡ rest =
    take_rest c.deref.result.now read ∙ ap (drop read) c.deref.ensures.value in
    let first = rw whole at c.first_group_len-first.ensures.first in
    let bound : n ≤ length rest = rw whole at c.first_group_len-first.ensures.bound in
    let back : c.split_at.result.1.now ≡ after = rw whole at c.split_at.ensures.back in
    let front : c.split_at.result.0.now ≡ take n rest = rw whole at c.split_at.ensures.front in
    let second = rw back at c.first_group_len-second.ensures.first in
    let bound_after : m ≤ length after = rw back at c.first_group_len-second.ensures.bound in
    let some = first.is_group.not_empty in
    let some_after = second.is_group.not_empty in
    let len = length-take n rest in
    let len_second = length-take m after in
    let once = set nodes made p in
    let len_once = length-set nodes made p in
    let same_rest : drop (read + (n + m)) (set once (made + 1) q) ≡ drop m after =
    drop-set-lt (read + (n + m)) once (made + 1) q (omega arith) ∙ drop-set-lt (read + (n + m)) nodes made p (omega arith)
    ∙ sym (drop-drop m n rest ∙ drop-drop (n + m) read nodes) in
    let same_first : p ≡ parent (take n rest) = c.two_parents-of_first.ensures.first ∙ ap parent front in
    let same_second : q ≡ parent (take m after) = c.two_parents-of_first.ensures.second ∙ ap (λ (l : List Node). parent (take m l)) back in
    let two : made + 2 ≡ made + 1 + 1 = omega arith in
    let longer : take (made + 2) (set once (made + 1) q) ≡ (take made nodes ++ parent (take n rest) ∷ []) ++ parent (take m after) ∷ [] =
    ap (λ (i : ℕ). take i (set once (made + 1) q)) two ∙ take_more_set once (made + 1) q (omega arith) ∙ ap (λ (l : List Node). l ++ q ∷ []) (take_more_set nodes made p (omega arith))
    ∙ ap (λ (x : Node). (take made nodes ++ x ∷ []) ++ q ∷ []) same_first
    ∙ ap (λ (x : Node). (take made nodes ++ parent (take n rest) ∷ []) ++ x ∷ []) same_second in
    let one_more = LeadsTo-one parent (AreParents parent start) (take made nodes) rest n first c.groups.invariant.so_far in
    record {
      written = omega arith;
      within = rw (length-set once (made + 1) q, len_once) (omega arith);
      so_far = rw (same_rest, longer) (LeadsTo-one parent (AreParents parent start) (take made nodes ++ parent (take n rest) ∷ []) after m second one_more);
      fits = rw same_rest (omega (arith, total_size-drop-le n rest, total_size-drop-le m after));
    }

pub returns-then-is_empty : goal.returns-then-is_empty
returns-then-is_empty g c =
    let nodes = c.groups.nodes.items in
    let start = c.args.nodes.now.items in
    let made = c.groups.made in
    let read = c.groups.read in
    let n = c.first_group_len-first.result in
    let p = c.parent.result in
    let written = c.groups.invariant.written in
    let test = c.groups-test.true in
    let rest = drop read nodes in
    let whole : take (length c.deref.result.now - read) (drop read c.deref.result.now) ≡ rest =
    take_rest c.deref.result.now read ∙ ap (drop read) c.deref.ensures.value in
    let first = rw whole at c.first_group_len-first.ensures.first in
    let back : c.split_at.result.1.now ≡ drop n rest = rw whole at c.split_at.ensures.back in
    let front : c.split_at.result.0.now ≡ take n rest = rw whole at c.split_at.ensures.front in
    let none : length c.split_at.result.1.now ≡ 0 = search (rules, tests) in
    let all : drop n rest ≡ [] = sym back ∙ nil_from_length c.split_at.result.1.now none in
    let longer : take (made + 1) (set nodes made p) ≡ take made nodes ++ parent (take n rest) ∷ [] =
    take_more_set nodes made p (omega arith) ∙ ap (λ (x : Node). take made nodes ++ x ∷ []) (c.parent.ensures ∙ ap parent front) in
    rw (c.truncate.ensures.items, longer)
    (LeadsTo-all parent (AreParents parent start) (take made nodes ++ parent (take n rest) ∷ []) (drop n rest) all (LeadsTo-one parent (AreParents parent start) (take made nodes) rest n first c.groups.invariant.so_far))

pub returns : goal.returns
returns g c =
    let nodes = c.groups.nodes.items in
    rw c.truncate-2.ensures.items
    (LeadsTo-all parent (AreParents parent c.args.nodes.now.items) (take c.groups.made nodes) (drop c.groups.read nodes) (drop_all c.groups.read nodes (omega arith)) c.groups.invariant.so_far)
