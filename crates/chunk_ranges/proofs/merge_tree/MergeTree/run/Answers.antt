use Rattle.std.proofs.Common.{◌≡◌, ◌<◌, ◌^◌, [], ◌∷◌, map, Option, None, Some, sym, ap, subst, ◌∙◌, append-nil, arith, rules}
use Rattle.std.specs.Prelude.{IfSome}
use Rattle.std.proofs.lemmas.List.Sums.{sum_by-cons}
use Rattle.chunk_ranges.specs.declared.merge_tree.MergeTree.{MergeTree}
use Rattle.chunk_ranges.specs.declared.merge_tree.Order.{Order}
use Rattle.chunk_ranges.specs.MergeTree.{leaves}
use Rattle.chunk_ranges.specs.Ranges.{NoMarkBetween, total_of}
use Rattle.chunk_ranges.specs.Steps.Adjacent.{IsPassed, refusal}
use Rattle.chunk_ranges.specs.Steps.Bracketing.{entries, AreBegun, depth}
use Rattle.chunk_ranges.specs.Steps.RangeMerging.{start_of_first, JoinsTo}
use Rattle.chunk_ranges.proofs.Ranges.Adjacent.{IsPassed-none, allowed_ranges, refused, accepted}
use Rattle.chunk_ranges.proofs.Ranges.Bracketing.{depth-entries, entries-leaves, first_of_leaves, last_of_leaves}
use Rattle.chunk_ranges.proofs.Ranges.Joining.{JoinsTo-one}
use Rattle.chunk_ranges.proofs.merge_tree.MergeTree.run.Goals as goal

some_same : {X : Type 0} (x y : X) → Some x ≡ Some y → x ≡ y
some_same x y e = cc

-- the entries that were taken from a tree are those of the tree
taken : {R A : Type 0} (self tree : MergeTree R A) (result : Option (Order R A)) (order : Order R A) → self ≡ tree → result ≡ Some order →
    IfSome result (λ order. order.entries.items ≡ entries 0 tree) → order.entries.items ≡ entries 0 self
taken self tree result order is some h = subst (λ o. IfSome o (λ order. order.entries.items ≡ entries 0 self)) some
    (subst (λ tree. IfSome result (λ order. order.entries.items ≡ entries 0 tree)) (sym is) h)

pub join_entries-requires : goal.join_entries-requires
join_entries-requires g c =
    let start = g.R.ChunkRange.start in
    let end = g.R.ChunkRange.end in
    let total = g.R.ChunkRange.total in
    let passed = c.take_apart-order.result.1 in
    let known : IsPassed start end total passed (leaves c.args.self) = subst (λ tree. IsPassed start end total passed (leaves tree)) (sym c.in-Join.is) c.take_apart-order.ensures.passed in
    let items = taken c.args.self _ _ c.in-Some-order.order c.in-Join.is c.in-Some-order.is c.take_apart-order.ensures.order in
    let ranges = sym (ap (map (λ entry. entry.1)) items ∙ entries-leaves 0 c.args.self) in
    let none : refusal passed.no_mark_between passed.total ≡ None = search rules in
    let allowed = allowed_ranges start end total passed (leaves c.args.self) known none in
    let order = depth-entries 0 c.args.self 0 (omega arith) in
    record {
      begun = subst (λ l. AreBegun l 0) (sym items) order.1;
      one = subst (λ l. depth l 0 ≡ 1) (sym items) order.0;
      marks = subst (NoMarkBetween start end) ranges allowed.0;
      fits = subst (λ l. total_of total l < 2 ^ 64) ranges allowed.1;
    }

pub returns-in-Some-clause-refusals : goal.returns-in-Some-clause-refusals
returns-in-Some-clause-refusals g c =
    let known : IsPassed g.R.ChunkRange.start g.R.ChunkRange.end g.R.ChunkRange.total c.pass.result (leaves c.args.self) =
    subst (λ tree. IsPassed g.R.ChunkRange.start g.R.ChunkRange.end g.R.ChunkRange.total c.pass.result (leaves tree)) (sym c.in-Leaf.is) (c.pass.ensures [] (rw c.new.ensures (IsPassed-none g.R.ChunkRange.start g.R.ChunkRange.end g.R.ChunkRange.total))) in
    refused g.R.ChunkRange.start g.R.ChunkRange.end g.R.ChunkRange.total c.pass.result (leaves c.args.self) c.in-Some.error known (sym c.refusal.ensures ∙ c.in-Some.is)

pub returns-in-None-clause-refusals : goal.returns-in-None-clause-refusals
returns-in-None-clause-refusals g c =
    let known : IsPassed g.R.ChunkRange.start g.R.ChunkRange.end g.R.ChunkRange.total c.pass.result (leaves c.args.self) =
    subst (λ tree. IsPassed g.R.ChunkRange.start g.R.ChunkRange.end g.R.ChunkRange.total c.pass.result (leaves tree)) (sym c.in-Leaf.is) (c.pass.ensures [] (rw c.new.ensures (IsPassed-none g.R.ChunkRange.start g.R.ChunkRange.end g.R.ChunkRange.total))) in
    let none : refusal c.pass.result.no_mark_between c.pass.result.total ≡ None = sym c.refusal.ensures ∙ c.in-None.is in
    let allowed = allowed_ranges g.R.ChunkRange.start g.R.ChunkRange.end g.R.ChunkRange.total c.pass.result (leaves c.args.self) known none in
    accepted allowed.0 allowed.1 _

pub returns-in_ok-join_entries-in-Join-clause-stands : goal.returns-in_ok-join_entries-in-Join-clause-stands
returns-in_ok-join_entries-in-Join-clause-stands g c =
    let items = taken c.args.self _ _ c.in-Some-order.order c.in-Join.is c.in-Some-order.is c.take_apart-order.ensures.order in
    let joined = subst (λ l. JoinsTo g.R.ChunkRange.stands g.R.ChunkRange.start g.R.ChunkRange.end g.R.ChunkRange.total l (c.in_ok-join_entries-in-Join.field-0 ∷ []))
    (ap (map (λ entry. entry.1)) items ∙ entries-leaves 0 c.args.self) c.in_ok-join_entries-in-Join.ensures.joined in
    JoinsTo-one g.R.ChunkRange.stands g.R.ChunkRange.start g.R.ChunkRange.end g.R.ChunkRange.total (leaves c.args.self) c.in_ok-join_entries-in-Join.field-0 joined

pub returns-in_ok-join_entries-in-Join-clause-start : goal.returns-in_ok-join_entries-in-Join-clause-start
returns-in_ok-join_entries-in-Join-clause-start g c =
    let items = taken c.args.self _ _ c.in-Some-order.order c.in-Join.is c.in-Some-order.is c.take_apart-order.ensures.order in
    let joined = subst (λ l. JoinsTo g.R.ChunkRange.stands g.R.ChunkRange.start g.R.ChunkRange.end g.R.ChunkRange.total l (c.in_ok-join_entries-in-Join.field-0 ∷ []))
    (ap (map (λ entry. entry.1)) items ∙ entries-leaves 0 c.args.self) c.in_ok-join_entries-in-Join.ensures.joined in
    some_same _ _ (joined.first ∙ ap (start_of_first g.R.ChunkRange.start) (sym (append-nil (leaves c.args.self))) ∙ first_of_leaves g.R.ChunkRange.start g.R.ChunkRange.end c.args.self [])

pub returns-in_ok-join_entries-in-Join-clause-end : goal.returns-in_ok-join_entries-in-Join-clause-end
returns-in_ok-join_entries-in-Join-clause-end g c =
    let items = taken c.args.self _ _ c.in-Some-order.order c.in-Join.is c.in-Some-order.is c.take_apart-order.ensures.order in
    let joined = subst (λ l. JoinsTo g.R.ChunkRange.stands g.R.ChunkRange.start g.R.ChunkRange.end g.R.ChunkRange.total l (c.in_ok-join_entries-in-Join.field-0 ∷ []))
    (ap (map (λ entry. entry.1)) items ∙ entries-leaves 0 c.args.self) c.in_ok-join_entries-in-Join.ensures.joined in
    some_same _ _ (joined.last ∙ last_of_leaves g.R.ChunkRange.start g.R.ChunkRange.end [] c.args.self)

pub returns-in_ok-join_entries-in-Join-clause-total : goal.returns-in_ok-join_entries-in-Join-clause-total
returns-in_ok-join_entries-in-Join-clause-total g c =
    let items = taken c.args.self _ _ c.in-Some-order.order c.in-Join.is c.in-Some-order.is c.take_apart-order.ensures.order in
    let joined = subst (λ l. JoinsTo g.R.ChunkRange.stands g.R.ChunkRange.start g.R.ChunkRange.end g.R.ChunkRange.total l (c.in_ok-join_entries-in-Join.field-0 ∷ []))
    (ap (map (λ entry. entry.1)) items ∙ entries-leaves 0 c.args.self) c.in_ok-join_entries-in-Join.ensures.joined in
    let one = sum_by-cons g.R.ChunkRange.total c.in_ok-join_entries-in-Join.field-0 [] in
    let sum = joined.sum in
    omega arith
