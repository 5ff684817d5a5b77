use Rattle.std.proofs.Common.{◌≡◌, ◌<◌, [], ◌∷◌, ◌++◌, refl, sym, ap, subst, ◌∙◌, append_assoc}
use Rattle.std.specs.Prelude.{IfSome}
use Rattle.chunk_ranges.specs.declared.merge_tree.MergeTree.TheVariants.{Join, Join'}
use Rattle.chunk_ranges.specs.MergeTree.{leaves}
use Rattle.chunk_ranges.specs.Steps.Bracketing.{entries, entries_after, lefts}
use Rattle.chunk_ranges.proofs.Ranges.Adjacent.{IsPassed-none}
use Rattle.chunk_ranges.proofs.Ranges.Bracketing.{entries_after-none, taken_order, lowered_order, lowered_lefts}
use Rattle.chunk_ranges.proofs.merge_tree.take_apart.Goals as goal

pub leaves-init : goal.leaves-init
leaves-init g c = record {
  seen = [];
  parts = refl;
  passed = rw c.new-passed.ensures (IsPassed-none g.R.ChunkRange.start g.R.ChunkRange.end g.R.ChunkRange.total);
  order = rw (c.new.ensures.entries, c.new.ensures.begun, c.new.ensures.links) (entries_after-none 0 c.args.tree);
}

pub leaves-preserved-in-Taken : goal.leaves-preserved-in-Taken
leaves-preserved-in-Taken g c =
    let at = c.in-Taken.ensures in
    let seen = c.leaves.invariant.seen in
    let range = c.in-Taken.range in
    let rest = c.in-Taken.rest in
    let tree_is = c.in-Join.is ∙ (λ i. Join (record { ptr = c.in-Join.left.ptr; alloc = c.in-Join.left.alloc; value = at.0 i }) (record { ptr = c.in-Join.right.ptr; alloc = c.in-Join.right.alloc; value = at.1 i })) in
    record {
      seen = seen ++ range ∷ [];
      parts = c.leaves.invariant.parts ∙ ap (λ tree. seen ++ leaves tree) tree_is ∙ sym (append_assoc seen (range ∷ []) (leaves rest));
      passed = c.pass-passed-in-Taken.ensures seen c.leaves.invariant.passed;
      order = taken_order (λ order. order.entries.items) (λ order. order.begun) (λ order. order.links) c.leaves.tree (entries 0 c.args.tree) c.leaves.order c.begin-order.result
          c.take-order.result _ _ range rest tree_is c.leaves.invariant.order c.begin-order.ensures c.take-order.ensures;
    }

pub leaves-smaller : goal.leaves-smaller
leaves-smaller g c =
    let at = c.in-Lowered.ensures in
    let tree_is = c.in-Join.is ∙ (λ i. Join (record { ptr = c.in-Join.left.ptr; alloc = c.in-Join.left.alloc; value = at.6 i }) c.in-Join.right) in
    subst (λ tree. lefts c.in-Lowered.lowered < lefts tree) (sym tree_is)
    (subst (λ tree. lefts tree < lefts (Join (record { ptr = c.in-Join.left.ptr; alloc = c.in-Join.left.alloc; value = Join' at.2 at.0 at.3 at.1 }) c.in-Join.right)) (sym at.7) (lowered_lefts at.2 at.3 at.2 at.3 at.4 at.5 at.0 at.1 c.in-Join.right.value))

pub leaves-preserved : goal.leaves-preserved
leaves-preserved g c =
    let at = c.in-Lowered.ensures in
    let seen = c.leaves.invariant.seen in
    let rest = c.in-Join.right.value in
    let tree_is = c.in-Join.is ∙ (λ i. Join (record { ptr = c.in-Join.left.ptr; alloc = c.in-Join.left.alloc; value = at.6 i }) c.in-Join.right) in
    record {
      seen = seen;
      parts = c.leaves.invariant.parts ∙ ap (λ tree. seen ++ leaves tree) tree_is ∙ ap (λ l. seen ++ l) (append_assoc (leaves at.0) (leaves at.1) (leaves rest))
          ∙ ap (λ tree. seen ++ leaves tree) (sym at.7);
      passed = c.leaves.invariant.passed;
      order = subst (λ tree. IfSome c.lower-order.result (λ order. order.entries.items ++ entries_after order.begun order.links tree ≡ entries 0 c.args.tree)) (sym at.7)
          (lowered_order (λ order. order.entries.items) (λ order. order.begun) (λ order. order.links) c.leaves.tree (entries 0 c.args.tree) c.leaves.order c.begin-order.result
          c.lower-order.result _ _ at.2 at.3 at.4 at.5 at.0 at.1 rest tree_is c.leaves.invariant.order c.begin-order.ensures c.lower-order.ensures);
    }
