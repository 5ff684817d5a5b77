use Rattle.std.proofs.Common.{arith, ◌≡◌, ◌<◌, length, get_or, subst, ◌∙◌}
use Rattle.std.specs.Prelude.{Some}
use Rattle.yurewha_c.proofs.HandleLists.{held_from, held_length, kept_on, taken_some}
use Rattle.yurewha_c.proofs.HandleMerging.{IsMergedUpTo, all_merged, can_join, if_none_merged, joined_up_to}
use Rattle.yurewha_c.proofs.subtree_merging.merge_held.Goals as goal

pub unwrap-subtree-requires : goal.unwrap-subtree-requires
unwrap-subtree-requires c =
    let within : c.merging.range-index < length c.merging.ranges = omega arith in
    let so_far = c.merging.invariant.merged in
    taken_some _ c.merging.ranges c.merging.range-index c.range-item.result so_far.0 c.take.result within c.take.ensures.value (c.merging.invariant.kept ∙ so_far.1)

pub join_next-joined-requires : goal.join_next-joined-requires
join_next-joined-requires c =
    let within : c.merging.range-index < length c.merging.ranges = omega arith in
    let so_far = c.merging.invariant.merged in
    let taken = rw c.unwrap-subtree.ensures at c.take.ensures.value in
    let some : (get_or c.merging.ranges c.merging.range-index c.range-item.result).value ≡ Some c.deref.result.now = cc taken in
    can_join so_far.0 c.merging.range-index c.merging.merged c.deref.result.now so_far.3 so_far.4
    (held_from c.merging.ranges c.merging.range-index c.range-item.result so_far.0 c.deref.result.now within some (c.merging.invariant.kept ∙ so_far.1))

pub merging-preserved : goal.merging-preserved
merging-preserved c =
    let within : c.merging.range-index < length c.merging.ranges = omega arith in
    let so_far = c.merging.invariant.merged in
    let holds = c.merging.invariant.kept ∙ so_far.1 in
    let taken = rw c.unwrap-subtree.ensures at c.take.ensures.value in
    let some : (get_or c.merging.ranges c.merging.range-index c.range-item.result).value ≡ Some c.deref.result.now = cc taken in
    record {
      merged = (
        so_far.0,
        so_far.1,
        so_far.2,
        so_far.3,
        joined_up_to so_far.0 c.merging.range-index c.merging.merged c.deref.result.now c.in_ok-joined.field-0 so_far.2
            (omega (arith, held_length c.merging.ranges so_far.0 holds)) so_far.4
            (held_from c.merging.ranges c.merging.range-index c.range-item.result so_far.0 c.deref.result.now within some holds) c.in_ok-joined.ensures.joined,
      );
      kept = kept_on c.merging.ranges c.merging.range-index c.put.new.self c.range-item.result _ (c.put.ensures ∙ taken) c.merging.invariant.kept;
    }

pub returns-in_err-joined-clause-kept : goal.returns-in_err-joined-clause-kept
returns-in_err-joined-clause-kept c =
    let taken = rw c.unwrap-subtree.ensures at c.take.ensures.value in
    kept_on c.merging.ranges c.merging.range-index c.put.new.self c.range-item.result _ (c.put.ensures ∙ taken) c.merging.invariant.kept

pub returns-in-Some-clause-merged : goal.returns-in-Some-clause-merged
returns-in-Some-clause-merged c =
    let so_far = c.merging.invariant.merged in (
      so_far.0,
      so_far.1,
      all_merged so_far.0 c.merging.range-index c.in-Some.merged
          (omega (arith, held_length c.merging.ranges so_far.0 (c.merging.invariant.kept ∙ so_far.1)))
          (subst (IsMergedUpTo so_far.0 c.merging.range-index) c.in-Some.is so_far.4),
    )

pub returns-in-None-clause-merged : goal.returns-in-None-clause-merged
returns-in-None-clause-merged c =
    let so_far = c.merging.invariant.merged in
    let none = subst (IsMergedUpTo so_far.0 c.merging.range-index) c.in-None.is so_far.4 in
    if_none_merged c.args.ranges.now so_far.0 c.from_chunks.result so_far.1
    (omega (arith, none, held_length c.merging.ranges so_far.0 (c.merging.invariant.kept ∙ so_far.1)))
    c.from_chunks.ensures.canonical c.from_chunks.ensures.start c.from_chunks.ensures.end c.from_chunks.ensures.size
