use Rattle.std.proofs.Common.{◌+◌, ◌∷◌, List, length, drop, refl, subst, sym, ap, ◌∙◌, arith}
use Rattle.std.proofs.lemmas.List.{drop_more, drop_all}
use Rattle.subtree_levels.specs.Subtree.{Subtree}
use Rattle.xet_merkle.specs.Steps.SubtreeMerging.{MergesTo}
use Rattle.xet_roots.proofs.Results.{passed_on}
use Rattle.chunk_ranges.proofs.Ranges.Adjacent.{for_memory}
use Rattle.xet_merkle.proofs.Merging.Ranges.{MergesTo-all, MergesTo-first, can_merge_first}
use Rattle.xet_merkle.proofs.merkle_hash_subtree.subtree.MerkleHashSubtree.merged_with.Goals as goal

pub others-init : goal.others-init
others-init g c = record { merges = MergesTo-all (c.args.self ∷ c.args.others.now) c.requires.marks; copy = λ first. refl }

pub others-preserved : goal.others-preserved
others-preserved g c =
    let ranges = c.args.self ∷ c.args.others.now in
    let other = c.other-item.result in
    let rest = drop (c.others.other-index + 1) c.args.others.now in
    let parts = drop_more c.args.others.now c.others.other-index other c.others-test.true ∙ ap (λ (range : Subtree). range ∷ rest) (sym c.other-item.is) in
    let so_far = subst (λ (left : List Subtree). MergesTo ranges (c.others.merged ∷ left)) parts c.others.invariant.merges in
    record {
      merges = MergesTo-first ranges rest c.others.merged other c.merge_into.new.self so_far c.in_ok-merge_into.ensures.merged;
      copy = λ first. absurd (omega (arith, first));
    }

pub returns-in_err-merge_into-clause-errors : goal.returns-in_err-merge_into-clause-errors
returns-in_err-merge_into-clause-errors g c =
    let ranges = c.args.self ∷ c.args.others.now in
    let other = c.other-item.result in
    let rest = drop (c.others.other-index + 1) c.args.others.now in
    let parts = drop_more c.args.others.now c.others.other-index other c.others-test.true ∙ ap (λ (range : Subtree). range ∷ rest) (sym c.other-item.is) in
    let so_far = subst (λ (left : List Subtree). MergesTo ranges (c.others.merged ∷ left)) parts c.others.invariant.merges in
    let can = can_merge_first ranges rest c.others.merged other so_far c.requires.fits in
    passed_on _ c.from_residual.result c.in_err-merge_into.field-0.0 c.from_residual.ensures.1
    (for_memory can.0 can.1 c.in_err-merge_into.field-0.0 c.in_err-merge_into.ensures.refusals)

pub returns-clause-merges : goal.returns-clause-merges
returns-clause-merges g c =
    subst (λ (left : List Subtree). MergesTo (c.args.self ∷ c.args.others.now) (c.others.merged ∷ left))
    (drop_all c.others.other-index c.args.others.now c.others-test.false) c.others.invariant.merges

pub returns-clause-copy : goal.returns-clause-copy
returns-clause-copy g c = λ none. c.others.invariant.copy (let few = ap length none in let last = c.others-test.false in omega arith)
