use Rattle.std.proofs.Common.{◌≡◌, rules}
use Rattle.xet_roots.proofs.Results.{passed_on}
use Rattle.xet_roots.specs.declared.error.CoreError.TheVariants.{OutOfMemory}
use Rattle.chunk_ranges.proofs.Ranges.Adjacent.{accepted, memory_alone}
use Rattle.xet_merkle.proofs.Merging.Ranges.{refused_subtrees, allowed_subtrees, MergesTo-copied, MergesTo-one, MergesTo-end}
use Rattle.xet_merkle.proofs.merkle_hash_subtree.subtree.MerkleHashSubtree.merge.Goals as goal

pub returns-in-Some-clause-refusals : goal.returns-in-Some-clause-refusals
returns-in-Some-clause-refusals g c =
    refused_subtrees c.args.ranges.now c.refusal.result c.in-Some.error c.refusal.ensures c.in-Some.is

pub returns-in_ok-merged_with-in-len1-up-clause-refusals : goal.returns-in_ok-merged_with-in-len1-up-clause-refusals
returns-in_ok-merged_with-in-len1-up-clause-refusals g c =
    let allowed = allowed_subtrees c.args.ranges.now c.refusal.result c.refusal.ensures c.in_default.is in
    accepted allowed.0 allowed.1 _

pub returns-in_err-copy-in-len1-up-clause-refusals : goal.returns-in_err-copy-in-len1-up-clause-refusals
returns-in_err-copy-in-len1-up-clause-refusals g c =
    let allowed = allowed_subtrees c.args.ranges.now c.refusal.result c.refusal.ensures c.in_default.is in
    memory_alone allowed.0 allowed.1 c.from_residual.result (search rules)

pub returns-in_err-merged_with-in-len1-up-clause-refusals : goal.returns-in_err-merged_with-in-len1-up-clause-refusals
returns-in_err-merged_with-in-len1-up-clause-refusals g c =
    let allowed = allowed_subtrees c.args.ranges.now c.refusal.result c.refusal.ensures c.in_default.is in
    memory_alone allowed.0 allowed.1 c.from_residual-in_err-merged_with-in-len1-up.result
    (passed_on (λ e. e ≡ OutOfMemory) c.from_residual-in_err-merged_with-in-len1-up.result c.in_err-merged_with-in-len1-up.field-0.0
    c.from_residual-in_err-merged_with-in-len1-up.ensures.1 c.in_err-merged_with-in-len1-up.ensures.errors)

pub returns-in_ok-merged_with-in-len1-up-clause-canonical : goal.returns-in_ok-merged_with-in-len1-up-clause-canonical
returns-in_ok-merged_with-in-len1-up-clause-canonical g c =
    let ranges = c.args.ranges.now in
    let merged = c.in_ok-merged_with-in-len1-up.field-0 in
    MergesTo-one ranges merged
    (MergesTo-copied ranges c.first-item.result c.in_ok-copy-in-len1-up.field-0 merged c.in-len1-up.len_at_least c.first-item.is c.in_ok-copy-in-len1-up.ensures
    c.in_ok-merged_with-in-len1-up.ensures.merges)

pub returns-in_ok-merged_with-in-len1-up-clause-end : goal.returns-in_ok-merged_with-in-len1-up-clause-end
returns-in_ok-merged_with-in-len1-up-clause-end g c =
    let ranges = c.args.ranges.now in
    let merged = c.in_ok-merged_with-in-len1-up.field-0 in
    MergesTo-end ranges merged
    (MergesTo-copied ranges c.first-item.result c.in_ok-copy-in-len1-up.field-0 merged c.in-len1-up.len_at_least c.first-item.is c.in_ok-copy-in-len1-up.ensures
    c.in_ok-merged_with-in-len1-up.ensures.merges)
