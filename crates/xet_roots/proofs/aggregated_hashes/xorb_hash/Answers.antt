use Rattle.std.proofs.Common.{arith, rules}
use Rattle.xet_roots.specs.Roots.{parent, parent_hash}
use Rattle.xet_roots.proofs.Roots.Making.{total_size-are_parents, AreParents-some, IsRoot-from_parents, IsRoot-none, IsRoot-one}
use Rattle.xet_roots.proofs.aggregated_hashes.xorb_hash.Goals as goal

pub root-requires-clause-fits : goal.root-requires-clause-fits
root-requires-clause-fits g c = rw (total_size-are_parents parent_hash _ _ c.in_ok-parents-in_default.ensures.parents) (search rules)

pub root-requires-clause-some : goal.root-requires-clause-some
root-requires-clause-some g c = AreParents-some parent _ _ c.in_ok-parents-in_default.ensures.parents (omega arith)

pub returns-in-empty-clause-root : goal.returns-in-empty-clause-root
returns-in-empty-clause-root g c = IsRoot-none _ _ c.in-empty.len_below c.default.ensures

pub returns-in-len1-clause-root : goal.returns-in-len1-clause-root
returns-in-len1-clause-root g c = IsRoot-one c.args.chunks.now c.index-chunks-0.result (omega arith)

pub returns-in_ok-parents-in_default-clause-root : goal.returns-in_ok-parents-in_default-clause-root
returns-in_ok-parents-in_default-clause-root g c =
    IsRoot-from_parents _ _ _ c.in_ok-parents-in_default.ensures.parents (omega arith) c.root.ensures
