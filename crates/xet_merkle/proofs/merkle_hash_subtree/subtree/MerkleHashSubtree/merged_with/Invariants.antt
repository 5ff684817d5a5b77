use Rattle.std.proofs.Common.{◌≡◌, ◌∷◌, drop}
use Rattle.xet_merkle.specs.Steps.SubtreeMerging.{MergesTo}
use Rattle.xet_merkle.proofs.merkle_hash_subtree.subtree.MerkleHashSubtree.merged_with.Given as goal

abbrev pub invariant-others : goal.invariant-others
invariant-others g l = record {
  merges : MergesTo (l.fn.self ∷ l.fn.others) (l.merged ∷ drop l.other-index l.others);
  copy : l.other-index ≡ 0 → l.merged ≡ l.fn.self;
}
