use Rattle.std.proofs.Common.{subst}
use Rattle.range_proof.specs.RangeProof.{AreHashes}
use Rattle.range_proof.proofs.reading.read_side_words.Goals as goal

pub returns : goal.returns
returns g c = record {
  left = subst AreHashes c.left.ensures c.read_words.ensures;
  right = subst AreHashes c.right.ensures c.read_words-2.ensures;
}
