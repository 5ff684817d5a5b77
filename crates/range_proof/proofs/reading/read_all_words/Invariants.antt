use Rattle.std.proofs.Common.{take}
use Rattle.std.specs.Prelude.{All}
use Rattle.range_proof.specs.RangeProof.{AreHashes}
use Rattle.range_proof.proofs.reading.read_all_words.Given as goal

abbrev pub invariant-levels : goal.invariant-levels
invariant-levels g l = record {
  left : All (λ sides. AreHashes sides.left) (take l.level-index l.levels);
  right : All (λ sides. AreHashes sides.right) (take l.level-index l.levels);
}
