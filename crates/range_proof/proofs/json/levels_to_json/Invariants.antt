use Rattle.std.proofs.Common.{◌≡◌, map, take}
use Rattle.std.specs.Prelude.{All}
use Rattle.serde_json.specs.View.{view}
use Rattle.range_proof.specs.RangeProof.{AreHashes}
use Rattle.range_proof.specs.ProofJson.{sides_json}
use Rattle.range_proof.proofs.json.levels_to_json.Given as goal

abbrev pub invariant-levels : goal.invariant-levels
invariant-levels g l = record {
  values : map view l.values.items ≡ map sides_json (take l.level-index l.levels);
  left : All (λ sides. AreHashes sides.left) (take l.level-index l.levels);
  right : All (λ sides. AreHashes sides.right) (take l.level-index l.levels);
}
