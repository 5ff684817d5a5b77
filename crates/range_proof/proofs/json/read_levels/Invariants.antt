use Rattle.std.proofs.Common.{map, take}
use Rattle.std.specs.List.{AllZip}
use Rattle.serde_json.specs.View.{view}
use Rattle.range_proof.specs.ProofJson.{ReadsSides}
use Rattle.range_proof.proofs.json.read_levels.Given as goal

abbrev pub invariant-levels : goal.invariant-levels
invariant-levels g l = AllZip ReadsSides (map view (take l.value-index l.values)) l.levels.items
