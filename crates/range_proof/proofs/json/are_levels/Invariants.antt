use Rattle.std.proofs.Common.{List, take}
use Rattle.std.specs.Prelude.{All}
use Rattle.serde_json.specs.Data.{Data}
use Rattle.serde_json.specs.View.{view}
use Rattle.range_proof.specs.ProofJson.{HasSides}
use Rattle.range_proof.proofs.json.are_levels.Given as goal

abbrev pub invariant-levels : goal.invariant-levels
invariant-levels l =
    All (λ value. (left : List Data) × (right : List Data) × HasSides (view value) left right) (take l.value-index l.values)
