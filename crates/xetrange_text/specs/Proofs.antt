-- Lines of range proofs.
use Rattle.std.specs.Prelude.{◌≡◌, ℕ, Option, Some, None, List, [], ◌∷◌, ◌++◌}
use Rattle.serde_json.specs.Data.{Data}
use Rattle.serde_json.specs.Written.{compact_text}
use Rattle.json_text.specs.JsonText.{IsJsonText}
use Rattle.line_io.specs.Lines.{newline}
use Rattle.range_proof.specs.RangeProof.{Proof}
use Rattle.range_proof.specs.ProofJson.{proof_json, BreaksRule, Reads}

-- some bytes are the JSON text of a range proof
abbrev pub SaysProof : List ℕ → Proof → Type 0
SaysProof text proof = (json : Data) × IsJsonText text json × Reads json proof

-- they aren't: their value breaks a rule, and this is the lowest; or they aren't JSON text
abbrev pub SaysNoProof : List ℕ → Option ℕ → Type 0
SaysNoProof text (Some rule) = (json : Data) × IsJsonText text json × BreaksRule json rule
SaysNoProof text None = (json : Data) → ¬ (IsJsonText text json)

-- the line of a range proof: its compact JSON text, which describes it, and a newline
pub record IsProofLine (line : List ℕ) (proof : Proof) : Type 0 where
  pub text : line ≡ compact_text (proof_json proof) ++ newline ∷ []
  pub says : SaysProof (compact_text (proof_json proof)) proof
