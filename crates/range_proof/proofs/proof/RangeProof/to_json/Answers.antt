use Rattle.std.proofs.Common.{List, map, sym, ap, subst, ◌∙◌}
use Rattle.std.specs.Prelude.{All}
use Rattle.serde_json.specs.Data.{Data, array}
use Rattle.serde_json.specs.View.{view, items_of}
use Rattle.level_nodes.specs.Level.{Level}
use Rattle.range_proof.specs.RangeProof.{AreHashes}
use Rattle.level_nodes.specs.NodeJson.{nodes_json}
use Rattle.range_proof.specs.ProofJson.{Reads, sides_json, proof_object}
use Rattle.range_proof.proofs.JsonOf.{Reads-object}
use Rattle.range_proof.proofs.proof.RangeProof.to_json.Goals as goal

pub returns-clause-json : goal.returns-clause-json
returns-clause-json g c =
    let chunks = c.in_ok-chunks.ensures.json ∙ ap nodes_json c.chunks.ensures.nodes in
    let levels = c.in_ok-levels.ensures.json ∙ ap (λ (l : List Level). array (items_of (map sides_json l))) c.levels.ensures.levels in
    ◌∙◌ {b = proof_object (view c.in_ok-chunks.chunks) (view c.in_ok-levels.levels)} c.in_ok-object_of.ensures (λ i. proof_object (chunks i) (levels i))

pub returns-clause-says : goal.returns-clause-says
returns-clause-says g c =
    let proof = c.args.self.now in
    subst (λ (value : Data). Reads value proof) (sym (returns-clause-json g c))
    (Reads-object c.hex_text_tells_hashes_apart.ensures c.hex_text_is_lowercase_digits.ensures.digits c.hex_text_is_lowercase_digits.ensures.lowercase
    proof
    (record {
      chunks = subst AreHashes c.chunks.ensures.nodes c.in_ok-chunks.ensures.hashes;
      left = subst (λ (levels : List Level). All (λ s. AreHashes s.left) levels) c.levels.ensures.levels c.in_ok-levels.ensures.left;
      right = subst (λ (levels : List Level). All (λ s. AreHashes s.right) levels) c.levels.ensures.levels c.in_ok-levels.ensures.right;
    })
    c.chunks.ensures.well_formed)
