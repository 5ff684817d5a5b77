use Rattle.std.proofs.Common.{[], ◌∷◌, inr, refl, ap, ◌∙◌}
use Rattle.std.proofs.lemmas.List.{map-append}
use Rattle.xet_roots.specs.Groups.{Node}
use Rattle.upload_session.specs.Hashes.{hashes_of}
use Rattle.level_nodes.proofs.Json.{read_next, read_each}
use Rattle.session_json.specs.Reading.{ReadsHash}
use Rattle.session_json.proofs.lists.read_hashes.Goals as goal

pub returns-in_default-clause-refused : goal.returns-in_default-clause-refused
returns-in_default-clause-refused c = inr (
  refl,
  λ all h.
      let found = read_each ReadsHash c.args.values.now c.hashes.value-index c.value-item.result all c.hashes-test.true c.value-item.is h in
      c.in_default.ensures.none found.0 found.1,
)

pub hashes-preserved : goal.hashes-preserved
hashes-preserved c =
    read_next ReadsHash c.args.values.now c.hashes.value-index c.value-item.result _ _ c.in-Some.hash c.hashes-test.true c.value-item.is c.hashes.invariant
    c.in-Some.ensures.some (ap hashes_of c.in_ok-push.ensures.items ∙ map-append (λ (chunk : Node). chunk.0) c.hashes.nodes.items ((c.in-Some.hash, 0) ∷ []))
