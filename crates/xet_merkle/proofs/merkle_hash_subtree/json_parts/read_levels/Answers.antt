use Rattle.std.proofs.Common.{inr, refl}
use Rattle.xet_merkle.specs.JsonParts.{ReadsCounts}
use Rattle.level_nodes.proofs.Json.{read_next, read_each}
use Rattle.xet_merkle.proofs.merkle_hash_subtree.json_parts.read_levels.Goals as goal

pub returns-in_default-clause-refused : goal.returns-in_default-clause-refused
returns-in_default-clause-refused g c = inr (
  refl,
  λ all h.
      let found = read_each ReadsCounts c.args.values.now c.levels.value-index c.value-item.result all c.levels-test.true c.value-item.is h in
      c.in_default.ensures.none found.0 found.1,
)

pub levels-preserved : goal.levels-preserved
levels-preserved g c =
    read_next ReadsCounts c.args.values.now c.levels.value-index c.value-item.result _ _ c.in-Some.count c.levels-test.true c.value-item.is c.levels.invariant
    c.in-Some.ensures.some c.in_ok-push.ensures.items
