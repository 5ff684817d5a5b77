use Rattle.std.proofs.Common.{inr, refl}
use Rattle.level_nodes.specs.NodeJson.{ReadsNode}
use Rattle.level_nodes.proofs.Json.{read_next, read_each}
use Rattle.level_nodes.proofs.node_json.read_nodes.Goals as goal

pub returns-in_default-clause-refused : goal.returns-in_default-clause-refused
returns-in_default-clause-refused g c = inr (
  refl,
  λ all h.
      let found = read_each ReadsNode c.args.values.now c.nodes.value-index c.value-item.result all c.nodes-test.true c.value-item.is h in
      c.in_default.ensures.none found.0 found.1,
)

pub nodes-preserved : goal.nodes-preserved
nodes-preserved g c =
    read_next ReadsNode c.args.values.now c.nodes.value-index c.value-item.result _ _ c.in-Some.node c.nodes-test.true c.value-item.is c.nodes.invariant
    c.in-Some.ensures.some c.in_ok-push.ensures.items
