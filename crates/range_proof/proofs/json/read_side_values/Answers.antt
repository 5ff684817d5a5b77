use Rattle.std.proofs.Common.{sym}
use Rattle.level_nodes.proofs.Json.{array-of}
use Rattle.range_proof.proofs.json.read_side_values.Goals as goal

pub returns-clause-some : goal.returns-clause-some
returns-clause-some c = record {
  left_is = array-of _ _ (sym c.in_ok-left.ensures);
  right_is = array-of _ _ (sym c.in_ok-right.ensures);
}
