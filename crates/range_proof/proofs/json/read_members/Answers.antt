use Rattle.std.proofs.Common.{sym}
use Rattle.level_nodes.proofs.Json.{array-of}
use Rattle.range_proof.proofs.json.read_members.Goals as goal

pub returns-clause-some : goal.returns-clause-some
returns-clause-some c = record {
  chunks_are = array-of _ _ (sym c.in_ok-chunks.ensures);
  levels_are = array-of _ _ (sym c.in_ok-levels.ensures);
}
