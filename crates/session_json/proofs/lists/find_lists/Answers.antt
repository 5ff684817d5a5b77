use Rattle.std.proofs.Common.{sym}
use Rattle.level_nodes.proofs.Json.{array-of}
use Rattle.session_json.proofs.lists.find_lists.Goals as goal

pub returns-clause-some : goal.returns-clause-some
returns-clause-some c = record {
  runs_are = array-of _ _ (sym c.in_ok-runs.ensures);
  hashes_are = array-of _ _ (sym c.in_ok-hashes.ensures);
}
