use Rattle.std.proofs.Common.{sym, ◌∙◌}
use Rattle.level_nodes.proofs.Json.{array-of}
use Rattle.xet_merkle.proofs.Json.Reading.{boolean-of}
use Rattle.xet_merkle.proofs.merkle_hash_subtree.json_parts.read_members.Goals as goal

pub returns-clause-some : goal.returns-clause-some
returns-clause-some c = record {
  start_is = boolean-of _ _ (sym c.truth_member.ensures ∙ c.in_ok-at_start.was);
  end_is = boolean-of _ _ (sym c.truth_member-2.ensures ∙ c.in_ok-at_end.was);
  levels_are = array-of _ _ (sym c.in_ok-levels.ensures);
  nodes_are = array-of _ _ (sym c.in_ok-nodes.ensures);
}
