use Rattle.std.proofs.Common.{sym, ◌∙◌}
use Rattle.session_json.proofs.JsonValues.{breaks_rule_1, breaks_rule_2}
use Rattle.session_json.proofs.lists.read_lists.Goals as goal

pub returns-then-not-is_object-clause-broken : goal.returns-then-not-is_object-clause-broken
returns-then-not-is_object-clause-broken c = breaks_rule_1 _ (sym c.is_object.ensures ∙ c.if-not-is_object.true)

pub returns-in_default-clause-broken : goal.returns-in_default-clause-broken
returns-in_default-clause-broken c = breaks_rule_2 _ (sym c.is_object.ensures ∙ c.if-not-is_object.false) c.in_default.ensures.none
