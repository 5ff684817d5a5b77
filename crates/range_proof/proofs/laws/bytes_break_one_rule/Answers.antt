use Rattle.range_proof.proofs.BytesRules.{one_rule}
use Rattle.range_proof.proofs.laws.bytes_break_one_rule.Goals as goal

pub returns : goal.returns
returns c = one_rule
