use Rattle.passthrough_map.proofs.Map.Entry.{Sets-set_value, value_at-written}
use Rattle.passthrough_map.proofs.laws.written_value_is_found.Goals as goal

pub returns-clause-found : goal.returns-clause-found
returns-clause-found g c = value_at-written g.met.Key.Eq.laws

pub returns-clause-sets : goal.returns-clause-sets
returns-clause-sets g c = Sets-set_value g.met.Key.Eq.laws
