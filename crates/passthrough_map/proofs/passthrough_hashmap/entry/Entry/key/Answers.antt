use Rattle.std.proofs.Common.{sym, ◌∙◌}
use Rattle.passthrough_map.proofs.Map.Entry.{vacant-key}
use Rattle.passthrough_map.proofs.passthrough_hashmap.entry.Entry.key.Goals as goal

pub returns-in-Vacant : goal.returns-in-Vacant
returns-in-Vacant g c = c.key-in-Vacant.ensures ∙ sym (vacant-key g.met.Key.Eq.laws c.args.self.now c.in-Vacant.place c.in-Vacant.is c.requires)
