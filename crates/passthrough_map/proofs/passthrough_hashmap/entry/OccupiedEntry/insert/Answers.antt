use Rattle.std.proofs.Common.{ap}
use Rattle.std.specs.Prelude.{is_some}
use Rattle.passthrough_map.proofs.Map.Entry.{value_at-written}
use Rattle.passthrough_map.proofs.passthrough_hashmap.entry.OccupiedEntry.insert.Goals as goal

pub returns-clause-live : goal.returns-clause-live
returns-clause-live g c =
    ap is_some (value_at-written g.met.Key.Eq.laws c.args.self.now.map.now c.args.self.now.key c.replace.new.dest c.requires)
