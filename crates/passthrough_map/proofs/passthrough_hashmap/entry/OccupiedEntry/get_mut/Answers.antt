use Rattle.std.proofs.Common.{refl, ap, rules}
use Rattle.std.specs.Prelude.{is_some}
use Rattle.passthrough_map.proofs.Map.Entry.{value_at-written}
use Rattle.passthrough_map.proofs.passthrough_hashmap.entry.OccupiedEntry.get_mut.Goals as goal

pub returns : goal.returns
returns g c = (
  (refl, λ w. refl),
  record {
    written = tt;
    value = search rules;
    live = λ value.
        ap is_some (value_at-written g.met.Key.Eq.laws c.args.self.now.map.now c.args.self.now.key value c.requires);
  },
)
