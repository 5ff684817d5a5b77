use Rattle.std.proofs.Common.{rules, refl}
use Rattle.passthrough_map.proofs.Map.Entry.{IsPut-filled}
use Rattle.passthrough_map.proofs.passthrough_hashmap.entry.VacantEntry.insert.Goals as goal

pub returns : goal.returns
returns g c =
    let put = c.in_ok-insert.ensures in (
      (
        refl,
        λ value _. IsPut-filled g.met.Key.Eq.laws c.args.self.map.now c.insert.new.self c.args.self.key c.args.value value c.requires put.sets put.puts put.map,
        tt,
      ),
      record { written = tt; value = search rules },
    )
