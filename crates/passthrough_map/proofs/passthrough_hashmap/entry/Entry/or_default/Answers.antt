use Rattle.std.proofs.Common.{◌≡◌, refl, ap, ◌∙◌}
use Rattle.std.specs.Prelude.{Some}
use Rattle.passthrough_map.specs.Entry.{entry_value}
use Rattle.passthrough_map.proofs.Map.Entry.{IsPut-there, UnwrapsOrElse-there}
use Rattle.passthrough_map.proofs.passthrough_hashmap.entry.Entry.or_default.Goals as goal

pub returns-in-Occupied : goal.returns-in-Occupied
returns-in-Occupied g c =
    let there : entry_value g.Key.PartialEq.eq c.args.self ≡ Some c.into_mut.result.now =
    ap (entry_value g.Key.PartialEq.eq) c.in-Occupied.is ∙ c.into_mut.ensures.value in (
      (refl, λ value _. IsPut-there g.met.Key.Eq.laws c.args.self c.in-Occupied.place c.in-Occupied.is c.requires value, tt),
      record { written = tt; value = UnwrapsOrElse-there _ _ _ there; absent = tt },
    )
