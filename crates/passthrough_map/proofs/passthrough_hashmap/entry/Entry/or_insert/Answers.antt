use Rattle.std.proofs.Common.{refl, rules}
use Rattle.passthrough_map.proofs.Map.Entry.{IsPut-there}
use Rattle.passthrough_map.proofs.passthrough_hashmap.entry.Entry.or_insert.Goals as goal

pub returns-in-Occupied : goal.returns-in-Occupied
returns-in-Occupied g c = (
  (refl, λ value _. IsPut-there g.met.Key.Eq.laws c.args.self c.in-Occupied.occupied c.in-Occupied.is c.requires value, tt),
  record { written = tt; value = search rules; absent = tt },
)
