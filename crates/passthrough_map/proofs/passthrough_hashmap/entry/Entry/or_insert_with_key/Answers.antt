use Rattle.std.proofs.Common.{◌≡◌, refl, sym, subst, ap, ◌∙◌, rules}
use Rattle.std.specs.Prelude.{Some, OnErr}
use Rattle.std.specs.Fn.{FnOnceReturnsAt}
use Rattle.passthrough_map.specs.FiniteMap.{IsPut}
use Rattle.passthrough_map.specs.Entry.{entry_key, entry_map, entry_value}
use Rattle.passthrough_map.proofs.Map.Entry.{IsPut-there, UnwrapsOrElse-made, UnwrapsOrElse-there}
use Rattle.passthrough_map.proofs.passthrough_hashmap.entry.Entry.or_insert_with_key.Goals as goal

pub returns-in-Occupied : goal.returns-in-Occupied
returns-in-Occupied g c =
    let there : entry_value g.Key.PartialEq.eq c.args.self ≡ Some c.into_mut.result.now =
    ap (entry_value g.Key.PartialEq.eq) c.in-Occupied.is ∙ c.into_mut.ensures.value in (
      (refl, λ value _. IsPut-there g.met.Key.Eq.laws c.args.self c.in-Occupied.place c.in-Occupied.is c.requires.live value, tt),
      record { written = tt; value = UnwrapsOrElse-there _ _ _ there; absent = tt },
    )

pub returns-in-Vacant : goal.returns-in-Vacant
returns-in-Vacant g c =
    let eq = g.Key.PartialEq.eq in
    let is = sym c.in-Vacant.is in
    let made : FnOnceReturnsAt g.F.FnOnce c.args.default (entry_key c.args.self) c.default-value.result =
    (c.key.result, c.default-value.ensures, c.key.ensures ∙ ap entry_key is) in (
      (
        refl,
        λ w ok. subst (λ p. IsPut eq (entry_map p).now (entry_key p) w (c.insert.follows.lender w)) is (c.insert.follows.holds w ok),
        subst (λ p. OnErr c.insert.result (c.insert.follows.lender-at-none ≡ (entry_map p).now)) is c.insert.follows.holds-at-none,
      ),
      record {
        written = tt;
        value = UnwrapsOrElse-made g.met.Key.Eq.laws c.args.self c.in-Vacant.place c.in-Vacant.is c.requires.live _ c.insert.result c.default-value.result made c.insert.ensures.value;
        absent = search rules;
      },
    )
