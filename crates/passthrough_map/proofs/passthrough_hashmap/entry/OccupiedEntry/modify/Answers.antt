use Rattle.std.proofs.Common.{◌≡◌, refl, sym, ap, ◌∙◌}
use Rattle.std.specs.Prelude.{is_some, Some}
use Rattle.std.specs.Option.{option_copied_mut}
use Rattle.std.specs.Map.Calls.{MayWrite, ModifiesValue}
use Rattle.passthrough_map.specs.FiniteMap.{value_at}
use Rattle.passthrough_map.proofs.Map.Entry.{at_both, value_at-written, set_value_twice}
use Rattle.passthrough_map.proofs.passthrough_hashmap.entry.OccupiedEntry.modify.Goals as goal

pub returns-clause-live : goal.returns-clause-live
returns-clause-live g c =
    ap is_some (value_at-written g.met.Key.Eq.laws c.args.self.now.map.now c.args.self.now.key c.f.new.arg2 c.requires.live)

pub returns-clause-value : goal.returns-clause-value
returns-clause-value g c =
    let old : value_at g.Key.PartialEq.eq c.args.self.now.map.now c.args.self.now.key ≡ Some c.unwrap.result.now =
    sym c.get_mut.ensures.value ∙ ap option_copied_mut c.unwrap.ensures in
    let new = value_at-written g.met.Key.Eq.laws c.args.self.now.map.now c.args.self.now.key c.f.new.arg2 c.requires.live in
    let did : MayWrite g.F.FnOnce c.args.f c.unwrap.result.now c.f.new.arg2
    = record { lent = c.unwrap.result; result = c.f.result; left = _; before = refl; met = c.f.ensures; after = refl } in
    at_both (ModifiesValue g.F.FnOnce c.args.f) old new did

pub returns-clause-others : goal.returns-clause-others
returns-clause-others g c = λ value. set_value_twice (g.Key.PartialEq.eq c.args.self.now.key) c.args.self.now.map.now c.f.new.arg2 value
