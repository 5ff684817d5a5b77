use Rattle.std.proofs.Common.{ap, sym, ◌∙◌}
use Rattle.std.specs.Prelude.{Option, Some, None, IfSome, IsSome, is_some, nat_eq}
use Rattle.std.specs.Option.{option_copied_mut}
use Rattle.xet_hash.specs.FiniteMap.{value_at}
use Rattle.hash_tests.proofs.passthrough_hashmap.write_one.Goals as goal

-- a fact that doesn't speak of the value
IfSome-always : {V P : Type 0} (found : Option V) → P → IfSome found (λ (_ : V). P)
IfSome-always None holds = tt
IfSome-always (Some value) holds = holds

pub returns-in-Some : goal.returns-in-Some
returns-in-Some c =
    let key = c.args.key in
    let there : IsSome (value_at nat_eq c.args.map.now key) = ap is_some (sym c.get_mut.ensures.value ∙ ap option_copied_mut c.in-Some.is) in
    IfSome-always (value_at nat_eq c.args.map.now key) (c.written_value_is_found.ensures.found c.args.map.now key 1 there)
