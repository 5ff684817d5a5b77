use Rattle.std.proofs.Common.{refl, sym}
use Rattle.session_json.proofs.Following.{end_placed}
use Rattle.session_json.proofs.reading.end_before.Goals as goal

pub returns-in-Some : goal.returns-in-Some
returns-in-Some c =
    let end = end_placed c.args.runs.now c.args.position _ (sym c.in-Some.ensures.value) in
    (λ t. end.0 (c.is_before.ensures.0 t), λ before. c.is_before.ensures.1 (end.1 before))

pub returns-in-None : goal.returns-in-None
returns-in-None c =
    let end = end_placed c.args.runs.now c.args.position _ (sym c.in-None.ensures.value) in
    (λ _. end.0 tt, λ _. refl)
