use Rattle.std.proofs.Common.{◌≡◌, ◌<◌, ◌≤◌, length, get_or, sym, ap, ◌∙◌, rules}
use Rattle.level_nodes.specs.Level.{Level}
use Rattle.level_nodes.proofs.Reading.{left_at-some, left_at-none}
use Rattle.level_nodes.proofs.levels.left_at.Goals as goal

pub returns-in-Some : goal.returns-in-Some
returns-in-Some g c =
    let levels = c.args.levels.now in
    let level = c.in-Some.level.now in
    let within : c.args.level < length levels = search rules in
    let here : level ≡ get_or levels c.args.level level = search rules in
    c.left.ensures ∙ ap (λ (l : Level). l.left) here ∙ left_at-some levels c.args.level level within

pub returns-in-None : goal.returns-in-None
returns-in-None g c =
    let beyond : length c.args.levels.now ≤ c.args.level = search rules in
    sym (left_at-none c.args.levels.now c.args.level beyond)
