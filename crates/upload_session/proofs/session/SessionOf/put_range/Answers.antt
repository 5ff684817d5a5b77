use Rattle.std.proofs.Common.{arith, ◌≡◌, ◌+◌, ap, ◌∙◌}
use Rattle.std.proofs.lemmas.Grind.{common_steps}
use Rattle.xet_roots.specs.Roots.{total_size}
use Rattle.upload_session.proofs.Sizes.{placed-more}
use Rattle.upload_session.proofs.session.SessionOf.put_range.Goals as goal

pub returns-in-Ok-clause-placed_size : goal.returns-in-Ok-clause-placed_size
returns-in-Ok-clause-placed_size g c = λ chunks long stands placed stand sized.
    let size = ap (λ session. session.size) c.self.view_is in
    let total : c.total_size.result ≡ total_size chunks = c.total_size.ensures.chunks chunks stands in
    let sum : c.in_ok-size.size ≡ c.self.inside.size + c.total_size.result = grind (arith, common_steps) in
    let all : c.in_ok-size.size ≡ c.args.self.now.size + total_size chunks = omega (arith, sum, total, size) in
    all ∙ placed-more c.args.self.now.size placed c.args.first chunks sized
