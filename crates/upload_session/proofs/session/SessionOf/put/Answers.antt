use Rattle.std.proofs.Common.{arith, ◌≡◌, sym, subst, ap, ◌∙◌}
use Rattle.std.proofs.lemmas.List.{nil_from_length}
use Rattle.xet_roots.specs.Roots.{total_size}
use Rattle.upload_session.specs.Session.{place, StandFor}
use Rattle.upload_session.proofs.Placing.{place-none, place-size}
use Rattle.upload_session.proofs.Positions.{stand-rises}
use Rattle.upload_session.proofs.session.SessionOf.put.Goals as goal

pub returns-then-count-eq0-clause-placed : goal.returns-then-count-eq0-clause-placed
returns-then-count-eq0-clause-placed g c = λ placed stand.
    let same : place placed c.args.first c.args.chunks.now ≡ placed =
    ap (place placed c.args.first) (nil_from_length c.args.chunks.now c.if-count-eq0.true)
    ∙ place-none placed c.args.first (stand-rises g.C.ChunkRange c.args.self.now.runs placed stand) in
    subst (λ all. StandFor g.C.ChunkRange c.args.self.now.runs all) (sym same) stand

pub returns-then-count-eq0-clause-placed_size : goal.returns-then-count-eq0-clause-placed_size
returns-then-count-eq0-clause-placed_size g c = λ placed stand sized.
    omega (
      arith,
      sized,
      place-size placed c.args.first c.args.chunks.now,
      ap total_size (nil_from_length c.args.chunks.now c.if-count-eq0.true),
    )
