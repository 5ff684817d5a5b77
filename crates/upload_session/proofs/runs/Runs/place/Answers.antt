use Rattle.upload_session.proofs.Ranges.{chunks-joined}
use Rattle.upload_session.proofs.runs.Runs.place.Goals as goal

pub returns-clause-joined : goal.returns-clause-joined
returns-clause-joined g c =
    chunks-joined g.C.ChunkRange c.args.self.now c.place_range.new.self c.args.first c.args.chunks.now c.in_ok-made.made
    c.in_ok-made.ensures.stands c.in_ok-made.ensures.total c.in_ok-place_range.ensures.taken.0
