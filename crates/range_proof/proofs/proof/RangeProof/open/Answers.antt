use Rattle.range_proof.specs.RangeProof.{Proof, Shows}
use Rattle.range_proof.proofs.Opening.{opened_shows, mismatch_hides}
use Rattle.range_proof.proofs.proof.RangeProof.open.Goals as goal

pub returns-clause-shows : goal.returns-clause-shows
returns-clause-shows g c =
    opened_shows c.args.self (λ (proof : Proof). Shows proof c.args.file_hash.now c.args.salt.now) c.opened.result c.shows-shown.result c.opened.ensures.same
    c.opened.ensures.shown c.shows-shown.ensures

pub returns-clause-mismatch : goal.returns-clause-mismatch
returns-clause-mismatch g c = mismatch_hides (Shows c.args.self c.args.file_hash.now c.args.salt.now) _ c.opened.result c.shows-shown.result c.opened.ensures.mismatch c.shows-shown.ensures
