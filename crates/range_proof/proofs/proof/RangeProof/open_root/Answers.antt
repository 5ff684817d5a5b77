use Rattle.range_proof.specs.RangeProof.{Proof, ShowsRoot}
use Rattle.range_proof.proofs.Opening.{opened_shows, mismatch_hides}
use Rattle.range_proof.proofs.proof.RangeProof.open_root.Goals as goal

pub returns-clause-shows : goal.returns-clause-shows
returns-clause-shows g c =
    opened_shows c.args.self (λ (proof : Proof). ShowsRoot proof c.args.root.now) c.opened.result c.shows_root-shown.result c.opened.ensures.same
    c.opened.ensures.shown c.shows_root-shown.ensures

pub returns-clause-mismatch : goal.returns-clause-mismatch
returns-clause-mismatch g c = mismatch_hides (ShowsRoot c.args.self c.args.root.now) _ c.opened.result c.shows_root-shown.result c.opened.ensures.mismatch c.shows_root-shown.ensures
