use Rattle.std.proofs.Common.{subst}
use Rattle.std.proofs.lemmas.Bool.{false≢true}
use Rattle.range_proof.specs.Steps.Opening.{HasTop}
use Rattle.range_proof.proofs.Opening.{ShowsRoot-from_top}
use Rattle.range_proof.proofs.proof.RangeProof.shows_root.Goals as goal

pub returns-in_default : goal.returns-in_default
returns-in_default g c = (
  λ e. absurd (false≢true e),
  λ shows. absurd ((subst (HasTop c.args.self.now) c.in_default.is c.in_ok-top.ensures) c.args.root.now shows.top),
)

pub returns : goal.returns
returns g c =
    ShowsRoot-from_top c.args.self.now c.in-Some.top c.args.root.now c.is_found.result
    (subst (HasTop c.args.self.now) c.in-Some.is c.in_ok-top.ensures) c.is_found.ensures
