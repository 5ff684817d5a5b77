use Rattle.std.proofs.Common.{subst, refl}
use Rattle.std.proofs.lemmas.Bool.{false≢true}
use Rattle.range_proof.specs.Steps.Opening.{HasTop}
use Rattle.range_proof.proofs.Opening.{Shows-from_top}
use Rattle.range_proof.proofs.proof.RangeProof.shows.Goals as goal

pub returns-in_default : goal.returns-in_default
returns-in_default g c = (
  λ e. absurd (false≢true e),
  λ shows. absurd ((subst (HasTop c.args.self.now) c.in_default.is c.in_ok-root.ensures) shows.root shows.top),
)

pub returns : goal.returns
returns g c =
    Shows-from_top c.args.self.now c.in-Some.root c.file_hash_of_root-shown.result c.args.file_hash.now c.args.salt.now c.is_found.result
    (subst (HasTop c.args.self.now) c.in-Some.is c.in_ok-root.ensures) (c.file_hash_of_root-shown.ensures.some refl) c.is_found.ensures
