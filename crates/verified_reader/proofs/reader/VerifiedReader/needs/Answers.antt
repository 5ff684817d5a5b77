use Rattle.std.proofs.Common.{arith, ◌≡◌, ℕ, max, min, subst, ◌∙◌}
use Rattle.verified_reader.specs.Kept.{AllKept, IsFirstMissing}
use Rattle.verified_reader.specs.Reader.{Reader, within_file}
use Rattle.verified_reader.proofs.InOrder.{at_none}
use Rattle.verified_reader.proofs.Reading.{least_is, most_is}
use Rattle.verified_reader.proofs.reader.VerifiedReader.needs.Goals as goal

pub returns-clause-some : goal.returns-clause-some
returns-clause-some g c =
    subst (λ (r : Reader). IsFirstMissing r.kept c.args.from (within_file c.args.self.now.size c.args.to) c.in_ok-first.first) c.self.view_is
    (subst (λ (t : ℕ). IsFirstMissing c.self.inside.chunks c.args.from t c.in_ok-first.first) c.within_file-last.ensures c.in_ok-first.ensures.missing)

pub returns-clause-end : goal.returns-clause-end
returns-clause-end g c =
    let most : c.max.result ≡ max 1 c.args.piece = c.max.ensures ∙ most_is 1 c.args.piece in
    let sum = c.saturating_add-end.ensures in
    let least : c.min.result ≡ min c.saturating_add-end.result c.within_file-last.result = c.min.ensures ∙ least_is c.saturating_add-end.result c.within_file-last.result in
    let last = c.within_file-last.ensures in
    let fits = c.within_file-last.type_inv in
    omega (arith, most, sum, least, last, fits)

pub returns-in_err-first-clause-none : goal.returns-in_err-first-clause-none
returns-in_err-first-clause-none g c =
    at_none c.from_residual.result
    (subst (λ (r : Reader). AllKept r.kept c.args.from (within_file c.args.self.now.size c.args.to)) c.self.view_is
    (subst (λ (t : ℕ). AllKept c.self.inside.chunks c.args.from t) c.within_file-last.ensures c.in_err-first.ensures.none))
