use Rattle.std.proofs.Common.{◌≡◌, ◌↔◌, refl, subst}
use Rattle.std.specs.Prelude.{Option, IfSome}
use Rattle.verified_reader.specs.Kept.{AllKept}
use Rattle.verified_reader.specs.Reader.{Reader, within_file}
use Rattle.yurewha_c.specs.declared.status.TheConstants.{ARGUMENTS}
use Rattle.yurewha_c.proofs.reader.yurewha_reader_needs.Goals as goal

pub returns-in_default-missing-clause-arguments : goal.returns-in_default-missing-clause-arguments
returns-in_default-missing-clause-arguments c =
    let P = λ (kept : Reader). (1 ≡ ARGUMENTS) ↔ AllKept kept.kept c.args.from (within_file kept.size c.args.to) in
    subst (λ (owned : Option Reader). IfSome owned P) c.in-Some.ensures.value
    (subst P c.deref.ensures ((λ _. c.in_default-missing.ensures.none), (λ _. refl)))

pub returns-clause-arguments : goal.returns-clause-arguments
returns-clause-arguments c =
    let P = λ (kept : Reader). (0 ≡ ARGUMENTS) ↔ AllKept kept.kept c.args.from (within_file kept.size c.args.to) in
    let it = c.in-Some-missing.ensures.some in
    subst (λ (owned : Option Reader). IfSome owned P) c.in-Some.ensures.value
    (subst P c.deref.ensures ((λ never. let clash : ⊥ = cc in absurd clash), (λ all. absurd (it.missing (all c.in-Some-missing.begin it.begins it.within)))))
