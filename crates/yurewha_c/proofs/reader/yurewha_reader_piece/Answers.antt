use Rattle.std.proofs.Common.{arith, ◌≡◌, ◌≤◌, ◌↔◌, ◌⊎◌, inl, inr, refl, subst}
use Rattle.std.specs.Prelude.{Option, IfSome}
use Rattle.verified_reader.specs.Reader.{Reader, last_place}
use Rattle.yurewha_c.specs.declared.status.TheConstants.{ARGUMENTS}
use Rattle.yurewha_c.proofs.reader.yurewha_reader_piece.Goals as goal

pub returns-in_default-found-clause-arguments : goal.returns-in_default-found-clause-arguments
returns-in_default-found-clause-arguments c =
    let P = λ (kept : Reader). (1 ≡ ARGUMENTS) ↔ ((c.args.piece ≡ 0) ⊎ (last_place kept.size ≤ c.args.place)) in
    subst (λ (owned : Option Reader). IfSome owned P) c.in-Some.ensures.value
    (subst P c.deref.ensures ((λ _. c.in_default-found.ensures.none), (λ _. refl)))

pub returns-clause-arguments : goal.returns-clause-arguments
returns-clause-arguments c =
    let P = λ (kept : Reader). (0 ≡ ARGUMENTS) ↔ ((c.args.piece ≡ 0) ⊎ (last_place kept.size ≤ c.args.place)) in
    let it = c.in-Some-found.ensures.some in
    subst (λ (owned : Option Reader). IfSome owned P) c.in-Some.ensures.value
    (subst P c.deref.ensures (
      (λ never. let clash : ⊥ = cc in absurd clash),
      (λ why. elim why [
        | inl none ↦ absurd (omega (arith, none, it.end_is, it.begins, it.ends))
        | inr past ↦ absurd (omega (arith, past, it.end_is, it.ends))
      ]),
    ))
