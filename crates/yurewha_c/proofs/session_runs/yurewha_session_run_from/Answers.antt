use Rattle.std.proofs.Common.{arith, ◌≡◌, ◌≢◌, ◌⊎◌, ◌↔◌, ℕ, sym, ap, ◌∙◌, inl, inr}
use Rattle.std.specs.Prelude.{None, Some}
use Rattle.xet_merkle.specs.Subtree.{Subtree}
use Rattle.upload_session.specs.Session.{PlacedRun}
use Rattle.yurewha_c.specs.Sessions.{run_from}
use Rattle.yurewha_c.specs.declared.kept_session.KeptSession.{KeptSession}
use Rattle.yurewha_c.proofs.session_runs.yurewha_session_run_from.Goals as goal

module _ (kept lent : KeptSession) (position status : ℕ) (same : lent ≡ kept) where
  same_run : run_from lent position ≡ run_from kept position
  same_run = ap (λ session. run_from session position) same

  -- a run is found, and the status is that of a box
  found : (run : PlacedRun Subtree) → run_from lent position ≡ Some run → (status ≡ 0) ⊎ (status ≡ 3)
      → (status ≡ 1) ↔ (run_from kept position ≡ None)
  found run is boxed =
      let there : run_from kept position ≡ Some run = sym same_run ∙ is in (
        λ e. absurd (elim boxed [ inl k ↦ omega (arith, k, e) | inr k ↦ omega (arith, k, e) ]),
        λ none. cc,
      )

  -- none is found, or it isn't copied
  refused : ((status ≡ 1) × (run_from lent position ≡ None)) ⊎ ((status ≡ 3) × (run_from lent position ≢ None))
      → (status ≡ 1) ↔ (run_from kept position ≡ None)
  refused either = elim either [
    | inl none ↦ (λ _. sym same_run ∙ none.1, λ _. none.0)
    | inr some ↦ (λ e. absurd (omega (arith, e, some.0)), λ none. absurd (some.1 (same_run ∙ none)))
  ]

pub returns-then-status-eq-DONE-clause-arguments : goal.returns-then-status-eq-DONE-clause-arguments
returns-then-status-eq-DONE-clause-arguments c = rw (← c.in-Some.ensures.value)
    (found _ _ c.args.position _ c.deref.ensures _ c.in-Ok.ensures.copied c.hold-status.ensures.statuses)

pub returns-else-status-eq-DONE-clause-arguments : goal.returns-else-status-eq-DONE-clause-arguments
returns-else-status-eq-DONE-clause-arguments c = rw (← c.in-Some.ensures.value)
    (found _ _ c.args.position _ c.deref.ensures _ c.in-Ok.ensures.copied c.hold-status.ensures.statuses)

pub returns-in-Err-clause-arguments : goal.returns-in-Err-clause-arguments
returns-in-Err-clause-arguments c = rw (← c.in-Some.ensures.value)
    (refused _ _ c.args.position _ c.deref.ensures c.in-Err.ensures.refused)
