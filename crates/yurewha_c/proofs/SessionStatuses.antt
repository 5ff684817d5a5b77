-- What the status of a failed session call says about the fault.
use Rattle.std.specs.Prelude.{Some, Result, Err, IsErrOf}
use Rattle.std.proofs.Common.{arith, ◌≡◌, ℕ, ◌⊎◌, ◌↔◌, refl, sym, ap, ◌∙◌, inl, inr}
use Rattle.upload_session.specs.declared.session_fault.SessionFault.{SessionFault}
use Rattle.upload_session.specs.declared.session_fault.SessionFault.TheVariants.{Overlap, Positions, Sizes, Memory, Gap}
use Rattle.upload_session.specs.Session.{Cover, IsWhole}
use Rattle.yurewha_c.specs.Sessions.{HoldsOfPlaced, IsWholeStatus}
use Rattle.yurewha_c.specs.Statuses.{session_status}
use Rattle.yurewha_c.specs.declared.kept_session.KeptSession.{KeptSession}

session_status-injective : (a b : SessionFault) → session_status a ≡ session_status b → a ≡ b
session_status-injective Overlap Overlap e = refl
session_status-injective Positions Positions e = refl
session_status-injective Sizes Sizes e = refl
session_status-injective Memory Memory e = refl
session_status-injective Gap Gap e = refl
session_status-injective a b e = absurd (omega (arith, e))

gap_or_not : (fault : SessionFault) → (fault ≡ Gap) ⊎ (fault ≡ Gap → ⊥)
gap_or_not Gap = inl refl
gap_or_not fault = inr (λ e. cc)

module _ {A : Type 0} (answer : Result A SessionFault) (fault : SessionFault) (status : ℕ) (refused : answer ≡ Err fault) (has : status ≡ session_status fault) where
  is_fault : (kind : SessionFault) → IsErrOf answer kind → fault ≡ kind
  is_fault kind e = cc

  -- a fault has its own status, and no other one has it
  pub status_tells : (kind : SessionFault) (P : Type 0) → (IsErrOf answer kind ↔ P) → (status ≡ session_status kind) ↔ P
  status_tells kind P told = (
    λ h. let same : fault ≡ kind = session_status-injective fault kind (sym has ∙ h) in told.0 cc,
    λ p. has ∙ ap session_status (is_fault kind (told.1 p)),
  )

  pub not_memory : (status ≡ 3 → ⊥) → IsErrOf answer Memory → ⊥
  not_memory other e = other (has ∙ ap session_status (is_fault Memory e))

  pub gap_tells : (W : Type 0) → (IsErrOf answer Gap → W → ⊥) → ((IsErrOf answer Gap → ⊥) → W) → (status ≡ 37) ↔ (W → ⊥)
  gap_tells W gap whole = (
    λ h. let same : fault ≡ Gap = session_status-injective fault Gap (sym has ∙ h) in gap cc,
    λ no. elim (gap_or_not fault) [ inl e ↦ has ∙ ap session_status e | inr other ↦ absurd (no (whole (λ e. other (is_fault Gap e)))) ],
  )

  -- all chunks are asked for, and the session refuses
  pub refused_status : (kept : KeptSession) (total : ℕ) → (fault ≡ Gap) ⊎ (fault ≡ Memory)
      → (IsErrOf answer Gap → Cover total kept.session.runs → ⊥) → ((IsErrOf answer Gap → ⊥) → Cover total kept.session.runs)
      → HoldsOfPlaced kept (λ placed. IsWhole total placed ↔ Cover total kept.session.runs) → IsWholeStatus (Some kept) total status
  refused_status kept total either gap cover whole =
      let known : (status ≡ 37) ⊎ (status ≡ 3) = elim either [ inl e ↦ inl (has ∙ ap session_status e) | inr e ↦ inr (has ∙ ap session_status e) ] in
      record {
        on_gap = gap_tells (Cover total kept.session.runs) gap cover;
        on_done = λ e. absurd (elim known [ inl k ↦ omega (arith, k, e) | inr k ↦ omega (arith, k, e) ]);
        on_empty = (λ e. absurd (elim known [ inl k ↦ omega (arith, k, e) | inr k ↦ omega (arith, k, e) ]), λ e. cc);
        statuses = elim known [ inl k ↦ inr (inr (inl k)) | inr k ↦ inr (inr (inr k)) ];
        whole = whole;
      }

-- all chunks are asked for, and the session has them
pub done_status : (kept : KeptSession) (total : ℕ) → Cover total kept.session.runs
    → HoldsOfPlaced kept (λ placed. IsWhole total placed ↔ Cover total kept.session.runs) → IsWholeStatus (Some kept) total 0
done_status kept total covers whole = record {
  on_gap = (λ e. absurd (omega (arith, e)), λ no. absurd (no covers));
  on_done = λ _. covers;
  on_empty = (λ e. absurd (omega (arith, e)), λ e. cc);
  statuses = inl refl;
  whole = whole;
}
