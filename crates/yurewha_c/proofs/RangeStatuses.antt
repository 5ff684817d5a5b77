-- What the status of a refused range says about the fault.
use Rattle.std.specs.Prelude.{Some, Result, Err, IsErrOf}
use Rattle.std.proofs.Common.{arith, ◌≡◌, ◌+◌, ◌^◌, ◌<◌, ◌≤◌, ℕ, ◌⊎◌, ◌↔◌, false, refl, ap, inl, inr}
use Rattle.std.specs.declared.alloc.Global.{Global}
use Rattle.xet_merkle.specs.Levels.{levels_size}
use Rattle.xet_merkle.specs.Subtree.{Subtree}
use Rattle.upload_session.specs.declared.range_fault.RangeFault.{RangeFault}
use Rattle.upload_session.specs.declared.range_fault.RangeFault.TheVariants.{Range, Overlap, Positions, Sizes, Memory}
use Rattle.upload_session.specs.Gaps.{IsFirstTaken}
use Rattle.upload_session.specs.Session.{meet, CanPlace}
use Rattle.upload_session.specs.Subtrees.{subtrees}
use Rattle.yurewha_c.specs.Sessions.{IsPutRangeStatus}
use Rattle.yurewha_c.specs.Statuses.{range_status}
use Rattle.yurewha_c.specs.declared.kept_session.KeptSession.{KeptSession}

range_status-range : (fault : RangeFault) → range_status fault ≡ 1 → fault ≡ Range
range_status-range Range e = refl
range_status-range fault e = absurd (omega (arith, e))

range_status-overlap : (fault : RangeFault) → range_status fault ≡ 33 → (position : ℕ) × (fault ≡ Overlap position)
range_status-overlap (Overlap position) e = (position, refl)
range_status-overlap fault e = absurd (omega (arith, e))

range_status-positions : (fault : RangeFault) → range_status fault ≡ 34 → fault ≡ Positions
range_status-positions Positions e = refl
range_status-positions fault e = absurd (omega (arith, e))

range_status-sizes : (fault : RangeFault) → range_status fault ≡ 2 → fault ≡ Sizes
range_status-sizes Sizes e = refl
range_status-sizes fault e = absurd (omega (arith, e))

known : (fault : RangeFault) → (range_status fault ≡ 1) ⊎ ((range_status fault ≡ 33) ⊎ ((range_status fault ≡ 34) ⊎ ((range_status fault ≡ 2) ⊎ (range_status fault ≡ 3))))
known Range = inl refl
known (Overlap position) = inr (inl refl)
known Positions = inr (inr (inl refl))
known Sizes = inr (inr (inr (inl refl)))
known Memory = inr (inr (inr (inr refl)))

not_empty : (fault : RangeFault) → range_status fault ≡ 6 → ⊥
not_empty fault e = absurd (elim (known fault) [
  | inl k ↦ omega (arith, k, e)
  | inr (inl k) ↦ omega (arith, k, e)
  | inr (inr (inl k)) ↦ omega (arith, k, e)
  | inr (inr (inr (inl k))) ↦ omega (arith, k, e)
  | inr (inr (inr (inr k))) ↦ omega (arith, k, e)
])

module _ {A : Type 0} (answer : Result A RangeFault) (fault : RangeFault) (refused : answer ≡ Err fault) where
  said : (kind : RangeFault) → fault ≡ kind → IsErrOf answer kind
  said kind e = cc

  is_fault : (kind : RangeFault) → IsErrOf answer kind → fault ≡ kind
  is_fault kind e = cc

  -- a range is refused
  pub put_status : (kept : KeptSession) (first count : ℕ) (range : Subtree)
      → (IsErrOf answer Range ↔ (CanPlace {A = Global} subtrees count range → ⊥))
      → ((position : ℕ) → IsErrOf answer (Overlap position)
      ↔ (CanPlace {A = Global} subtrees count range × IsFirstTaken kept.session.runs first count position))
      → (IsErrOf answer Positions ↔ (CanPlace {A = Global} subtrees count range × (meet kept.session.runs first count ≡ false)
      × (2 ^ 64 ≤ first + count)))
      → (IsErrOf answer Sizes ↔ (CanPlace {A = Global} subtrees count range × (meet kept.session.runs first count ≡ false)
      × (first + count < 2 ^ 64) × (2 ^ 64 ≤ kept.session.size + levels_size range.levels)))
      → IsPutRangeStatus (Some kept) first count (Some range) (range_status fault)
  put_status kept first count range can overlap positions sizes = record {
    on_empty = (λ e. absurd (not_empty fault e), λ e. elim e [ inl x ↦ cc | inr x ↦ cc ]);
    on_arguments = λ _. (λ e. can.0 (said Range (range_status-range fault e)), λ no. ap range_status (is_fault Range (can.1 no)));
    on_overlap = λ _. (
      λ e.
          let taken = range_status-overlap fault e in
          let h = (overlap taken.0).0 (said (Overlap taken.0) taken.1) in
          (h.0, taken.0, h.1),
      λ h. ap range_status (is_fault (Overlap h.1) ((overlap h.1).1 (h.0, h.2))),
    );
    on_positions = λ _. (λ e. positions.0 (said Positions (range_status-positions fault e)), λ h. ap range_status (is_fault Positions (positions.1 h)));
    on_sizes = λ _. (λ e. sizes.0 (said Sizes (range_status-sizes fault e)), λ h. ap range_status (is_fault Sizes (sizes.1 h)));
    statuses = elim (known fault) [
      | inl k ↦ inr (inr (inl k))
      | inr (inl k) ↦ inr (inr (inr (inl k)))
      | inr (inr (inl k)) ↦ inr (inr (inr (inr (inl k))))
      | inr (inr (inr (inl k))) ↦ inr (inr (inr (inr (inr (inl k)))))
      | inr (inr (inr (inr k))) ↦ inr (inr (inr (inr (inr (inr k)))))
    ];
  }
