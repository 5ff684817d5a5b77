-- What a handle owns: nothing if its pointer is null, or else what a box at that pointer owns.
use Rattle.std.proofs.Common.{◌≡◌, ℕ, ◌++◌, List, [], ◌∷◌, refl, lit<, subst}
use Rattle.std.specs.Prelude.{Option, Some, None}
use lib.Dec.{T}
use seplogic.Ra.Ura.{Ura}
use mir.Raw.{raw as bare}
use mir.Syntax.{ty_ptr}
use mir.Val.{Val, vstruct, vcons, vnil, of_list, has_ty, WT}
use base.Logic.{ent, guard, never, never_e, fst∗, snd∗, via, guard_i}
use types.Logic.{Logic, sem}
use types.Kit.{Item, Goal, Seq, Step, step, ‵, given, ◌$◌, by, keep, move, drop, use1, learn, fsplit, fjoin, fpick, fpack, feq_i, feq_l}
use contract.Monad.{fact_use}
use denote.RattleType.{RattleType, Valss}
use denote.Builtin.{RawPtr}
use denote.Memory.{lone}
use denote.RawPtr.{Ptr, block_ptr, null_ptr, ptr_val, in_a_block, Testable, lies_at}
use denote.Steps.{nothing}
use denote.Struct.Struct.{within}
use denote.Struct.Owning.{shape}
use base.Fml.{Fml, fsep, fex}
use base.Fraction.{full_share}
use Rattle.std.specs.Box.Ownership.{box_owns}
use Rattle.std.specs.Global.{Global}
use Rattle.std.specs.contracts.impls.GlobalAllocator.TheImpl.{ghosts}
use Rattle.std.proofs.GlobalToken.{dealloc_token-Testable}
use Rattle.core.proofs.alloc.Calls.{α, Fits, handle_tells}
use Rattle.std_alloc.proofs.BoxSteps.Form.{Bx, P, owning, handle, box_ty, word, box_typed}
use types.Match.{live}
use denote.Param.{layout}
use denote.Param.Laws.{Laws}
use Rattle.core.proofs.cell.Inside.{Good}
use Rattle.core.specs.contracts.option.Option as option
use Rattle.std_alloc.proofs.ResultValues.{and_tt}
use Rattle.yurewha_c.specs.Owned.{owns_kept}
use Rattle.yurewha_c.proofs.AsBox.{box_of, parts_row}

-- the machine value of a handle
abbrev pub bits : Val → Val → Val
bits at alloc = vstruct (vcons at (vcons alloc vnil))

pub is_pointer : (at : Ptr) → T (has_ty ty_ptr (ptr_val at)) × WT (ptr_val at)
is_pointer null_ptr = (tt, record { fits = lit< tt })
is_pointer (block_ptr b o) = (tt, tt)

module _ (R : RattleType) (L : Laws R) where
  abbrev E : Bx
  E = box_of R L

  -- a handle, and the parts of a box as an `Option`, are machine values of their types
  pub typed : (at : Ptr) (a : Val) → Fits E.al a → T (has_ty (box_ty E) (bits (ptr_val at) a)) × WT (bits (ptr_val at) a)
  typed null_ptr a fits = (and_tt (has_ty (α E.al) a) fits.0, (record { fits = lit< tt }, (fits.1, tt)))
  typed (block_ptr b o) a fits = box_typed E a b o fits

  pub some_typed : (a : Val) (b o : ℕ) → Fits E.al a → Good (layout (option.the_row (parts_row R))) (live 1 (vcons (word E a b o) vnil))
  some_typed a b o fits = (and_tt _ (box_typed E a b o fits).0, (record { fits = lit< tt }, ((box_typed E a b o fits).1, tt)))

  -- what a handle by value owns: its two fields, and what is kept
  abbrev pub held : Ptr → Global → Option R.Denot → List Val → Fml
  held at alloc value vs = fsep (fex (Valss (RawPtr ∷ P E ∷ [])) (within (shape (owning E)) (at, (alloc, tt)) vs)) (owns_kept R alloc at value)

  module _ {M : Type 1} {𝓤 : Ura M} {𝓛 : Logic 𝓤} {K : Type 0} {Γ : List (Item 𝓤)} {G : Goal 𝓤 𝓛.H} where
    pub handle_out : K → (at : Ptr) (alloc : Global) (value : Option R.Denot) (vs : List Val)
        → ((a : Val) → vs ≡ bits (ptr_val at) a ∷ [] → Fits E.al a
        → Seq K 𝓛 (‵ (owns_kept R alloc at value) ∷ ‵ (handle E alloc a) ∷ Γ) G)
        → Seq K 𝓛 (‵ (held at alloc value vs) ∷ Γ) G
    handle_out t at alloc value vs k =
        fsplit t $ fpick t (λ vss. fsplit t $ feq_l t (λ ev. fsplit t $ feq_l t (λ ep. fsplit t $ handle_tells E.al t alloc vss.1.0 (λ a ea fa. move t (1 ∷ []) $ drop t $ move t (1 ∷ []) $
        k a (subst (λ (ws : List Val). vs ≡ vstruct (of_list (ptr_val at ∷ (ws ++ []))) ∷ []) ea (subst (λ (ps : List Val). vs ≡ vstruct (of_list (ps ++ (vss.1.0 ++ []))) ∷ []) ep ev)) fa))))

    pub handle_in : K → (at : Ptr) (alloc : Global) (value : Option R.Denot) (a : Val)
        → Step K 𝓛 (‵ (held at alloc value (bits (ptr_val at) a ∷ [])) ∷ Γ) G (‵ (owns_kept R alloc at value) ∷ ‵ (handle E alloc a) ∷ Γ) G
    handle_in t at alloc value a = step (λ s.
        nothing t $ move t (2 ∷ 0 ∷ []) $ fjoin t $ feq_i t (List Val) (ptr_val at ∷ []) (ptr_val at ∷ []) refl $ fjoin t $
        feq_i t (List Val) (bits (ptr_val at) a ∷ []) (bits (ptr_val at) a ∷ []) refl $ fjoin t $
        fpack t (Valss (RawPtr ∷ P E ∷ [])) (within (shape (owning E)) (at, (alloc, tt)) (bits (ptr_val at) a ∷ [])) (ptr_val at ∷ [], (a ∷ [], tt)) $ fjoin t $ s)

module _ (R : RattleType) {M : Type 1} {𝓤 : Ura M} (𝓛 : Logic 𝓤) (a : Global) where
  -- a pointer whose block may be freed can be compared with null
  tested : (p : Ptr) (x : R.Denot) → ent 𝓤 (sem 𝓛 (box_owns (ghosts.dealloc_token a) R p x)) (guard 𝓤 (Testable p) (sem 𝓛 (box_owns (ghosts.dealloc_token a) R p x)))
  tested p x = let B = sem 𝓛 (box_owns (ghosts.dealloc_token a) R p x) in
      fact_use 𝓤 (Testable p) (via 𝓤 _ (snd∗ 𝓤 (sem 𝓛 (lies_at R full_share p x)) (sem 𝓛 (ghosts.dealloc_token a (bare (lone R.mir)) p))) (dealloc_token-Testable 𝓛 a (bare (lone R.mir)) p)) (guard_i 𝓤 (Testable p) B)

module _ (R : RattleType) {M : Type 1} {𝓤 : Ura M} {𝓛 : Logic 𝓤} {K : Type 0} {Γ : List (Item 𝓤)} {G : Goal 𝓤 𝓛.H} where
  pub either_held : K → (a : Global) (at : Ptr) (value : Option R.Denot)
      → (at ≡ null_ptr → value ≡ None → Seq K 𝓛 Γ G)
      → ((b o : ℕ) (x : R.Denot) → at ≡ block_ptr b o → value ≡ Some x → Testable (block_ptr b o) → Seq K 𝓛 (‵ (box_owns (ghosts.dealloc_token a) R (block_ptr b o) x) ∷ Γ) G)
      → Seq K 𝓛 (‵ (owns_kept R a at value) ∷ Γ) G
  either_held t a null_ptr None none some = drop t $ none refl refl
  either_held t a (block_ptr b o) None none some = keep t (0 ∷ []) $ by t (never_e 𝓤 _)
  either_held t a at (Some x) none some =
      use1 𝓛 (given (Testable at) (‵ (box_owns (ghosts.dealloc_token a) R at x))) (tested R 𝓛 a at x) $ learn t (λ can.
      in_a_block t at (λ p. box_owns (ghosts.dealloc_token a) R p x) (fst∗ 𝓤 (never 𝓤) (sem 𝓛 (ghosts.dealloc_token a (bare (lone R.mir)) null_ptr))) (λ b o e.
      some b o x e refl (subst Testable e can)))
