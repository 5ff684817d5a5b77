-- What a call of `refuses` gets, and what its caller knows of the result.
use Rattle.std.proofs.Common.{◌≡◌, ℕ, ◌^◌, ◌<◌, Bool, List, [], ◌∷◌, refl, ap, w64}
use seplogic.Ra.Ura.{Ura}
use mir.Val.{Val, vbool, vint, vptr}
use base.Logic.{SProp, ent, sep, guard, ex, id⊢}
use base.Fml.{Lft, Share, ftrue, fsep, flft}
use prog.Memory.{Memory}
use prog.Routine.{Routine}
use types.Logic.{Logic, sem}
use contract.Monad.{Fun}
use types.Kit.{‵, raw, ◌⊛◌, some, later, show, ◌$◌, ◌∵◌, !, qed, move, keep, use0, use1, split, join, pick, fjoin, feq_i, feq_l, check, await, updating, now as at_once, done}
use denote.RattleType.{RattleType}
use denote.Memory.{hidden_shr}
use denote.Builtin.{bool, usize}
use denote.Shadow.{makes_shadow}
use denote.Steps.{nothing, only}
use denote.Triple.Statement.{Contract}
use denote.Triple.Spec.{triple_of}
use Rattle.std.specs.contracts.cell.Cell as CE
use Rattle.refusing_allocator.specs.contracts.Counts as counts
use Rattle.refusing_allocator.specs.contracts.refuses as RF

abbrev Tally : RattleType
Tally = CE.the_row counts.the_row

module _ {M : Type 1} {𝓤 : Ura M} (𝓛 : Logic 𝓤) (at_mem : Memory → SProp 𝓤) (run : Routine → Fun 𝓤) where
  abbrev pub Refuses : Contract 𝓤
  Refuses = triple_of 𝓛 RF.signature (RF.spec 𝓛 at_mem run)

  abbrev pub at_refuses : Lft → Share → ℕ × ℕ → ℕ → Refuses.Ghost
  at_refuses κ q c n = (((κ, tt), (q, tt), tt, (record { ref_ptr = c; now = record { value = tt } }, (n, tt)), (vptr c.0 c.1 ∷ [], (vint w64 n ∷ [], tt))), tt)

module _ {M : Type 1} {𝓤 : Ura M} (𝓛 : Logic 𝓤) (at_mem : Memory → SProp 𝓤) (run : Routine → Fun 𝓤) (κ : Lft) (q : Share) (c : ℕ × ℕ) (n : ℕ) where
  open 𝓛 use {H, A}

  pub Refuses-goes : n < 2 ^ 64 → ent 𝓤 (sep 𝓤 (sem 𝓛 (hidden_shr Tally κ (record { value = tt }) c.0 c.1)) (A.lft κ q)) ((Refuses 𝓛 at_mem run).pre (at_refuses 𝓛 at_mem run κ q c n))
  Refuses-goes fn =
      qed 𝓛 (‵ (hidden_shr Tally κ (record { value = tt }) c.0 c.1) ∷ ‵ (flft κ q) ∷ []) ∵ feq_i ! (List Val) (vptr c.0 c.1 ∷ []) (vptr c.0 c.1 ∷ []) refl $ fjoin ! $
      nothing ! $ use0 𝓛 (‵ (usize.own_val n (vint w64 n ∷ []))) (makes_shadow 𝓛 (usize.own_val n (vint w64 n ∷ [])) (tt, tt) (refl, fn)) $ fjoin ! $ move ! (1 ∷ []) $ fjoin ! $ nothing ! $ move ! (2 ∷ []) $ join ! $ join ! $ nothing ! $ move ! (1 ∷ []) $ done !

  pub Refuses-gives : (v : Val) → ent 𝓤 ((Refuses 𝓛 at_mem run).post (at_refuses 𝓛 at_mem run κ q c n) v) (H.⇛ (ex 𝓤 (λ (t : Bool). guard 𝓤 (v ≡ vbool t) (A.lft κ q))))
  Refuses-gives v =
      qed 𝓛 (raw ((Refuses 𝓛 at_mem run).post (at_refuses 𝓛 at_mem run κ q c n) v) ∷ []) ∵ updating ! $
      use1 𝓛 (later (some (λ (t : Bool). ((‵ (flft κ q) ⊛ ‵ ftrue) ⊛ ‵ (bool.own_val t (v ∷ []))) ⊛ some (λ (ws : Unit {0} × (Unit {0} × Unit {0})). ‵ (fsep ftrue (fsep ftrue ftrue)) ⊛ ‵ ftrue)))) (id⊢ 𝓤 _) $ await ! tt $ pick ! (λ t.
      split ! $ split ! $ move ! (1 ∷ []) $ feq_l ! (λ e. split ! $ at_once ! $
      show ! (λ (t : Bool). guard 𝓤 (v ≡ vbool t) (A.lft κ q)) t $ check ! (ap only e) $ keep ! (0 ∷ []) $ done !))
