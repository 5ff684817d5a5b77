-- The calls that make a handle and take it apart, each walked once for all types of handles.
use Rattle.std.proofs.Common.{◌≡◌, ℕ, List, [], ◌∷◌, ◌++◌, map, refl, sym, lit<}
use Rattle.std.specs.Prelude.{Some, None, option_map}
use Rattle.std.specs.Global.{Global}
use seplogic.Ra.Ura.{Ura}
use mir.Syntax.{Ty, Fn, Callee, Body, Step, Opd, ty_ptr, ty_bool, ty_struct, tnil, tcons, local, value_local, place, field, copy, int, w64, w8, rv_opd, op2, ptr_eq, aggregate, seq, assign, cond, return}
use mir.Val.{Val, vcons, vnil}
use base.Logic.{SProp}
use prog.Model.{Model}
use prog.Wp.{WpFn, Tables}
use types.Logic.{Logic}
use types.Kit.{Goal, ‵, raw, prop, at_ret, ◌$◌, ◌∵◌, !, qed, keep, use0, use1, rewrite, regoal, done}
use types.Match.{live}
use types.Part.{agg, sub, whole}
use types.Run.{stop, fld, lit, of_opd, bin, no_more, and_then, first, branches, exec, returns, enter}
use types.ByLocal.{alloc_all, pass_all, free_all, look_at, get, get_in, sets, sets_last, env}
use contract.Running.{Running, tables_of}
use denote.RattleType.{RattleType}
use denote.RawPtr.{block_ptr, null_ptr, ptr_val, tests_null}
use denote.Steps.{nothing}
use denote.Param.{layout}
use Rattle.core.proofs.alloc.Calls.{handle_tells}
use Rattle.core.proofs.alloc.Shapes.{after}
use Rattle.core.proofs.option.Made.{Some-of, none_of}
use Rattle.core.specs.contracts.option.Option as option
use Rattle.std_alloc.proofs.BoxSteps.Form.{P}
use Rattle.yurewha_c.proofs.AsBox.{box_of, parts_row, global_row}
use Rattle.yurewha_c.proofs.FactCalls.{Walk, Met, met_by, machine}
use Rattle.yurewha_c.proofs.Handles.{bits, held, typed, some_typed, is_pointer, handle_out, handle_in, either_held}
use Rattle.yurewha_c.proofs.HandleTypes.{HandleType, Fields, owned_of, value_of}

abbrev code : List Ty → Body → Fn
code τs body = record {
  lifetimes = 0;
  outlives = [];
  ty_params = [];
  givens = 0;
  params = 1;
  locals = map (λ τ. local τ value_local) τs;
  body = body;
}

-- local i is local j, or a part of it
abbrev moved : ℕ → ℕ → List Step → Body
moved i j part = assign (place i []) (rv_opd (copy (place j part)))

-- local i is made of x and local j
abbrev made : ℕ → Opd → ℕ → Body
made i x j = assign (place i []) (aggregate (x ∷ copy (place j []) ∷ []))

module _ (Y : HandleType) where
  open Y use {kept, laws, row, fields}

  abbrev Parts : RattleType
  Parts = parts_row kept

  abbrev Out : RattleType
  Out = option.the_row Parts

  -- ---- the code
  abbrev handle_ty : Ty
  handle_ty = ty_struct Y.name (tcons ty_ptr (tcons (layout global_row) tnil))

  abbrev empty_code : Fn
  empty_code = code (handle_ty ∷ layout global_row ∷ []) (seq (made 0 (int w64 0) 1) return)

  abbrev of_parts_code : Fn
  of_parts_code = code (handle_ty ∷ layout Parts ∷ ty_ptr ∷ layout global_row ∷ ty_ptr ∷ [])
      (seq (moved 2 1 (field 0 ∷ []))
      (seq (moved 3 1 (field 1 ∷ []))
      (seq (moved 4 2 [])
      (seq (made 0 (copy (place 4 [])) 3) return))))

  abbrev into_parts_code : Fn
  into_parts_code = code (layout Out ∷ handle_ty ∷ ty_ptr ∷ layout global_row ∷ ty_bool ∷ layout Out ∷ ty_ptr ∷ layout Parts ∷ [])
      (seq (moved 2 1 (field 0 ∷ []))
      (seq (moved 3 1 (field 1 ∷ []))
      (seq (assign (place 4 []) (op2 ptr_eq (copy (place 2 [])) (int w64 0)))
      (seq (cond (copy (place 4 []))
      (assign (place 5 []) (aggregate (int w8 0 ∷ [])))
      (seq (moved 6 2 []) (seq (made 7 (copy (place 6 [])) 3) (made 5 (int w8 1) 7))))
      (seq (moved 0 5 []) return)))))

  -- ---- what each call ensures
  abbrev IsEmpty : Global → row.Denot → Type 0
  IsEmpty alloc h = (fields h).2 ≡ None

  abbrev Holds : Parts.Denot → row.Denot → Type 0
  Holds parts h = (fields h).2 ≡ Some parts.value

  abbrev Gives : row.Denot → Out.Denot → Type 0
  Gives h out = option_map (λ (parts : Parts.Denot). parts.value) out ≡ (fields h).2

  -- ---- the walks
  module _ {M : Type 1} {𝓤 : Ura M} (𝓛 : Logic 𝓤) (𝓣 : Tables 𝓤 𝓛.H) where
    abbrev run : Fn → (Val → SProp 𝓤) → List Val → Goal 𝓤 𝓛.H
    run fn Post vs = prop (WpFn 𝓤 𝓛.H 𝓣.C 𝓣.Λ fn (vs ++ []) Post)

    -- `empty` stores the null pointer and the allocator: the handle owns nothing
    empty_walk : Walk global_row row IsEmpty 𝓛 𝓣 empty_code
    empty_walk alloc vs Post ends =
        let f : Fields kept = (null_ptr, alloc, None) in let fn = empty_code in
        qed 𝓛 (‵ ((P (box_of kept laws)).own_val alloc vs) ∷ []) ∵
        handle_tells (box_of kept laws).al ! alloc vs (λ a ws fits. nothing ! $ handle_in kept laws ! null_ptr alloc None a $
        let w = bits (ptr_val null_ptr) a in
        rewrite ! 0 (λ F. ‵ F) (sym (owned_of Y f (w ∷ []))) refl $
        regoal ! (run fn Post) ws refl $ enter ! 𝓣.C 𝓣.Λ fn (a ∷ []) _ $ alloc_all ! (λ ls. pass_all ! refl (fits, tt) $
        sets ! (agg ! (and_then ! (lit ! tt) (and_then ! (get ! refl) (no_more !)))) refl (typed kept laws null_ptr a fits) $
        returns ! (look_at ! 0 refl) $ free_all ! refl $ use1 𝓛 (raw (Post w)) (ends w (Y.of f) (value_of Y f)) $ done !))

    -- `of_parts` moves two fields, and with them what they own
    of_parts_walk : Walk Parts row Holds 𝓛 𝓣 of_parts_code
    of_parts_walk parts vs Post ends =
        let f : Fields kept = (parts.ptr, parts.alloc, Some parts.value) in let fn = of_parts_code in
        qed 𝓛 (‵ (held kept laws f.0 f.1 f.2 vs) ∷ []) ∵
        handle_out kept laws ! f.0 f.1 f.2 vs (λ a ws fits. handle_in kept laws ! f.0 f.1 f.2 a $
        let w = bits (ptr_val parts.ptr) a in
        rewrite ! 0 (λ F. ‵ F) (sym (owned_of Y f (w ∷ []))) refl $
        regoal ! (run fn Post) ws refl $ enter ! 𝓣.C 𝓣.Λ fn (w ∷ []) _ $
        alloc_all ! (λ ls. pass_all ! refl (typed kept laws f.0 a fits, tt) $
        sets ! (of_opd ! (get_in ! (fld ! refl (stop !)) (sub ! 0 refl (whole !)))) refl (is_pointer f.0) $
        sets ! (of_opd ! (get_in ! (fld ! refl (stop !)) (sub ! 1 refl (whole !)))) refl fits $
        sets ! (of_opd ! (get ! refl)) refl (is_pointer f.0) $
        sets ! (agg ! (and_then ! (get ! refl) (and_then ! (get ! refl) (no_more !)))) refl (typed kept laws f.0 a fits) $
        returns ! (look_at ! 0 refl) $ free_all ! refl $ use1 𝓛 (raw (Post w)) (ends w (Y.of f) (value_of Y f)) $ done !))

    -- `into_parts` compares the pointer with null. A handle with a null pointer owned nothing. Any other handle passes
    -- what it owned to the parts.
    into_parts_walk : Walk row Out Gives 𝓛 𝓣 into_parts_code
    into_parts_walk h vs Post ends =
        let f = fields h in let fn = into_parts_code in
        qed 𝓛 (‵ (row.own_val h vs) ∷ []) ∵ rewrite ! 0 (λ F. ‵ F) (Y.owns h vs) refl $
        handle_out kept laws ! f.0 f.1 f.2 vs (λ a ws fits. regoal ! (run fn Post) ws refl $ either_held kept ! f.1 f.0 f.2
        (λ is none. keep ! [] $ regoal ! (λ at. run fn Post (bits (ptr_val at) a ∷ [])) is refl $
        let w = live 0 vnil in
        enter ! 𝓣.C 𝓣.Λ fn (bits (ptr_val null_ptr) a ∷ []) _ $
        alloc_all ! (λ ls. pass_all ! refl (typed kept laws null_ptr a fits, tt) $
        sets ! (of_opd ! (get_in ! (fld ! refl (stop !)) (sub ! 0 refl (whole !)))) refl (is_pointer null_ptr) $
        sets ! (of_opd ! (get_in ! (fld ! refl (stop !)) (sub ! 1 refl (whole !)))) refl fits $
        sets ! (bin ! (get ! refl) (lit ! tt) tt) refl (tt, tt) $ first ! $ branches ! (get ! refl)
        (λ _. sets_last ! (agg ! (and_then ! (lit ! tt) (no_more !))) refl (tt, (record { fits = lit< tt }, tt)) $
        exec ! 𝓣.C 𝓣.Λ (env fn.locals ls) (after 4 fn.body) (at_ret (env fn.locals ls) Post) $
        sets ! (of_opd ! (get ! refl)) refl (tt, (record { fits = lit< tt }, tt)) $
        returns ! (look_at ! 0 refl) $ free_all ! refl $ use0 𝓛 (‵ (Out.own_val None (w ∷ []))) (none_of 𝓛 Parts) $
        use1 𝓛 (raw (Post w)) (ends w None (sym none)) $ done !)
        (λ wrong. absurd wrong)))
        (λ b o x is some can. handle_in kept laws ! (block_ptr b o) f.1 (Some x) a $
        regoal ! (λ at. run fn Post (bits (ptr_val at) a ∷ [])) is refl $
        let parts : Parts.Denot = record { ptr = block_ptr b o; alloc = f.1; value = x } in
        let v = bits (ptr_val (block_ptr b o)) a in let w = live 1 (vcons v vnil) in
        let good = typed kept laws (block_ptr b o) a fits in
        use1 𝓛 (‵ (Out.own_val (Some parts) (w ∷ []))) (Some-of 𝓛 Parts parts v) $
        enter ! 𝓣.C 𝓣.Λ fn (v ∷ []) _ $ alloc_all ! (λ ls. pass_all ! refl (good, tt) $
        sets ! (of_opd ! (get_in ! (fld ! refl (stop !)) (sub ! 0 refl (whole !)))) refl (tt, tt) $
        sets ! (of_opd ! (get_in ! (fld ! refl (stop !)) (sub ! 1 refl (whole !)))) refl fits $
        sets ! (bin ! (get ! refl) (lit ! tt) (tests_null (block_ptr b o) can)) refl (tt, tt) $ first ! $ branches ! (get ! refl)
        (λ wrong. absurd wrong)
        (λ _. sets ! (of_opd ! (get ! refl)) refl (tt, tt) $
        sets ! (agg ! (and_then ! (get ! refl) (and_then ! (get ! refl) (no_more !)))) refl good $
        sets_last ! (agg ! (and_then ! (lit ! tt) (and_then ! (get ! refl) (no_more !)))) refl (some_typed kept laws a b o fits) $
        exec ! 𝓣.C 𝓣.Λ (env fn.locals ls) (after 4 fn.body) (at_ret (env fn.locals ls) Post) $
        sets ! (of_opd ! (get ! refl)) refl (some_typed kept laws a b o fits) $
        returns ! (look_at ! 0 refl) $ free_all ! refl $ use1 𝓛 (raw (Post w)) (ends w (Some parts) (sym some)) $ done !))))

  -- ---- the contracts
  module _ {M : Type 1} {𝓤 : Ura M} (𝓛 : Logic 𝓤) (𝓜 : Model 𝓤 𝓛.H) (𝓡 : Running 𝓤 𝓛.H 𝓜) (key : Callee) where
    abbrev 𝓣 : Tables 𝓤 𝓛.H
    𝓣 = tables_of 𝓤 𝓛.H 𝓜 (machine 𝓛 𝓜 𝓡)

    pub empty_met : Met global_row row IsEmpty 𝓛 𝓜 𝓡 key empty_code
    empty_met = met_by global_row row IsEmpty 𝓛 𝓜 𝓡 (λ x. tt) (λ x f. refl) key empty_code (empty_walk 𝓛 𝓣)

    pub of_parts_met : Met Parts row Holds 𝓛 𝓜 𝓡 key of_parts_code
    of_parts_met = met_by Parts row Holds 𝓛 𝓜 𝓡 (λ x. tt) (λ x f. refl) key of_parts_code (of_parts_walk 𝓛 𝓣)

    pub into_parts_met : Met row Out Gives 𝓛 𝓜 𝓡 key into_parts_code
    into_parts_met = met_by row Out Gives 𝓛 𝓜 𝓡 Y.last Y.silent key into_parts_code (into_parts_walk 𝓛 𝓣)
