-- What the handles of a list own, while the value of each in turn is taken out, read and put back.
use Rattle.std.proofs.Common.{arith, ◌≡◌, ℕ, ◌+◌, ◌<◌, List, [], ◌∷◌, ◌++◌, length, map, take, drop, get_or, zero, suc, refl, sym, ap, ◌∙◌, add-one}
use Rattle.std.proofs.Math.ListN.{set}
use Rattle.std.proofs.Math.Seq.{map-set_same, take-suc}
use Rattle.std.proofs.lemmas.List.{drop_more, get_or-map, map-append, length-map}
use Rattle.std.specs.Prelude.{Option, Some, None, IsSome, option_map}
use Rattle.xet_merkle.specs.Subtree.{Subtree}
use Rattle.yurewha_c.specs.Handles.{values_of}
use Rattle.yurewha_c.specs.declared.subtree_handle.SubtreeHandle.{SubtreeHandle}

-- a handle is put back with what it owned
pub kept_on : (handles : List SubtreeHandle) (i : ℕ) (new d : SubtreeHandle) (values : List (Option Subtree)) →
    new.value ≡ (get_or handles i d).value → values_of handles ≡ values → values_of (set handles i new) ≡ values
kept_on handles i new d values same kept = map-set_same (λ (handle : SubtreeHandle). handle.value) handles i new d same ∙ kept

value_at : (handles : List SubtreeHandle) (i : ℕ) (d : SubtreeHandle) (x : Option Subtree) (values : List (Option Subtree)) →
    i < length handles → values_of handles ≡ values → get_or values i x ≡ (get_or handles i d).value
value_at handles i d x values within kept = ap (λ vs. get_or vs i x) (sym kept) ∙ get_or-map (λ (handle : SubtreeHandle). handle.value) handles i d x within

-- one more is read
pub one_more : (handles : List SubtreeHandle) (i : ℕ) (d : SubtreeHandle) (next : Subtree) (front : List Subtree) (values : List (Option Subtree)) →
    i < length handles → (get_or handles i d).value ≡ Some next → map (λ s. Some s) front ≡ take i values → values_of handles ≡ values →
    map (λ s. Some s) (front ++ next ∷ []) ≡ take (i + 1) values
one_more handles i d next front values within some done kept =
    let len : i < length values = omega (arith, ap length kept, length-map handles (λ (handle : SubtreeHandle). handle.value)) in
    let at : get_or values i None ≡ Some next = value_at handles i d None values within kept ∙ some in
    map-append (λ s. Some s) front (next ∷ []) ∙ ap (λ l. l ++ (Some next ∷ [])) done ∙ ap (λ v. take i values ++ (v ∷ [])) (sym at)
    ∙ (rw (add-one) (sym (take-suc values i None len)))

-- as many subtrees are held as there are handles
pub held_length : (handles : List SubtreeHandle) (held : List Subtree) → values_of handles ≡ map (λ s. Some s) held → length held ≡ length handles
held_length handles held same =
    sym (length-map held (λ (s : Subtree). Some s)) ∙ ap length (sym same) ∙ length-map handles (λ (handle : SubtreeHandle). handle.value)

-- the handle at i holds the first of the subtrees from i on
pub held_from : (handles : List SubtreeHandle) (i : ℕ) (d : SubtreeHandle) (held : List Subtree) (next : Subtree) →
    i < length handles → (get_or handles i d).value ≡ Some next → values_of handles ≡ map (λ s. Some s) held → drop i held ≡ next ∷ drop (i + 1) held
held_from handles i d held next within is same =
    let len : i < length held = omega (arith, held_length handles held same) in
    let some : Some (get_or held i next) ≡ Some next =
    sym (get_or-map (λ (s : Subtree). Some s) held i next None len) ∙ value_at handles i d None (map (λ s. Some s) held) within same ∙ is in
    let first : get_or held i next ≡ next = cc in
    drop_more held i next len ∙ ap (λ (s : Subtree). s ∷ drop (i + 1) held) first

none_at : {A : Type 0} (kept : List A) (i : ℕ) (d : Option A) → i < length kept → get_or (map (λ a. Some a) kept) i d ≡ None → ⊥
none_at [] i d h e = absurd (omega (arith, h))
none_at (x ∷ kept) zero d h e = cc
none_at (x ∷ kept) (suc i) d h e = none_at kept i d (omega (arith, h)) e

-- an empty handle is among them
pub not_all : (handles : List SubtreeHandle) (i : ℕ) (d : SubtreeHandle) (values : List (Option Subtree)) →
    i < length handles → (get_or handles i d).value ≡ None → values_of handles ≡ values →
    (kept : List Subtree) → values ≡ map (λ s. Some s) kept → ⊥
not_all handles i d values within none same kept held =
    let len : i < length kept = omega (arith, ap length same, ap length held, length-map handles (λ (handle : SubtreeHandle). handle.value), length-map kept (λ (s : Subtree). Some s)) in
    none_at kept i None len (ap (λ vs. get_or vs i None) (sym held) ∙ value_at handles i d None values within same ∙ none)

-- so what is taken out of a handle is a subtree, if none is empty
pub taken_some : {B : Type 0} (value : B → Subtree) (handles : List SubtreeHandle) (i : ℕ) (d : SubtreeHandle) (held : List Subtree) (taken : Option B) →
    i < length handles → option_map value taken ≡ (get_or handles i d).value → values_of handles ≡ map (λ s. Some s) held → IsSome taken
taken_some value handles i d held None within is same = absurd (not_all handles i d (values_of handles) within (sym is) refl held same)
taken_some value handles i d held (Some b) within is same = refl

-- handles hold one list at most
pub held_once : (a b : List Subtree) → map (λ s. Some s) a ≡ map (λ s. Some s) b → a ≡ b
held_once [] [] e = refl
held_once [] (y ∷ b) e = cc
held_once (x ∷ a) [] e = cc
held_once (x ∷ a) (y ∷ b) e =
    let rest : map (λ s. Some s) a ≡ map (λ s. Some s) b = cc in let more : a ≡ b = held_once a b rest in let first : x ≡ y = cc in cc
