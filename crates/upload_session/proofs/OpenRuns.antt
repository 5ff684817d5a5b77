-- The marks and the sizes of runs when their map changes.
use Rattle.std.proofs.Common.{arith, nat_cmp, is_eq, ◌≡◌, ◌≢◌, ◌+◌, ◌≤◌, ℕ, Bool, true, false, List, [], ◌∷◌, ◌++◌, refl, sym, ap, subst, ◌∙◌}
use Rattle.std.specs.Prelude.{Option, None, Some, IfSome, cond, is_some, option_map, slice_get, unwrap_or}
use Rattle.std.specs.declared.cmp.Ordering.{Ordering}
use Rattle.std.specs.declared.cmp.Ordering.TheVariants.{Less, Equal, Greater}
use Rattle.std.specs.BTreeMap.{insert_entry, is_at}
use Rattle.std.specs.List.Sorted.{IsStrictlySortedBy}
use Rattle.std.specs.Map.{keys_of, lookup, remove_entry, set_value, values_of}
use Rattle.std.specs.Ordering.{match_ordering}
use Rattle.std.proofs.lemmas.Bool.{true≢false}
use Rattle.std.proofs.lemmas.Cmp.{nat_cmp_total}
use Rattle.std.proofs.lemmas.List.Elements.{All-nil, All-cons, All-head, All-tail}
use Rattle.std.proofs.lemmas.Map.Entries.{sum_by-insert_entry, sum_by-remove_entry, sum_by-set_value}
use Rattle.std.proofs.lemmas.Map.Views.{All-map-remove_entry, All-values-insert_entry, All-values-set_value, IfSome-lookup_from_All}
use Rattle.std.proofs.lemmas.Option.{same_Some}
use Rattle.chunk_ranges.specs.declared.chunk_range.ChunkRange as chunk_range
use Rattle.upload_session.specs.declared.runs.Run.{Run}
use Rattle.upload_session.specs.Session.{PlacedRun}
use Rattle.upload_session.specs.Steps.OpenRuns.{IsOpen, AreOpen, AreOpenUpTo, sizes_of, size_at}

-- whether a key is the number
abbrev test : ℕ → ℕ → Bool
test k = is_at (nat_cmp k)

here : (k : ℕ) → is_eq (nat_cmp k k) ≡ true
here k = grind arith

-- a key that is one number isn't another
elsewhere : (k m n : ℕ) → k ≢ m → is_eq (nat_cmp m n) ≡ true → is_eq (nat_cmp k n) ≡ false
elsewhere k m n apart h = grind (arith, h, apart)

module _ {X : Type 0} (k m : ℕ) (apart : k ≢ m) where
  -- what stands at one number stays where the entry at another is changed
  pub lookup-removed : (entries : List (ℕ × X)) → lookup (test k) (remove_entry (test m) entries) ≡ lookup (test k) entries
  lookup-removed [] = refl
  lookup-removed (e ∷ entries) = choose (lookup-removed entries) (is_eq (nat_cmp m e.0)) refl
    where
      choose : lookup (test k) (remove_entry (test m) entries) ≡ lookup (test k) entries → (b : Bool) → is_eq (nat_cmp m e.0) ≡ b
          → lookup (test k) (cond b entries (e ∷ remove_entry (test m) entries)) ≡ lookup (test k) (e ∷ entries)
      choose others true at = sym (ap (λ b. cond b (Some e.1) (lookup (test k) entries)) (elsewhere k m e.0 apart at))
      choose others false at = ap (λ found. cond (test k e.0) (Some e.1) found) others

  pub lookup-set : (entries : List (ℕ × X)) (w : X) → lookup (test k) (set_value (test m) entries w) ≡ lookup (test k) entries
  lookup-set [] w = refl
  lookup-set (e ∷ entries) w = choose (lookup-set entries w) (is_eq (nat_cmp m e.0)) refl
    where
      choose : lookup (test k) (set_value (test m) entries w) ≡ lookup (test k) entries → (b : Bool) → is_eq (nat_cmp m e.0) ≡ b
          → lookup (test k) (cond b ((e.0, w) ∷ entries) (e ∷ set_value (test m) entries w)) ≡ lookup (test k) (e ∷ entries)
      choose others true at =
          let other = elsewhere k m e.0 apart at in
          ap (λ b. cond b (Some w) (lookup (test k) entries)) other ∙ sym (ap (λ b. cond b (Some e.1) (lookup (test k) entries)) other)
      choose others false at = ap (λ found. cond (test k e.0) (Some e.1) found) others

  pub lookup-inserted : (entries : List (ℕ × X)) (w : X) → lookup (test k) (insert_entry nat_cmp entries m w) ≡ lookup (test k) entries
  lookup-inserted [] w = ap (λ b. cond b (Some w) None) (elsewhere k m m apart (here m))
  lookup-inserted (e ∷ entries) w = choose (lookup-inserted entries w) (nat_cmp m e.0) refl
    where
      choose : lookup (test k) (insert_entry nat_cmp entries m w) ≡ lookup (test k) entries → (o : Ordering) → nat_cmp m e.0 ≡ o
          → lookup (test k) (match_ordering o ((m, w) ∷ e ∷ entries) ((e.0, w) ∷ entries) (e ∷ insert_entry nat_cmp entries m w)) ≡ lookup (test k) (e ∷ entries)
      choose others Less at = ap (λ b. cond b (Some w) (lookup (test k) (e ∷ entries))) (elsewhere k m m apart (here m))
      choose others Equal at =
          let other = elsewhere k m e.0 apart (ap is_eq at) in
          ap (λ b. cond b (Some w) (lookup (test k) entries)) other ∙ sym (ap (λ b. cond b (Some e.1) (lookup (test k) entries)) other)
      choose others Greater at = ap (λ found. cond (test k e.0) (Some e.1) found) others

-- what is put in is found
pub lookup-put : {X : Type 0} (k : ℕ) (entries : List (ℕ × X)) (w : X) → is_some (lookup (test k) (insert_entry nat_cmp entries k w)) ≡ true
lookup-put k [] w = ap (λ b. is_some (cond b (Some w) None)) (here k)
lookup-put {X} k (e ∷ entries) w = choose (lookup-put k entries w) (nat_cmp k e.0) refl
  where
    choose : is_some (lookup (test k) (insert_entry nat_cmp entries k w)) ≡ true → (o : Ordering) → nat_cmp k e.0 ≡ o
        → is_some (lookup (test k) (match_ordering o ((k, w) ∷ e ∷ entries) ((e.0, w) ∷ entries) (e ∷ insert_entry nat_cmp entries k w))) ≡ true
    choose others Less at = ap (λ b. is_some (cond b (Some w) (lookup (test k) (e ∷ entries)))) (here k)
    choose others Equal at = ap (λ o. is_some (cond (is_eq o) (Some w) (lookup (test k) entries))) at
    choose others Greater at =
        ap (λ o. is_some (cond (is_eq o) (Some e.1) (lookup (test k) (insert_entry nat_cmp entries k w)))) at ∙ others

-- a value that is set is found
pub lookup-changed : {X : Type 0} (k : ℕ) (entries : List (ℕ × X)) (v w : X) → lookup (test k) entries ≡ Some v → lookup (test k) (set_value (test k) entries w) ≡ Some w
lookup-changed k [] v w found = absurd (true≢false (ap is_some (sym found)))
lookup-changed {X} k (e ∷ entries) v w found = choose (λ found. lookup-changed k entries v w found) (is_eq (nat_cmp k e.0)) refl
  where
    choose : (lookup (test k) entries ≡ Some v → lookup (test k) (set_value (test k) entries w) ≡ Some w) → (b : Bool) → is_eq (nat_cmp k e.0) ≡ b
        → lookup (test k) (cond b ((e.0, w) ∷ entries) (e ∷ set_value (test k) entries w)) ≡ Some w
    choose others true at = ap (λ b. cond b (Some w) (lookup (test k) entries)) at
    choose others false at =
        ap (λ b. cond b (Some e.1) (lookup (test k) (set_value (test k) entries w))) at
        ∙ others (sym (ap (λ b. cond b (Some e.1) (lookup (test k) entries)) at) ∙ found)

module _ {C A : Type 0} (kind : chunk_range.Ghosts C A) where
  abbrev size : Run C → ℕ
  size run = kind.total run.range

  abbrev IsOpenRun : Run C → Type 0
  IsOpenRun run = IsOpen kind run.range

  -- the size at a position, by what stands there
  pub size-at : (k : ℕ) (runs : List (PlacedRun C)) (found : Option (Run C)) → lookup (test k) runs ≡ found
      → size_at kind k runs ≡ unwrap_or (option_map size found) 0
  size-at k runs found is = ap (λ found. unwrap_or (option_map size found) 0) is

  pub size-same : (k : ℕ) (runs other : List (PlacedRun C)) → lookup (test k) runs ≡ lookup (test k) other → size_at kind k runs ≡ size_at kind k other
  size-same k runs other is = ap (λ found. unwrap_or (option_map size found) 0) is

  -- one run is no larger than all, and so are two
  pub one-within : (k : ℕ) (runs : List (PlacedRun C)) → size_at kind k runs ≤ sizes_of kind runs
  one-within k runs = omega (arith, sum_by-remove_entry size (test k) runs)

  pub two-within : (k m : ℕ) → k ≢ m → (runs : List (PlacedRun C)) → size_at kind k runs + size_at kind m runs ≤ sizes_of kind runs
  two-within k m apart runs =
      let others = remove_entry (test m) runs in
      omega (arith, sum_by-remove_entry size (test m) runs, one-within k others, size-same k others runs (lookup-removed k m apart runs))

  -- so are runs and one more
  pub open-push : (runs : List (PlacedRun C)) (run : PlacedRun C) → AreOpen kind runs → IsOpen kind run.1.range → AreOpen kind (runs ++ run ∷ [])
  open-push [] run opened of_run = All-cons IsOpenRun run.1 [] of_run (All-nil IsOpenRun)
  open-push (first ∷ runs) run opened of_run =
      All-cons IsOpenRun first.1 (values_of (runs ++ run ∷ [])) (All-head IsOpenRun first.1 (values_of runs) opened)
      (open-push runs run (All-tail IsOpenRun first.1 (values_of runs) opened) of_run)

  -- each run is open
  pub open_at : (k : ℕ) (runs : List (PlacedRun C)) (run : Run C) → AreOpen kind runs → lookup (test k) runs ≡ Some run → IsOpen kind run.range
  open_at k runs run opened is = subst (λ found. IfSome found IsOpenRun) is (IfSome-lookup_from_All IsOpenRun (test k) runs opened)

  pub first_open : (runs : List (PlacedRun C)) (run : PlacedRun C) → AreOpen kind runs → slice_get runs 0 ≡ Some run → IsOpen kind run.1.range
  first_open [] run opened is = absurd (true≢false (sym (ap is_some is)))
  first_open (first ∷ runs) run opened is =
      subst (λ (run : PlacedRun C). IsOpen kind run.1.range) (same_Some _ _ is) (All-head IsOpenRun first.1 (values_of runs) opened)

  module _ (runs : List (PlacedRun C)) (opened : AreOpen kind runs) (run : Run C) (of_run : IsOpen kind run.range) where
    -- a run changes, and that at another position is taken out
    pub merged-open : (begin after : ℕ) → after ≢ begin → (last : Run C) → lookup (test begin) runs ≡ Some last
        → (more : ℕ) → size run ≡ size last + (more + size_at kind after runs)
        → AreOpenUpTo kind (sizes_of kind runs + more) (remove_entry (test after) (set_value (test begin) runs run))
    merged-open begin after apart last is more sum =
        let set = set_value (test begin) runs run in (
          All-map-remove_entry (test after) (λ (e : PlacedRun C). e.1) IsOpenRun set (All-values-set_value (test begin) IsOpenRun runs run opened of_run),
          omega (
            arith,
            sum,
            sum_by-set_value size (test begin) runs last run is,
            sum_by-remove_entry size (test after) set,
            size-same after set runs (lookup-set after begin apart runs run),
          ),
        )

    -- a run is put in
    pub inserted-open : (first : ℕ) → IsStrictlySortedBy nat_cmp (keys_of runs)
        → AreOpenUpTo kind (sizes_of kind runs + size run) (insert_entry nat_cmp runs first run)
    inserted-open first sorted = (
      All-values-insert_entry nat_cmp first run IsOpenRun runs opened of_run,
      omega (arith, sum_by-insert_entry size nat_cmp_total runs first run sorted),
    )

    -- then that at another position is taken out
    pub alone-open : (first after : ℕ) → after ≢ first → IsStrictlySortedBy nat_cmp (keys_of runs)
        → (more : ℕ) → size run ≡ more + size_at kind after runs
        → AreOpenUpTo kind (sizes_of kind runs + more) (remove_entry (test after) (insert_entry nat_cmp runs first run))
    alone-open first after apart sorted more sum =
        let put = insert_entry nat_cmp runs first run in
        let (all_open, all) = inserted-open first sorted in (
          All-map-remove_entry (test after) (λ (e : PlacedRun C). e.1) IsOpenRun put all_open,
          omega (arith, sum, all, sum_by-remove_entry size (test after) put, size-same after put runs (lookup-inserted after first apart runs run)),
        )

    -- a run changes, and comes to stand at another position, in the place of what stands there
    module _ (begin after : ℕ) (apart : begin ≢ after) (next : Run C) (is : lookup (test after) runs ≡ Some next) (more : ℕ) (sum : size run ≡ more + size next) where
      abbrev changed : List (PlacedRun C)
      changed = set_value (test after) runs run

      abbrev removed : List (PlacedRun C)
      removed = remove_entry (test after) changed

      removed-open : AreOpen kind removed
      removed-open = All-map-remove_entry (test after) (λ (e : PlacedRun C). e.1) IsOpenRun changed (All-values-set_value (test after) IsOpenRun runs run opened of_run)

      removed-sizes : sizes_of kind removed + size next ≡ sizes_of kind runs
      removed-sizes =
          omega (
            arith,
            sum,
            sum_by-set_value size (test after) runs next run is,
            sum_by-remove_entry size (test after) changed,
            size-at after changed (Some run) (lookup-changed after runs next run is),
          )

      at-begin : lookup (test begin) removed ≡ lookup (test begin) runs
      at-begin = lookup-removed begin after apart changed ∙ lookup-set begin after apart runs run

      pub moved-open : (last : Run C) → lookup (test begin) removed ≡ Some last
          → AreOpen kind (set_value (test begin) removed run)
          × (sizes_of kind (set_value (test begin) removed run) + size_at kind begin runs ≤ sizes_of kind runs + more)
      moved-open last there = (
        All-values-set_value (test begin) IsOpenRun removed run removed-open of_run,
        omega (arith, sum, removed-sizes, sum_by-set_value size (test begin) removed last run there, size-at begin runs (Some last) (sym at-begin ∙ there)),
      )
