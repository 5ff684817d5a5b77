-- What a map with numbers as keys does to its sorted entries.
use Rattle.std.proofs.Common.{arith, nat_cmp, is_lt, is_eq, ◌≡◌, ◌<◌, ◌≤◌, ℕ, Bool, true, false, not, List, [], ◌∷◌, ◌++◌, drop, get_or, length, nat_lt, refl, sym, ap, subst, ◌∙◌}
use Rattle.std.specs.Prelude.{All, None, Some, cond, is_some}
use Rattle.std.specs.declared.cmp.Ordering.{Ordering}
use Rattle.std.proofs.lemmas.Bool.{true≢false}
use Rattle.std.specs.declared.cmp.Ordering.TheVariants.{Less, Equal, Greater}
use Rattle.std.specs.declared.ops.Bound.TheVariants.{Included, Unbounded}
use Rattle.std.specs.BTreeMap.{insert_entry, is_at}
use Rattle.std.specs.BTreeMap.Range.{entries_between}
use Rattle.std.specs.Map.{lookup, remove_entry, set_value}
use Rattle.std.specs.Ordering.{match_ordering}
use Rattle.std.specs.List.Sorted.{IsStrictlySortedBy}
use Rattle.std.specs.Map.{keys_of}
use Rattle.std.proofs.lemmas.List.Elements.{All-nil, All-cons, All-head, All-tail}
use Rattle.std.proofs.lemmas.List.{append-nil, length-append}
use Rattle.std.proofs.lemmas.Map.Keys.{sorted_tail}
use Rattle.std.proofs.lemmas.Map.Views.{All-after_first}

below : (k n : ℕ) → n < k → nat_cmp k n ≡ Greater
below k n h = grind (arith, h)

above : (k n : ℕ) → k < n → nat_cmp k n ≡ Less
above k n h = grind (arith, h)

at : (k : ℕ) → nat_cmp k k ≡ Equal
at k = grind arith

near : (k n : ℕ) → n ≤ k → not (is_lt (nat_cmp k n)) ≡ true
near k n h = grind (arith, h)

less_of : (a b c : ℕ) → a < b → nat_cmp b c ≡ Less → a < c
less_of a b c h g = grind (arith, h, g)

-- whether a key is the number
abbrev test : ℕ → ℕ → Bool
test k = is_at (nat_cmp k)

module _ {X : Type 0} (k : ℕ) where
  -- the entries at the number or before it
  abbrev pub upto : List (ℕ × X) → List (ℕ × X)
  upto entries = entries_between nat_cmp Unbounded (Included k) entries

  abbrev pub AllBelow : List (ℕ × X) → Type 0
  AllBelow entries = All (λ e. e.0 < k) entries

  abbrev pub AllAbove : List (ℕ × X) → Type 0
  AllAbove entries = All (λ e. k < e.0) entries

  pub upto-above : (back : List (ℕ × X)) → AllAbove back → upto back ≡ []
  upto-above [] all = refl
  upto-above (e ∷ back) all =
      ap (λ o. cond (not (is_lt o)) (e ∷ upto back) (upto back)) (above k e.0 (All-head (λ (e : ℕ × X). k < e.0) e back all))
      ∙ upto-above back (All-tail (λ (e : ℕ × X). k < e.0) e back all)

  pub upto-both : (front back : List (ℕ × X)) → All (λ (e : ℕ × X). e.0 ≤ k) front → AllAbove back → upto (front ++ back) ≡ front
  upto-both [] back low high = upto-above back high
  upto-both (e ∷ front) back low high =
      ap (λ b. cond b (e ∷ upto (front ++ back)) (upto (front ++ back))) (near k e.0 (All-head (λ (e : ℕ × X). e.0 ≤ k) e front low))
      ∙ ap (λ l. e ∷ l) (upto-both front back (All-tail (λ (e : ℕ × X). e.0 ≤ k) e front low) high)

  pub upto-near : (entries : List (ℕ × X)) → All (λ (e : ℕ × X). e.0 ≤ k) (upto entries)
  upto-near [] = All-nil (λ (e : ℕ × X). e.0 ≤ k)
  upto-near (e ∷ entries) = choose (upto-near entries) (is_lt (nat_cmp k e.0)) refl
    where
      choose : All (λ (e : ℕ × X). e.0 ≤ k) (upto entries) → (b : Bool) → is_lt (nat_cmp k e.0) ≡ b
          → All (λ (e : ℕ × X). e.0 ≤ k) (cond (not b) (e ∷ upto entries) (upto entries))
      choose others true past = others
      choose others false begun = All-cons (λ (e : ℕ × X). e.0 ≤ k) e (upto entries) (grind (arith, begun)) others

  -- the last of them is found
  pub upto-found : (entries front : List (ℕ × X)) (n : ℕ) (x : X) → upto entries ≡ front ++ (n, x) ∷ [] → is_some (lookup (test n) entries) ≡ true
  upto-found [] front n x is = absurd (omega (arith, ap length is, length-append front ((n, x) ∷ [])))
  upto-found (e ∷ entries) front n x is =
      choose (λ front is. upto-found entries front n x is) (is_lt (nat_cmp k e.0)) refl front is
    where
      later : (b : Bool) → is_some (lookup (test n) entries) ≡ true → is_some (cond b (Some e.1) (lookup (test n) entries)) ≡ true
      later true found = refl
      later false found = found

      choose : ((front : List (ℕ × X)) → upto entries ≡ front ++ (n, x) ∷ [] → is_some (lookup (test n) entries) ≡ true)
          → (b : Bool) → is_lt (nat_cmp k e.0) ≡ b
          → (front : List (ℕ × X)) → cond (not b) (e ∷ upto entries) (upto entries) ≡ front ++ (n, x) ∷ [] → is_some (lookup (test n) (e ∷ entries)) ≡ true
      choose others true past front is = later (is_eq (nat_cmp n e.0)) (others front is)
      choose others false begun [] is =
          let same : e.0 ≡ n = ap (λ (l : List (ℕ × X)). (get_or l 0 e).0) is in
          let there : is_eq (nat_cmp n e.0) ≡ true = grind (arith, same) in
          ap (λ b. is_some (cond b (Some e.1) (lookup (test n) entries))) there
      choose others false begun (first ∷ front) is = later (is_eq (nat_cmp n e.0)) (others front (ap (drop 1) is))

  lookup-above : (back : List (ℕ × X)) → AllAbove back → lookup (test k) back ≡ None
  lookup-above [] all = refl
  lookup-above (e ∷ back) all =
      ap (λ o. cond (is_eq o) (Some e.1) (lookup (test k) back)) (above k e.0 (All-head (λ (e : ℕ × X). k < e.0) e back all))
      ∙ lookup-above back (All-tail (λ (e : ℕ × X). k < e.0) e back all)

  lookup-below : (front back : List (ℕ × X)) → AllBelow front → lookup (test k) (front ++ back) ≡ lookup (test k) back
  lookup-below [] back all = refl
  lookup-below (e ∷ front) back all =
      ap (λ o. cond (is_eq o) (Some e.1) (lookup (test k) (front ++ back))) (below k e.0 (All-head (λ (e : ℕ × X). e.0 < k) e front all))
      ∙ lookup-below front back (All-tail (λ (e : ℕ × X). e.0 < k) e front all)

  pub lookup-none : (front back : List (ℕ × X)) → AllBelow front → AllAbove back → lookup (test k) (front ++ back) ≡ None
  lookup-none front back low high = lookup-below front back low ∙ lookup-above back high

  pub lookup-at : (front back : List (ℕ × X)) (x : X) → AllBelow front → lookup (test k) (front ++ (k, x) ∷ back) ≡ Some x
  lookup-at front back x low = lookup-below front ((k, x) ∷ back) low ∙ ap (λ o. cond (is_eq o) (Some x) (lookup (test k) back)) (at k)

  pub set_value-at : (front back : List (ℕ × X)) (x w : X) → AllBelow front → set_value (test k) (front ++ (k, x) ∷ back) w ≡ front ++ (k, w) ∷ back
  set_value-at [] back x w low = ap (λ o. cond (is_eq o) ((k, w) ∷ back) ((k, x) ∷ set_value (test k) back w)) (at k)
  set_value-at (e ∷ front) back x w low =
      ap (λ o. cond (is_eq o) ((e.0, w) ∷ front ++ (k, x) ∷ back) (e ∷ set_value (test k) (front ++ (k, x) ∷ back) w)) (below k e.0 (All-head (λ (e : ℕ × X). e.0 < k) e front low))
      ∙ ap (λ l. e ∷ l) (set_value-at front back x w (All-tail (λ (e : ℕ × X). e.0 < k) e front low))

  insert-above : (back : List (ℕ × X)) (w : X) → AllAbove back → insert_entry nat_cmp back k w ≡ (k, w) ∷ back
  insert-above [] w high = refl
  insert-above (e ∷ back) w high =
      ap (λ o. match_ordering o ((k, w) ∷ e ∷ back) ((e.0, w) ∷ back) (e ∷ insert_entry nat_cmp back k w)) (above k e.0 (All-head (λ (e : ℕ × X). k < e.0) e back high))

  pub insert-between : (front back : List (ℕ × X)) (w : X) → AllBelow front → AllAbove back → insert_entry nat_cmp (front ++ back) k w ≡ front ++ (k, w) ∷ back
  insert-between [] back w low high = insert-above back w high
  insert-between (e ∷ front) back w low high =
      ap (λ o. match_ordering o ((k, w) ∷ e ∷ front ++ back) ((e.0, w) ∷ front ++ back) (e ∷ insert_entry nat_cmp (front ++ back) k w)) (below k e.0 (All-head (λ (e : ℕ × X). e.0 < k) e front low))
      ∙ ap (λ l. e ∷ l) (insert-between front back w (All-tail (λ (e : ℕ × X). e.0 < k) e front low) high)

  -- entries up to one that is below the number are all below it
  pub all-before : (entries : List (ℕ × X)) (last : ℕ) → last < k → All (λ (n : ℕ). is_lt (nat_cmp last n) ≡ false) (keys_of entries) → AllBelow entries
  all-before [] last near all = All-nil (λ (e : ℕ × X). e.0 < k)
  all-before (e ∷ entries) last near all =
      let here = All-head (λ (n : ℕ). is_lt (nat_cmp last n) ≡ false) e.0 (keys_of entries) all in
      All-cons (λ (e : ℕ × X). e.0 < k) e entries (grind (arith, here, near))
      (all-before entries last near (All-tail (λ (n : ℕ). is_lt (nat_cmp last n) ≡ false) e.0 (keys_of entries) all))

  -- an entry after all others is put at the end
  pub insert-last : (entries : List (ℕ × X)) (w : X) → AllBelow entries → insert_entry nat_cmp entries k w ≡ entries ++ (k, w) ∷ []
  insert-last entries w low =
      ap (λ l. insert_entry nat_cmp l k w) (sym (append-nil entries))
      ∙ insert-between entries [] w low (All-nil (λ (e : ℕ × X). k < e.0))

  remove-below : (front back : List (ℕ × X)) → AllBelow front → remove_entry (test k) (front ++ back) ≡ front ++ remove_entry (test k) back
  remove-below [] back low = refl
  remove-below (e ∷ front) back low =
      ap (λ o. cond (is_eq o) (front ++ back) (e ∷ remove_entry (test k) (front ++ back))) (below k e.0 (All-head (λ (e : ℕ × X). e.0 < k) e front low))
      ∙ ap (λ l. e ∷ l) (remove-below front back (All-tail (λ (e : ℕ × X). e.0 < k) e front low))

  remove-above : (back : List (ℕ × X)) → AllAbove back → remove_entry (test k) back ≡ back
  remove-above [] high = refl
  remove-above (e ∷ back) high =
      ap (λ o. cond (is_eq o) back (e ∷ remove_entry (test k) back)) (above k e.0 (All-head (λ (e : ℕ × X). k < e.0) e back high))
      ∙ ap (λ l. e ∷ l) (remove-above back (All-tail (λ (e : ℕ × X). k < e.0) e back high))

  pub remove-none : (front back : List (ℕ × X)) → AllBelow front → AllAbove back → remove_entry (test k) (front ++ back) ≡ front ++ back
  remove-none front back low high = remove-below front back low ∙ ap (λ l. front ++ l) (remove-above back high)

  pub remove-at : (front back : List (ℕ × X)) (x : X) → AllBelow front → remove_entry (test k) (front ++ (k, x) ∷ back) ≡ front ++ back
  remove-at front back x low = remove-below front ((k, x) ∷ back) low ∙ ap (λ o. front ++ cond (is_eq o) back ((k, x) ∷ remove_entry (test k) back)) (at k)

  -- entries in order are cut after the last one at the number or before it
  all-above : (e : ℕ × X) (entries : List (ℕ × X)) → k < e.0 → All (λ (n : ℕ). nat_cmp e.0 n ≡ Less) (keys_of entries)
      → All (λ (e : ℕ × X). k < e.0) entries
  all-above e [] begins after = All-nil (λ (e : ℕ × X). k < e.0)
  all-above e (next ∷ entries) begins after =
      All-cons (λ (e : ℕ × X). k < e.0) next entries
      (less_of k e.0 next.0 begins (All-head (λ (n : ℕ). nat_cmp e.0 n ≡ Less) next.0 (keys_of entries) after))
      (all-above e entries begins (All-tail (λ (n : ℕ). nat_cmp e.0 n ≡ Less) next.0 (keys_of entries) after))

  abbrev pub IsCut : List (ℕ × X) → Type 0
  IsCut entries = (back : List (ℕ × X)) × (entries ≡ upto entries ++ back)
      × All (λ (e : ℕ × X). e.0 ≤ k) (upto entries) × AllAbove back

  pub cut : (entries : List (ℕ × X)) → IsStrictlySortedBy nat_cmp (keys_of entries) → IsCut entries
  cut [] sorted = ([], refl, All-nil (λ (e : ℕ × X). e.0 ≤ k), All-nil (λ (e : ℕ × X). k < e.0))
  cut (e ∷ entries) sorted = choose (cut entries (sorted_tail nat_cmp e.0 (keys_of entries) sorted)) (nat_lt k e.0) refl
    where
      choose : IsCut entries → (b : Bool) → nat_lt k e.0 ≡ b → IsCut (e ∷ entries)
      choose others true past =
          let begins : k < e.0 = grind (arith, past) in
          let all = All-cons (λ (e : ℕ × X). k < e.0) e entries begins
          (all-above e entries begins (All-after_first nat_cmp e.0 (keys_of entries) sorted)) in
          let none = upto-above (e ∷ entries) all in (
            e ∷ entries,
            ap (λ (l : List (ℕ × X)). l ++ e ∷ entries) (sym none),
            subst (λ (l : List (ℕ × X)). All (λ (e : ℕ × X). e.0 ≤ k) l) (sym none) (All-nil (λ (e : ℕ × X). e.0 ≤ k)),
            all,
          )
      choose others false not_past =
          let begins : e.0 ≤ k = grind (arith, not_past) in
          let (back, is, low, high) = others in
          let one : upto (e ∷ entries) ≡ e ∷ upto entries = ap (λ b. cond b (e ∷ upto entries) (upto entries)) (near k e.0 begins) in (
            back,
            ap (λ (l : List (ℕ × X)). e ∷ l) is ∙ ap (λ (l : List (ℕ × X)). l ++ back) (sym one),
            subst (λ (l : List (ℕ × X)). All (λ (e : ℕ × X). e.0 ≤ k) l) (sym one) (All-cons (λ (e : ℕ × X). e.0 ≤ k) e (upto entries) begins low),
            high,
          )

-- an entry that was put in is taken out again
pub remove-inserted : {X : Type 0} (k : ℕ) (entries : List (ℕ × X)) (w : X) → lookup (is_at (nat_cmp k)) entries ≡ None
    → remove_entry (is_at (nat_cmp k)) (insert_entry nat_cmp entries k w) ≡ entries
remove-inserted k [] w none = ap (λ o. cond (is_eq o) [] ((k, w) ∷ [])) (at k)
remove-inserted {X} k (e ∷ entries) w none = choose (λ absent. remove-inserted k entries w absent) (nat_cmp k e.0) refl
  where
    test : ℕ → Bool
    test = is_at (nat_cmp k)

    choose : (lookup test entries ≡ None → remove_entry test (insert_entry nat_cmp entries k w) ≡ entries) → (o : Ordering) → nat_cmp k e.0 ≡ o
        → remove_entry test (insert_entry nat_cmp (e ∷ entries) k w) ≡ e ∷ entries
    choose others Less is =
        ap (λ o. remove_entry test (match_ordering o ((k, w) ∷ e ∷ entries) ((e.0, w) ∷ entries) (e ∷ insert_entry nat_cmp entries k w))) is
        ∙ ap (λ o. cond (is_eq o) (e ∷ entries) ((k, w) ∷ remove_entry test (e ∷ entries))) (at k)
    choose others Equal is = absurd (true≢false (ap is_some (sym (ap (λ o. cond (is_eq o) (Some e.1) (lookup test entries)) is) ∙ none)))
    choose others Greater is =
        ap (λ o. remove_entry test (match_ordering o ((k, w) ∷ e ∷ entries) ((e.0, w) ∷ entries) (e ∷ insert_entry nat_cmp entries k w))) is
        ∙ ap (λ o. cond (is_eq o) (insert_entry nat_cmp entries k w) (e ∷ remove_entry test (insert_entry nat_cmp entries k w))) is
        ∙ ap (λ l. e ∷ l) (others (sym (ap (λ o. cond (is_eq o) (Some e.1) (lookup test entries)) is) ∙ none))
