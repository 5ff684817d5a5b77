-- Hashes by rising order: one list for one set.
use Rattle.std.proofs.Common.{arith, ◌≡◌, ◌+◌, Bool, true, false, List, [], ◌∷◌, ◌||◌, get_or, refl, sym, ap, subst, ◌∙◌}
use Rattle.std.specs.Cmp.Lexicographic.{same_text, texts_ties}
use Rattle.std.specs.List.{AllByRecursion, IsDistinct}
use Rattle.std.specs.List.Sorted.{IsSorted, IsStrictlySortedBy}
use Rattle.std.specs.Ordering.{is_eq, is_lt, ordering_reverse}
use Rattle.std.specs.declared.cmp.Ordering.{Ordering}
use Rattle.std.specs.declared.cmp.Ordering.TheVariants.{Less, Equal, Greater}
use Rattle.std.proofs.lemmas.Bool.{true≢false}
use Rattle.std.proofs.lemmas.Cmp.{nat_list_cmp_total, nat_list_eq_equiv}
use Rattle.std.proofs.lemmas.Map.Keys.{apart_from_distinct, sorted_from_all_adjacent, sorted_head, sorted_tail}
use Rattle.xet_hash.specs.HashForms.{hash_cmp}
use Rattle.upload_session.specs.Hashes.{Hash, hash_eq, is_among}

-- ---- sorted hashes, each once

less : (a b : Hash) (o : Ordering) → hash_cmp a b ≡ o → is_lt (hash_cmp b a) ≡ false → hash_eq a b ≡ false → hash_cmp a b ≡ Less
less a b Less is later apart = is
less a b Equal is later apart = absurd (true≢false (sym (texts_ties a b ∙ ap is_eq is) ∙ apart))
less a b Greater is later apart = absurd (true≢false (sym (ap is_lt (nat_list_cmp_total.antisymm b a ∙ ap ordering_reverse is)) ∙ later))

pub rising : (hashes : List Hash) → IsSorted hash_cmp hashes → IsDistinct hash_eq hashes → IsStrictlySortedBy hash_cmp hashes
rising hashes sorted distinct =
    sorted_from_all_adjacent nat_list_cmp_total hashes []
    (λ k within.
    less (get_or hashes k []) (get_or hashes (k + 1) []) _ refl (sorted k [] (omega arith) within)
    (apart_from_distinct hash_eq hashes k (k + 1) [] distinct (omega arith) within))

-- ---- one list

-- a hash that is below all others isn't among them
not_among : (x : Hash) (ys : List Hash) → AllByRecursion (λ y. hash_cmp x y ≡ Less) ys → is_among ys x ≡ false
not_among x [] below = refl
not_among x (y ∷ ys) below =
    ap (λ b. b || is_among ys x) (texts_ties x y ∙ ap is_eq below.0) ∙ not_among x ys below.1

below_all : (x y : Hash) (ys : List Hash) → hash_cmp x y ≡ Less → AllByRecursion (λ z. hash_cmp y z ≡ Less) ys
    → AllByRecursion (λ z. hash_cmp x z ≡ Less) ys
below_all x y [] first below = tt
below_all x y (z ∷ ys) first below = (nat_list_cmp_total.trans x y z first below.0, below_all x y ys first below.1)

its_own : (x : Hash) (xs : List Hash) → is_among (x ∷ xs) x ≡ true
its_own x xs = ap (λ b. b || is_among xs x) (nat_list_eq_equiv.refl x)

-- the first of a list isn't below that of another one with the same hashes
not_below : (x y : Hash) (xs ys : List Hash) → IsStrictlySortedBy hash_cmp (y ∷ ys)
    → ((hash : Hash) → is_among (x ∷ xs) hash ≡ is_among (y ∷ ys) hash) → hash_cmp x y ≡ Less → ⊥
not_below x y xs ys sorted same first =
    let below = below_all x y ys first (sorted_head hash_cmp y ys sorted) in
    true≢false (sym (its_own x xs) ∙ same x ∙ not_among x (y ∷ ys) (first, below))

one_head : (x y : Hash) (xs ys : List Hash) (o : Ordering) → hash_cmp x y ≡ o → IsStrictlySortedBy hash_cmp (x ∷ xs)
    → IsStrictlySortedBy hash_cmp (y ∷ ys) → ((hash : Hash) → is_among (x ∷ xs) hash ≡ is_among (y ∷ ys) hash) → x ≡ y
one_head x y xs ys Less is sorted_xs sorted_ys same = absurd (not_below x y xs ys sorted_ys same is)
one_head x y xs ys Equal is sorted_xs sorted_ys same = same_text x y (sym (texts_ties x y ∙ ap is_eq is))
one_head x y xs ys Greater is sorted_xs sorted_ys same =
    absurd (not_below y x ys xs sorted_xs (λ hash. sym (same hash)) (nat_list_cmp_total.antisymm y x ∙ ap ordering_reverse is))

same_tails : (x : Hash) (xs ys : List Hash) → IsStrictlySortedBy hash_cmp (x ∷ xs) → IsStrictlySortedBy hash_cmp (x ∷ ys)
    → ((hash : Hash) → is_among (x ∷ xs) hash ≡ is_among (x ∷ ys) hash) → (hash : Hash) → is_among xs hash ≡ is_among ys hash
same_tails x xs ys sorted_xs sorted_ys same hash = choose (hash_eq hash x) refl
  where
    choose : (b : Bool) → hash_eq hash x ≡ b → is_among xs hash ≡ is_among ys hash
    choose true is =
        let at : hash ≡ x = same_text hash x (sym is) in
        subst (λ (h : Hash). is_among xs h ≡ is_among ys h) (sym at)
        (not_among x xs (sorted_head hash_cmp x xs sorted_xs) ∙ sym (not_among x ys (sorted_head hash_cmp x ys sorted_ys)))
    choose false is =
        sym (ap (λ b. b || is_among xs hash) is) ∙ same hash ∙ ap (λ b. b || is_among ys hash) is

pub one_rising : (xs ys : List Hash) → IsStrictlySortedBy hash_cmp xs → IsStrictlySortedBy hash_cmp ys
    → ((hash : Hash) → is_among xs hash ≡ is_among ys hash) → xs ≡ ys
one_rising [] [] sorted_xs sorted_ys same = refl
one_rising [] (y ∷ ys) sorted_xs sorted_ys same = absurd (true≢false (sym (its_own y ys) ∙ sym (same y)))
one_rising (x ∷ xs) [] sorted_xs sorted_ys same = absurd (true≢false (sym (its_own x xs) ∙ same x))
one_rising (x ∷ xs) (y ∷ ys) sorted_xs sorted_ys same =
    let head = one_head x y xs ys _ refl sorted_xs sorted_ys same in
    let ys_sorted = subst (λ (first : Hash). IsStrictlySortedBy hash_cmp (first ∷ ys)) (sym head) sorted_ys in
    let alike = subst (λ (first : Hash). (hash : Hash) → is_among (x ∷ xs) hash ≡ is_among (first ∷ ys) hash) (sym head) same in
    let tail = one_rising xs ys (sorted_tail hash_cmp x xs sorted_xs) (sorted_tail hash_cmp y ys sorted_ys) (same_tails x xs ys sorted_xs ys_sorted alike) in
    λ i. head i ∷ tail i
