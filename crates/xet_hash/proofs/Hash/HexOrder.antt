-- The order of the hex texts of hashes is the order of the lists of their words.
use Rattle.std.proofs.Common.{◌≡◌, ℕ, zero, suc, ◌/◌, ◌%◌, ◌<◌, ◌^◌, All, List, [], ◌∷◌, ◌++◌, length, refl, sym, ap, ◌∙◌, arith}
use Rattle.std.specs.Ordering.{nat_cmp, ordering_then}
use Rattle.std.specs.Cmp.{nat_cmp_is}
use Rattle.std.specs.Cmp.Lexicographic.{slice_cmp}
use Rattle.std.specs.List.{flat_map}
use Rattle.std.specs.declared.cmp.Ordering.{Ordering}
use Rattle.std.specs.declared.cmp.Ordering.TheVariants.{Less, Equal, Greater}
use Rattle.std.proofs.lemmas.List.{length-append}
use Rattle.std.proofs.Math.Nat.{div-div-eq-div-mul}
use Rattle.std.proofs.lemmas.Cmp.{ranked}
use Rattle.std.proofs.lemmas.Bool.Decides.{nat_tests}
use Rattle.xet_hash.specs.Hash.{hex_digit, hex_text, IsHash}
use Rattle.xet_hash.specs.HashForms.{hash_cmp}
use Rattle.xet_hash.proofs.Hash.HexDigits.{lower_digit}
use Rattle.xet_hash.proofs.Hash.HexText.{hex_text-four, word_text}

-- ---- Lists of one length, one after the other

ordering_then-assoc : (o p q : Ordering) → ordering_then (ordering_then o p) q ≡ ordering_then o (ordering_then p q)
ordering_then-assoc Less p q = refl
ordering_then-assoc Equal p q = refl
ordering_then-assoc Greater p q = refl

ordering_then-equal : (o : Ordering) → ordering_then o Equal ≡ o
ordering_then-equal Less = refl
ordering_then-equal Equal = refl
ordering_then-equal Greater = refl

slice_cmp-append : (xs ys vs ws : List ℕ) → length xs ≡ length ys
    → slice_cmp nat_cmp (xs ++ vs) (ys ++ ws) ≡ ordering_then (slice_cmp nat_cmp xs ys) (slice_cmp nat_cmp vs ws)
slice_cmp-append [] [] vs ws e = refl
slice_cmp-append [] (y ∷ ys) vs ws e = absurd (omega arith)
slice_cmp-append (x ∷ xs) [] vs ws e = absurd (omega arith)
slice_cmp-append (x ∷ xs) (y ∷ ys) vs ws e =
    ap (ordering_then (nat_cmp x y)) (slice_cmp-append xs ys vs ws (omega arith))
    ∙ sym (ordering_then-assoc (nat_cmp x y) (slice_cmp nat_cmp xs ys) (slice_cmp nat_cmp vs ws))

-- ---- One digit

hex_digit-less : (x y : ℕ) → x < y → y < 16 → hex_digit x < hex_digit y
hex_digit-less x y lt small =
    let below : x < 16 = omega arith in
    rw (lower_digit x below, lower_digit y small) (grind (arith, nat_tests))

hex_digit-cmp : (x y : ℕ) → x < 16 → y < 16 → nat_cmp (hex_digit x) (hex_digit y) ≡ nat_cmp x y
hex_digit-cmp x y hx hy = sym (by (nat_cmp x y) refl)
  where
    by : (o : Ordering) → o ≡ nat_cmp x y → o ≡ nat_cmp (hex_digit x) (hex_digit y)
    by Less e = nat_cmp_is _ _ Less (hex_digit-less x y (ranked x y Less e) hy)
    by Equal e = nat_cmp_is _ _ Equal (ap hex_digit (ranked x y Equal e))
    by Greater e = nat_cmp_is _ _ Greater (hex_digit-less y x (ranked x y Greater e) hx)

-- ---- The digits of a number

-- numbers by their high part and their last digit
nat_cmp-parts : (n m : ℕ) → ordering_then (nat_cmp (n / 16) (m / 16)) (nat_cmp (n % 16) (m % 16)) ≡ nat_cmp n m
nat_cmp-parts n m = by (nat_cmp (n / 16) (m / 16)) (nat_cmp (n % 16) (m % 16)) refl refl
  where
    by : (o p : Ordering) → o ≡ nat_cmp (n / 16) (m / 16) → p ≡ nat_cmp (n % 16) (m % 16) → ordering_then o p ≡ nat_cmp n m
    by Less p e f = let h : n / 16 < m / 16 = ranked _ _ Less e in nat_cmp_is n m Less (omega arith)
    by Greater p e f = let h : m / 16 < n / 16 = ranked _ _ Greater e in nat_cmp_is n m Greater (omega arith)
    by Equal Less e f =
        let h : n / 16 ≡ m / 16 = ranked _ _ Equal e in
        let l : n % 16 < m % 16 = ranked _ _ Less f in
        nat_cmp_is n m Less (omega arith)
    by Equal Equal e f =
        let h : n / 16 ≡ m / 16 = ranked _ _ Equal e in
        let l : n % 16 ≡ m % 16 = ranked _ _ Equal f in
        nat_cmp_is n m Equal (omega arith)
    by Equal Greater e f =
        let h : n / 16 ≡ m / 16 = ranked _ _ Equal e in
        let l : m % 16 < n % 16 = ranked _ _ Greater f in
        nat_cmp_is n m Greater (omega arith)

-- the last k digits of a number
abbrev digits : ℕ → ℕ → List ℕ
digits zero n = []
digits (suc k) n = digits k (n / 16) ++ hex_digit (n % 16) ∷ []

length-digits : (k n m : ℕ) → length (digits k n) ≡ length (digits k m)
length-digits zero n m = refl
length-digits (suc k) n m =
    let e = length-digits k (n / 16) (m / 16) in
    simp length-append (omega (arith, e))

digits-cmp : (k n m : ℕ) → n < 16 ^ k → m < 16 ^ k → slice_cmp nat_cmp (digits k n) (digits k m) ≡ nat_cmp n m
digits-cmp zero n m hn hm = nat_cmp_is n m Equal (omega arith)
digits-cmp (suc k) n m hn hm =
    slice_cmp-append (digits k (n / 16)) (digits k (m / 16)) _ _ (length-digits k (n / 16) (m / 16))
    ∙ ap (λ o. ordering_then o (ordering_then (nat_cmp (hex_digit (n % 16)) (hex_digit (m % 16))) Equal)) (digits-cmp k (n / 16) (m / 16) (omega arith) (omega arith))
    ∙ ap (ordering_then (nat_cmp (n / 16) (m / 16))) (ordering_then-equal _ ∙ hex_digit-cmp (n % 16) (m % 16) (omega arith) (omega arith))
    ∙ nat_cmp-parts n m

-- ---- Words, and hashes

word_text-digits : (w : ℕ) → word_text w ≡ digits 16 w
word_text-digits w = let one : w / 1 ≡ w = omega arith in simp (div-div-eq-div-mul, one)

word_text-cmp : (v w : ℕ) → v < 2 ^ 64 → w < 2 ^ 64 → slice_cmp nat_cmp (word_text v) (word_text w) ≡ nat_cmp v w
word_text-cmp v w hv hw =
    ap (λ (l : List ℕ). slice_cmp nat_cmp l (word_text w)) (word_text-digits v)
    ∙ ap (λ (l : List ℕ). slice_cmp nat_cmp (digits 16 v) l) (word_text-digits w)
    ∙ digits-cmp 16 v w hv hw

words_text-cmp : (vs ws : List ℕ) → length vs ≡ length ws → All (λ w. w < 2 ^ 64) vs → All (λ w. w < 2 ^ 64) ws
    → slice_cmp nat_cmp (flat_map word_text vs) (flat_map word_text ws) ≡ slice_cmp nat_cmp vs ws
words_text-cmp [] [] e ha hb = refl
words_text-cmp [] (b ∷ ws) e ha hb = absurd (omega arith)
words_text-cmp (a ∷ vs) [] e ha hb = absurd (omega arith)
words_text-cmp (a ∷ vs) (b ∷ ws) e ha hb =
    slice_cmp-append (word_text a) (word_text b) (flat_map word_text vs) (flat_map word_text ws) refl
    ∙ ap (λ o. ordering_then o (slice_cmp nat_cmp (flat_map word_text vs) (flat_map word_text ws))) (word_text-cmp a b (ha 0 0 (omega arith)) (hb 0 0 (omega arith)))
    ∙ ap (ordering_then (nat_cmp a b)) (words_text-cmp vs ws (omega arith) (λ k d h. ha (suc k) d (omega arith)) (λ k d h. hb (suc k) d (omega arith)))

pub hex_text-cmp : (a b : List ℕ) → IsHash a → IsHash b → slice_cmp nat_cmp (hex_text a) (hex_text b) ≡ hash_cmp a b
hex_text-cmp a b ha hb =
    rw (hex_text-four a ha.0, hex_text-four b hb.0) (words_text-cmp a b (ha.0 ∙ sym hb.0) ha.1 hb.1)
