-- The last digits of a number in a word, and in a number's decimal text.
use Rattle.std.proofs.Common.{◌≡◌, ℕ, zero, suc, ◌+◌, ◌-◌, ◌*◌, ◌/◌, ◌%◌, ◌^◌, ◌<◌, ◌≤◌, Bool, true, ◌&&◌, T, eqb, List, [], ◌∷◌, ◌++◌, length, get_or, take, drop, refl, sym, ap, ◌∙◌, inl, inr, arith, eq-zero-or-pos, eqb→eq, append_assoc, length-append, pow-suc}
use Rattle.std.specs.Int.{byte_at, bytes_low_first}
use Rattle.std.specs.Fmt.{decimal}
use Rattle.std.proofs.Math.Nat.{mul_comm}
use Rattle.std.proofs.lemmas.Fmt.{decimal_digit, decimal_step}
use Rattle.std.proofs.lemmas.List.{drop_all, drop-append-le, length-take-le, take-append-drop, take_at}
use native.Mathlib.Nat.{div-div-eq-div-mul}
use lib.Pow.{pow-add}
use lib.Ieee.Fits.{and_l, and_r}
use Rattle.xet_roots.specs.declared.sizes.TheConstants.{PAIRS}
use Rattle.xet_roots.specs.Steps.Digits.{last_digits, word_of}

-- each byte is one
abbrev pub AreBytes : List ℕ → Type 0
AreBytes [] = Unit {0}
AreBytes (b ∷ bs) = (b < 256) × AreBytes bs

more_bytes : (bs : List ℕ) (b : ℕ) → AreBytes bs → b < 256 → AreBytes (bs ++ b ∷ [])
more_bytes [] b all small = (small, tt)
more_bytes (c ∷ bs) b all small = (all.0, more_bytes bs b all.1 small)

pub last_digits-bytes : (k n : ℕ) → AreBytes (last_digits k n)
last_digits-bytes zero n = tt
last_digits-bytes (suc k) n = more_bytes (last_digits k (n / 10)) (48 + n % 10) (last_digits-bytes k (n / 10)) (omega arith)

pub length-last_digits : (k n : ℕ) → length (last_digits k n) ≡ k
length-last_digits zero n = refl
length-last_digits (suc k) n = omega (arith, length-append (last_digits k (n / 10)) ((48 + n % 10) ∷ []), length-last_digits k (n / 10))

-- fewer digits are the last of more
pub drop-last_digits : (z k n : ℕ) → drop z (last_digits (z + k) n) ≡ last_digits k n
drop-last_digits z zero n = drop_all z (last_digits (z + 0) n) (omega (arith, length-last_digits (z + 0) n))
drop-last_digits z (suc k) n =
    let more : z + suc k ≡ suc (z + k) = omega arith in
    ap (λ m. drop z (last_digits m n)) more
    ∙ drop-append-le z (last_digits (z + k) (n / 10)) ((48 + n % 10) ∷ []) (omega (arith, length-last_digits (z + k) (n / 10)))
    ∙ ap (λ l. l ++ (48 + n % 10) ∷ []) (drop-last_digits z k (n / 10))

-- a number's text is its last digits, if there are no fewer
pub decimal-last_digits : (k n : ℕ) → n < 10 ^ suc k → (0 < k → 10 ^ k ≤ n) → n < 2 ^ 64 → decimal n ≡ last_digits (suc k) n
decimal-last_digits zero n below least fits =
    let small : n < 10 = omega (arith, pow-suc 10 0) in
    decimal_digit n small ∙ ap (λ m. (48 + m) ∷ []) (omega arith)
decimal-last_digits (suc k) n below least fits =
    let long = least (omega arith) in
    let some = ten_pos k in
    let large : 10 ≤ n = omega (arith, pow-suc 10 k) in
    decimal_step n large fits
    ∙ ap (λ l. l ++ (48 + n % 10) ∷ [])
    (decimal-last_digits k (n / 10) (omega (arith, pow-suc 10 (suc k))) (λ more. omega (arith, pow-suc 10 k)) (omega arith))
  where
    ten_pos : (k : ℕ) → 1 ≤ 10 ^ k
    ten_pos zero = omega arith
    ten_pos (suc k) = let some = ten_pos k in omega (arith, pow-suc 10 k)

byte_at-next : (i n : ℕ) → byte_at (suc i) n ≡ byte_at i (n / 256)
byte_at-next zero n = refl
byte_at-next (suc i) n =
    ap (λ m. n / m % 256) (pow-suc 256 (suc i) ∙ mul_comm (256 ^ suc i) 256) ∙ ap (λ m. m % 256) (sym (div-div-eq-div-mul n 256 (256 ^ suc i)))

bytes-next : (i k n : ℕ) → bytes_low_first (suc i) k n ≡ bytes_low_first i k (n / 256)
bytes-next i zero n = refl
bytes-next i (suc k) n = λ j. byte_at-next i n j ∷ bytes-next (suc i) k n j

take-bytes : (i k m n : ℕ) → k ≤ m → take k (bytes_low_first i m n) ≡ bytes_low_first i k n
take-bytes i zero m n few = refl
take-bytes i (suc k) zero n few = absurd (omega arith)
take-bytes i (suc k) (suc m) n few = ap (λ l. byte_at i n ∷ l) (take-bytes (suc i) k m n (omega arith))

-- the bytes of a word
bytes-word_of : (bs : List ℕ) → AreBytes bs → bytes_low_first 0 (length bs) (word_of bs) ≡ bs
bytes-word_of [] all = refl
bytes-word_of (b ∷ bs) all =
    let small = all.0 in
    let low : (b + 256 * word_of bs) % 256 ≡ b = omega arith in
    let high : (b + 256 * word_of bs) / 256 ≡ word_of bs = omega arith in
    let rest : bytes_low_first 1 (length bs) (b + 256 * word_of bs) ≡ bs =
    bytes-next 0 (length bs) (b + 256 * word_of bs) ∙ ap (bytes_low_first 0 (length bs)) high ∙ bytes-word_of bs all.1 in
    λ j. low j ∷ rest j

-- a word without its lowest bytes
word_of-shifted : (z : ℕ) (bs : List ℕ) → AreBytes bs → z ≤ length bs → word_of bs / 2 ^ (8 * z) ≡ word_of (drop z bs)
word_of-shifted zero bs all few = omega arith
word_of-shifted (suc z) [] all few = absurd (omega arith)
word_of-shifted (suc z) (b ∷ bs) all few =
    let w = b + 256 * word_of bs in
    let small = all.0 in
    let high : w / 256 ≡ word_of bs = omega arith in
    let more : 8 * suc z ≡ 8 + 8 * z = omega arith in
    ap (λ e. w / 2 ^ e) more
    ∙ ap (λ m. w / m) (pow-add 2 8 (8 * z))
    ∙ sym (div-div-eq-div-mul w 256 (2 ^ (8 * z)))
    ∙ ap (λ m. m / 2 ^ (8 * z)) high
    ∙ word_of-shifted z bs all.1 (omega arith)

-- the digits of a number with at most eight of them, from a word of eight
pub shifted_digits : (z n : ℕ) → z < 8 → n < 10 ^ (8 - z) → (z < 7 → 10 ^ (7 - z) ≤ n) → n < 2 ^ 64
    → take (8 - z) (bytes_low_first 0 8 (word_of (last_digits 8 n) / 2 ^ (8 * z))) ≡ decimal n
shifted_digits z n few below least fits =
    let all = last_digits 8 n in
    let long = length-last_digits 8 n in
    let count : 8 - z ≡ suc (7 - z) = omega arith in
    let whole : z + (8 - z) ≡ 8 = omega arith in
    let last : drop z all ≡ last_digits (8 - z) n = ap (λ m. drop z (last_digits m n)) (sym whole) ∙ drop-last_digits z (8 - z) n in
    let text : decimal n ≡ last_digits (8 - z) n =
    decimal-last_digits (7 - z) n (rw (sym count) below) (λ more. least (omega arith)) fits ∙ ap (λ m. last_digits m n) (sym count) in
    ap (λ m. take (8 - z) (bytes_low_first 0 8 m))
    (word_of-shifted z all (last_digits-bytes 8 n) (omega arith) ∙ ap word_of last)
    ∙ take-bytes 0 (8 - z) 8 (word_of (last_digits (8 - z) n)) (omega arith)
    ∙ ap (λ m. bytes_low_first 0 m (word_of (last_digits (8 - z) n))) (sym (length-last_digits (8 - z) n))
    ∙ bytes-word_of (last_digits (8 - z) n) (last_digits-bytes (8 - z) n)
    ∙ sym text

-- the bytes of a list up to within a part that was written
pub take_past : {A : Type 0} (a j : ℕ) (xs ys zs : List A) → a ≤ length xs → j ≤ length ys → take (a + j) (take a xs ++ (ys ++ zs)) ≡ take a xs ++ take j ys
take_past a j xs ys zs room fits =
    let front = length-take-le a xs room in
    let part = length-take-le j ys fits in
    ap (λ l. take (a + j) (take a xs ++ (l ++ zs))) (sym (take-append-drop j ys))
    ∙ ap (λ l. take (a + j) (take a xs ++ l)) (append_assoc (take j ys) (drop j ys) zs)
    ∙ ap (take (a + j)) (sym (append_assoc (take a xs) (take j ys) (drop j ys ++ zs)))
    ∙ take_at (take a xs ++ take j ys) (drop j ys ++ zs) (a + j) (omega (arith, length-append (take a xs) (take j ys)))

abbrev are_pairs : ℕ → Bool
are_pairs zero = true
are_pairs (suc p) = eqb (get_or PAIRS p 0) (word_of (last_digits 2 p)) && are_pairs p

below : (n p : ℕ) → T (are_pairs n) → p < n → get_or PAIRS p 0 ≡ word_of (last_digits 2 p)
below zero p t h = absurd (omega arith)
below (suc n) p t h =
    elim (eq-zero-or-pos (n - p)) [
      | inl z ↦ let e : p ≡ n = omega arith in rw e (eqb→eq _ _ (and_l _ (are_pairs n) t))
      | inr g ↦ below n p (and_r _ (are_pairs n) t) (omega arith)
    ]

-- the table of pairs of digits
pub PAIRS_at : (p : ℕ) → p < 100 → get_or PAIRS p 0 ≡ word_of (last_digits 2 p)
PAIRS_at p h = below 100 p tt h

-- a bound of a number by one of its first digits
pub below_ten_thousands : (n z : ℕ) → z < 4 → n / 10000 < 10 ^ (4 - z) → n < 10 ^ (8 - z)
below_ten_thousands n z few small =
    let e : 8 - z ≡ 4 + (4 - z) = omega arith in
    let p : 10 ^ (8 - z) ≡ 10000 * 10 ^ (4 - z) = ap (λ m. 10 ^ m) e ∙ pow-add 10 4 (4 - z) in
    omega (arith, p)

pub least_ten_thousands : (n z : ℕ) → z < 4 → (z < 3 → 10 ^ (3 - z) ≤ n / 10000) → 10000 ≤ n → 10 ^ (7 - z) ≤ n
least_ten_thousands n z few large most = elim (eq-zero-or-pos (3 - z)) [
  | inl last ↦
      let three : 7 - z ≡ 4 = omega arith in
      rw three most
  | inr more ↦
      let e : 7 - z ≡ 4 + (3 - z) = omega arith in
      let p : 10 ^ (7 - z) ≡ 10000 * 10 ^ (3 - z) = ap (λ m. 10 ^ m) e ∙ pow-add 10 4 (3 - z) in
      let q = large (omega arith) in
      omega (arith, p)
]
