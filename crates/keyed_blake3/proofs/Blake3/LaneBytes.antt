-- Words of several blocks as bytes: read, xored, and rotated by whole bytes.
use Rattle.std.proofs.Common.{◌≡◌, ℕ, zero, suc, ◌+◌, ◌-◌, ◌*◌, ◌/◌, ◌%◌, ◌^◌, ◌<◌, List, [], ◌∷◌, ◌++◌, length, map, get_or, bit_xor, refl, sym, ap, ◌∙◌, arith}
use Rattle.std.proofs.lemmas.List.{get_or-map as get_or-map-at, get_or_append_left, length-map}
use Rattle.std.proofs.lemmas.List.FromFn.{fill_by_all, length-map-range_with_len}
use Rattle.std.proofs.lemmas.Nat.{or_lt, shr_le, xor_block, xor_mod, xor_shr}
use Rattle.std.proofs.lemmas.Simd.{Each1-from_get_or, Each1-get_or, get_or-chunk, get_or_narrower, get_or_wider, length-chunk, map-map}
use Rattle.std.specs.Int.{rotate_right, w32}
use Rattle.std.specs.Int.Bits.{or_shifted_r}
use Rattle.std.specs.List.{range_with_len}
use Rattle.keyed_blake3.specs.Steps.LaneRows.{words_of_bytes}
use Rattle.keyed_blake3.proofs.Blake3.Blocks.{length-digits}
use Rattle.keyed_blake3.proofs.Blake3.Lanes.{picked_at}
use Rattle.keyed_blake3.proofs.Blake3.Rows.{four}
use lib.Lanes.{Each1, chunk, digits_l, number_l, pick_l, zip2}

-- each number of a list, below p
pub each_below : (p : ℕ) (x : List ℕ) → ((i : ℕ) → get_or x i 0 < p) → Each1 (λ y. y < p) x
each_below p x below = Each1-from_get_or (λ (y : ℕ). y < p) x 0 (λ i h. below i)

-- ---- words and their bytes

pub length-words : (n : ℕ) (b : List ℕ) → length (words_of_bytes n b) ≡ n
unfolding words_of_bytes
length-words n b = length-digits (2 ^ 32) n (number_l 256 b)

-- word number j of some bytes
abbrev word : List ℕ → ℕ → ℕ
word b j = number_l 256 (get_or b (4 * j + 0) 0 ∷ get_or b (4 * j + 1) 0 ∷ get_or b (4 * j + 2) 0 ∷ get_or b (4 * j + 3) 0 ∷ [])

words_by : (n : ℕ) (b : List ℕ) (f : ℕ → ℕ) → length b ≡ 4 * n → Each1 (λ y. y < 256) b → ((j : ℕ) → j < n → word b j ≡ f j)
    → words_of_bytes n b ≡ map f (range_with_len 0 n)
unfolding words_of_bytes
words_by n b f size bytes each =
    let four_bytes : (j : ℕ) → j < n → chunk (4 * j) 4 b ≡ get_or b (4 * j + 0) 0 ∷ get_or b (4 * j + 1) 0 ∷ get_or b (4 * j + 2) 0 ∷ get_or b (4 * j + 3) 0 ∷ [] =
    λ j h. four (chunk (4 * j) 4 b) (length-chunk (4 * j) 4 b (omega (arith, size)))
    ∙ rw (
      get_or-chunk (4 * j) 4 b 0 0 (omega arith),
      get_or-chunk (4 * j) 4 b 1 0 (omega arith),
      get_or-chunk (4 * j) 4 b 2 0 (omega arith),
      get_or-chunk (4 * j) 4 b 3 0 (omega arith),
    ) refl in
    fill_by_all f (digits_l (2 ^ 32) n (number_l 256 b)) n 0 (length-digits (2 ^ 32) n (number_l 256 b))
    (λ j h. get_or_wider 256 4 (2 ^ 32) n b j refl bytes h ∙ ap (number_l 256) (four_bytes j h) ∙ each j h)

words_digit_below : (n x i : ℕ) → get_or (digits_l (2 ^ 32) n x) i 0 < 2 ^ 32
words_digit_below zero x i = omega arith
words_digit_below (suc n) x zero = omega arith
words_digit_below (suc n) x (suc i) = words_digit_below n (x / 2 ^ 32) i

word_below : (n : ℕ) (b : List ℕ) (i : ℕ) → get_or (words_of_bytes n b) i 0 < 2 ^ 32
unfolding words_of_bytes
word_below n b i = words_digit_below n (number_l 256 b) i

digits_below : (n x : ℕ) → Each1 (λ y. y < 256) (digits_l 256 n x)
digits_below zero x = tt
digits_below (suc n) x = (omega arith, digits_below n (x / 256))

-- the bytes of words, read again
pub words_again : (n : ℕ) (x : List ℕ) → length x ≡ n → Each1 (λ y. y < 2 ^ 32) x → words_of_bytes n (digits_l 256 (4 * n) (number_l (2 ^ 32) x)) ≡ x
words_again n x size below =
    let b : List ℕ = digits_l 256 (4 * n) (number_l (2 ^ 32) x) in
    let at : (j i : ℕ) → j < n → i < 4 → get_or b (4 * j + i) 0 ≡ get_or x j 0 / 256 ^ i % 256 =
    λ j i hj hi. get_or_narrower (2 ^ 32) 4 256 (4 * n) x j i refl below hi (omega arith) in
    words_by n b (λ j. get_or x j 0) (length-digits 256 (4 * n) (number_l (2 ^ 32) x)) (digits_below (4 * n) (number_l (2 ^ 32) x))
    (λ j h. let small : get_or x j 0 < 2 ^ 32 = Each1-get_or (λ (y : ℕ). y < 2 ^ 32) x j 0 (rw size h) below in
    rw (at j 0 h (omega arith), at j 1 h (omega arith), at j 2 h (omega arith), at j 3 h (omega arith)) (omega (arith, small)))
    ∙ sym (fill_by_all (λ j. get_or x j 0) x n 0 size (λ j h. refl))

-- ---- xor

xor_step : (r s a b : ℕ) → r < 256 → s < 256 → bit_xor (r + 256 * a) (s + 256 * b) ≡ bit_xor r s + 256 * bit_xor a b
xor_step r s a b hr hs =
    let left : r + 256 * a ≡ a * 2 ^ 8 + r = omega arith in
    let right : s + 256 * b ≡ b * 2 ^ 8 + s = omega arith in
    rw (left, right, xor_block 8 a b r s hr hs) (omega arith)

number-xor : (xs ys : List ℕ) → length xs ≡ length ys → Each1 (λ y. y < 256) xs → Each1 (λ y. y < 256) ys
    → number_l 256 (zip2 bit_xor xs ys) ≡ bit_xor (number_l 256 xs) (number_l 256 ys)
number-xor [] [] e fx fy = refl
number-xor [] (y ∷ ys) e fx fy = absurd (omega (arith, e))
number-xor (x ∷ xs) [] e fx fy = absurd (omega (arith, e))
number-xor (x ∷ xs) (y ∷ ys) e fx fy =
    let same : length xs ≡ length ys = omega (arith, e) in
    ap (λ (t : ℕ). bit_xor x y + 256 * t) (number-xor xs ys same fx.1 fy.1) ∙ sym (xor_step x y (number_l 256 xs) (number_l 256 ys) fx.0 fy.0)

digits-xor : (n x y : ℕ) → digits_l (2 ^ 32) n (bit_xor x y) ≡ zip2 bit_xor (digits_l (2 ^ 32) n x) (digits_l (2 ^ 32) n y)
digits-xor zero x y = refl
digits-xor (suc n) x y =
    rw (xor_mod x y 32, xor_shr x y 32) (ap (λ (l : List ℕ). bit_xor (x % 2 ^ 32) (y % 2 ^ 32) ∷ l) (digits-xor n (x / 2 ^ 32) (y / 2 ^ 32)))

pub words-xor : (n : ℕ) (b d : List ℕ) → length b ≡ length d → Each1 (λ y. y < 256) b → Each1 (λ y. y < 256) d
    → words_of_bytes n (zip2 bit_xor b d) ≡ zip2 bit_xor (words_of_bytes n b) (words_of_bytes n d)
unfolding words_of_bytes
words-xor n b d same fb fd =
    ap (digits_l (2 ^ 32) n) (number-xor b d same fb fd) ∙ digits-xor n (number_l 256 b) (number_l 256 d)

-- ---- rotations

-- where byte number k of the result stands, if each word's bytes are turned by s places
abbrev pub place : ℕ → ℕ → ℕ
place s k = 4 * (k / 4) + (k + s) % 4

pub turned_by_1 : (g : ℕ → ℕ) → ((i : ℕ) → i < 4 → g i < 256) → number_l 256 (g 1 ∷ g 2 ∷ g 3 ∷ g 0 ∷ []) ≡ rotate_right w32 (number_l 256 (g 0 ∷ g 1 ∷ g 2 ∷ g 3 ∷ [])) 8
turned_by_1 g below =
    let y : ℕ = number_l 256 (g 0 ∷ g 1 ∷ g 2 ∷ g 3 ∷ []) in
    let h0 = below 0 (omega arith) in
    let h1 = below 1 (omega arith) in
    let h2 = below 2 (omega arith) in
    let h3 = below 3 (omega arith) in
    let high : (y * 2 ^ 24) % 2 ^ 32 ≡ y % 256 * 2 ^ 24 = omega arith in
    let low : y / 2 ^ 8 < 2 ^ 24 = omega (arith, h0, h1, h2, h3) in
    rw (high, or_shifted_r (y % 256) 24 (y / 2 ^ 8) low) (omega (arith, h0, h1, h2, h3))

pub turned_by_2 : (g : ℕ → ℕ) → ((i : ℕ) → i < 4 → g i < 256) → number_l 256 (g 2 ∷ g 3 ∷ g 0 ∷ g 1 ∷ []) ≡ rotate_right w32 (number_l 256 (g 0 ∷ g 1 ∷ g 2 ∷ g 3 ∷ [])) 16
turned_by_2 g below =
    let y : ℕ = number_l 256 (g 0 ∷ g 1 ∷ g 2 ∷ g 3 ∷ []) in
    let h0 = below 0 (omega arith) in
    let h1 = below 1 (omega arith) in
    let h2 = below 2 (omega arith) in
    let h3 = below 3 (omega arith) in
    let high : (y * 2 ^ 16) % 2 ^ 32 ≡ y % 2 ^ 16 * 2 ^ 16 = omega arith in
    let low : y / 2 ^ 16 < 2 ^ 16 = omega (arith, h0, h1, h2, h3) in
    rw (high, or_shifted_r (y % 2 ^ 16) 16 (y / 2 ^ 16) low) (omega (arith, h0, h1, h2, h3))

byte_below : (b : List ℕ) (k : ℕ) → k < length b → Each1 (λ y. y < 256) b → get_or b k 0 < 256
byte_below b k h bytes = Each1-get_or (λ (y : ℕ). y < 256) b k 0 h bytes

pub words-turned : (s n : ℕ) (f : ℕ → ℕ) (b : List ℕ) → length b ≡ 4 * n → Each1 (λ y. y < 256) b
    → ((g : ℕ → ℕ) → ((i : ℕ) → i < 4 → g i < 256) → number_l 256 (g ((0 + s) % 4) ∷ g ((1 + s) % 4) ∷ g ((2 + s) % 4) ∷ g ((3 + s) % 4) ∷ []) ≡ f (number_l 256 (g 0 ∷ g 1 ∷ g 2 ∷ g 3 ∷ [])))
    → words_of_bytes n (pick_l 0 (b ++ b) (map (place s) (range_with_len 0 (4 * n)))) ≡ map f (words_of_bytes n b)
words-turned s n f b size bytes turns =
    let p : List ℕ = pick_l 0 (b ++ b) (map (place s) (range_with_len 0 (4 * n))) in
    let places : length (map (place s) (range_with_len 0 (4 * n))) ≡ 4 * n = length-map-range_with_len (place s) 0 (4 * n) in
    let long : length p ≡ 4 * n = length-map _ _ ∙ places in
    let from : (k : ℕ) → k < 4 * n → get_or p k 0 ≡ get_or b (place s k) 0 =
    λ k fits. let within : place s k < length b = omega (arith, size) in
    picked_at (place s) (4 * n) (b ++ b) p k refl fits ∙ get_or_append_left b b 0 (place s k) within in
    let at : (j i : ℕ) → j < n → i < 4 → get_or p (4 * j + i) 0 ≡ get_or b (4 * j + (i + s) % 4) 0 =
    λ j i hj hi. let same : place s (4 * j + i) ≡ 4 * j + (i + s) % 4 = omega arith in
    from (4 * j + i) (omega arith) ∙ ap (λ (q : ℕ). get_or b q 0) same in
    let picked : Each1 (λ y. y < 256) p =
    Each1-from_get_or (λ (y : ℕ). y < 256) p 0
    (λ k h. let fits : k < 4 * n = rw long at h in
    let within : place s k < length b = omega (arith, size) in
    rw (from k fits) (byte_below b (place s k) within bytes)) in
    words_by n p (λ j. f (word b j)) long picked
    (λ j h. rw (at j 0 h (omega arith), at j 1 h (omega arith), at j 2 h (omega arith), at j 3 h (omega arith))
    (turns (λ i. get_or b (4 * j + i) 0) (λ i hi. byte_below b (4 * j + i) (omega (arith, size)) bytes)))
    ∙ sym (map-map f (word b) (range_with_len 0 n))
    ∙ ap (map f) (sym (words_by n b (word b) size bytes (λ j h. refl)))

-- a rotated word
pub rotated_below : (y n : ℕ) → n < 32 → y < 2 ^ 32 → rotate_right w32 y n < 2 ^ 32
rotated_below y n h small =
    let one : n % 32 ≡ n = omega arith in
    or_lt 32 (y / 2 ^ (n % 32)) ((y * 2 ^ ((32 - n % 32) % 32)) % 2 ^ 32) (omega (arith, shr_le y (n % 32))) (omega arith)

-- words rotated as words, and their bytes
pub words_rotated : (n k : ℕ) (b x : List ℕ) → k < 32 → x ≡ map (λ y. rotate_right w32 y k) (words_of_bytes n b)
    → words_of_bytes n (digits_l 256 (4 * n) (number_l (2 ^ 32) x)) ≡ map (λ y. rotate_right w32 y k) (words_of_bytes n b)
words_rotated n k b x h is =
    let size : length x ≡ n = ap length is ∙ length-map _ _ ∙ length-words n b in
    let below : Each1 (λ y. y < 2 ^ 32) x =
    Each1-from_get_or (λ (y : ℕ). y < 2 ^ 32) x 0
    (λ i fits. let within : i < length (words_of_bytes n b) = rw (length-words n b) (rw size at fits) in
    rw (is, get_or-map-at (λ (y : ℕ). rotate_right w32 y k) (words_of_bytes n b) i 0 0 within) (rotated_below (get_or (words_of_bytes n b) i 0) k h (word_below n b i))) in
    words_again n x size below ∙ is
