-- Rows of four words, and the laws of the columns.
use Rattle.std.proofs.Common.{◌≡◌, ℕ, ◌-◌, ◌*◌, ◌/◌, ◌%◌, ◌^◌, ◌<◌, ◌≤◌, List, [], ◌∷◌, ◌++◌, length, map, get_or, replicate, bit_or, bit_xor, slice_index, refl, arith}
use Rattle.std.specs.Int.{rotate_right, w32}
use Rattle.std.specs.List.{range_with_len}
use Rattle.keyed_blake3.specs.Blake3.{add32, compress, first_state, folded, half_mix, mix, permuted, round, rounds}
use Rattle.keyed_blake3.specs.Steps.Rows.{from_second, half_columns, turned, turned_back}
use Rattle.std.proofs.lemmas.List.FromFn.{fill_by_all}
use Rattle.std.proofs.lemmas.Simd.{zip2-map, zip2_splat}
use lib.Lanes.{zip2}

-- four words
pub four : (x : List ℕ) → length x ≡ 4 → x ≡ get_or x 0 0 ∷ get_or x 1 0 ∷ get_or x 2 0 ∷ get_or x 3 0 ∷ []
four x h = fill_by_all (λ k. get_or x k 0) x 4 0 h (λ k fits. refl)

-- eight words
pub eight : (x : List ℕ) → length x ≡ 8 → x ≡ map (λ k. get_or x k 0) (range_with_len 0 8)
eight x h = fill_by_all (λ k. get_or x k 0) x 8 0 h (λ k fits. refl)

-- sixteen words
pub sixteen : (x : List ℕ) → length x ≡ 16 → x ≡ map (λ k. get_or x k 0) (range_with_len 0 16)
sixteen x h = fill_by_all (λ k. get_or x k 0) x 16 0 h (λ k fits. refl)

-- the lanes of a vector, each rotated to the right
pub rotated_lanes : (x : List ℕ) (m n : ℕ) → length x ≡ m → 1 ≤ n → n < 32
    → zip2 bit_or (zip2 (λ a k. a / 2 ^ k) x (replicate m n)) (zip2 (λ a k. (a * 2 ^ k) % 2 ^ 32) x (replicate m (32 - n)))
    ≡ map (λ y. rotate_right w32 y n) x
rotated_lanes x m n h low high =
    let left : n % 32 ≡ n = omega arith in
    let right : (32 - n) % 32 ≡ 32 - n = omega arith in
    rw (zip2_splat (λ (a k : ℕ). a / 2 ^ k) x m n h, zip2_splat (λ (a k : ℕ). (a * 2 ^ k) % 2 ^ 32) x m (32 - n) h, left, right)
    (zip2-map bit_or (λ (y : ℕ). y / 2 ^ n) (λ (y : ℕ). (y * 2 ^ (32 - n)) % 2 ^ 32) x)

-- half of G on all columns
pub half_columns-rows : (a b c d x : List ℕ) (r s : ℕ) → length a ≡ 4 → length b ≡ 4 → length c ≡ 4 → length d ≡ 4 → length x ≡ 4
    → (let a1 = zip2 add32 (zip2 add32 a b) x in
    let d1 = map (λ y. rotate_right w32 y r) (zip2 bit_xor d a1) in
    let c1 = zip2 add32 c d1 in
    a1 ++ map (λ y. rotate_right w32 y s) (zip2 bit_xor b c1) ++ c1 ++ d1) ≡ half_columns (a ++ b ++ c ++ d) x r s
unfolding half_columns half_mix
half_columns-rows a b c d x r s ha hb hc hd hx = rw (four a ha, four b hb, four c hc, four d hd, four x hx) refl

pub folded-rows : (a b c d : List ℕ) → length a ≡ 4 → length b ≡ 4 → length c ≡ 4 → length d ≡ 4
    → (let x = zip2 bit_xor a c in
    let y = zip2 bit_xor b d in
    get_or x 0 0 ∷ get_or x 1 0 ∷ get_or x 2 0 ∷ get_or x 3 0 ∷ get_or y 0 0 ∷ get_or y 1 0 ∷ get_or y 2 0 ∷ get_or y 3 0 ∷ [])
    ≡ folded (a ++ b ++ c ++ d)
folded-rows a b c d ha hb hc hd = rw (four a ha, four b hb, four c hc, four d hd) refl

-- the compression, step by step
pub compress_by_steps : (h m : List ℕ) (counter block_len flags : ℕ) (v0 v1 v2 v3 v4 v5 v6 v7 m0 m1 m2 m3 m4 m5 m6 result : List ℕ)
    → v0 ≡ first_state h counter block_len flags → m0 ≡ m
    → v1 ≡ round v0 m0 → m1 ≡ permuted m0 → v2 ≡ round v1 m1 → m2 ≡ permuted m1 → v3 ≡ round v2 m2 → m3 ≡ permuted m2 → v4 ≡ round v3 m3
    → m4 ≡ permuted m3 → v5 ≡ round v4 m4 → m5 ≡ permuted m4 → v6 ≡ round v5 m5 → m6 ≡ permuted m5 → v7 ≡ round v6 m6 → result ≡ folded v7
    → result ≡ compress h m counter block_len flags
unfolding compress rounds
compress_by_steps h m counter block_len flags v0 v1 v2 v3 v4 v5 v6 v7 m0 m1 m2 m3 m4 m5 m6 result e0 f0 e1 f1 e2 f2 e3 f3 e4 f4 e5 f5 e6 f6 e7 e =
    rw (e, e7, f6, e6, f5, e5, f4, e4, f3, e3, f2, e2, f1, e1, f0, e0) refl

-- ---- a round

-- G on the columns, and on the diagonals, with the words x first and then y
unfoldable pub columns : List ℕ → List ℕ → List ℕ → List ℕ
columns v x y = mix (mix (mix (mix v 0 4 8 12 (slice_index x 0) (slice_index y 0)) 1 5 9 13 (slice_index x 1) (slice_index y 1)) 2 6 10 14 (slice_index x 2) (slice_index y 2))
    3 7 11 15 (slice_index x 3) (slice_index y 3)

unfoldable pub diagonals : List ℕ → List ℕ → List ℕ → List ℕ
diagonals v x y = mix (mix (mix (mix v 0 5 10 15 (slice_index x 0) (slice_index y 0)) 1 6 11 12 (slice_index x 1) (slice_index y 1)) 2 7 8 13 (slice_index x 2) (slice_index y 2))
    3 4 9 14 (slice_index x 3) (slice_index y 3)

pub columns_by_halves : (a b c d x y : List ℕ) → length a ≡ 4 → length b ≡ 4 → length c ≡ 4 → length d ≡ 4
    → half_columns (half_columns (a ++ b ++ c ++ d) x 16 12) y 8 7 ≡ columns (a ++ b ++ c ++ d) x y
unfolding columns half_columns mix half_mix
columns_by_halves a b c d x y ha hb hc hd = rw (four a ha, four b hb, four c hc, four d hd) refl

pub diagonals_by_halves : (a b c d x y : List ℕ) → length a ≡ 4 → length b ≡ 4 → length c ≡ 4 → length d ≡ 4
    → turned_back (half_columns (half_columns (turned (a ++ b ++ c ++ d)) x 16 12) y 8 7) ≡ diagonals (a ++ b ++ c ++ d) (from_second x) (from_second y)
unfolding diagonals half_columns mix half_mix
diagonals_by_halves a b c d x y ha hb hc hd = rw (four a ha, four b hb, four c hc, four d hd) refl

pub round_by_halves : (a b c d a1 b1 c1 d1 x y z w v1 turns v3 v4 result : List ℕ) → length a ≡ 4 → length b ≡ 4 → length c ≡ 4 → length d ≡ 4
    → length a1 ≡ 4 → length b1 ≡ 4 → length c1 ≡ 4 → length d1 ≡ 4
    → v1 ≡ half_columns (a ++ b ++ c ++ d) x 16 12 → a1 ++ b1 ++ c1 ++ d1 ≡ half_columns v1 y 8 7
    → turns ≡ turned (a1 ++ b1 ++ c1 ++ d1) → v3 ≡ half_columns turns z 16 12 → v4 ≡ half_columns v3 w 8 7 → result ≡ turned_back v4
    → result ≡ diagonals (columns (a ++ b ++ c ++ d) x y) (from_second z) (from_second w)
round_by_halves a b c d a1 b1 c1 d1 x y z w v1 turns v3 v4 result ha hb hc hd ha1 hb1 hc1 hd1 e1 e2 et e3 e4 e =
    rw (e, e4, e3, et, diagonals_by_halves a1 b1 c1 d1 z w ha1 hb1 hc1 hd1, e2, e1, columns_by_halves a b c d x y ha hb hc hd) refl
