-- Four chaining values and four blocks, in the rows that four states share.
use Rattle.std.proofs.Common.{◌≡◌, ℕ, zero, suc, ◌+◌, ◌*◌, ◌<◌, ◌≤◌, List, ◌++◌, drop, length, map, refl, sym, ap, ◌∙◌, arith}
use Rattle.std.proofs.lemmas.List.{drop-drop}
use Rattle.std.proofs.lemmas.List.FromFn.{fill_by_all, get_or-map-range_with_len}
use Rattle.std.specs.Int.{from_le_bytes, w32}
use Rattle.std.specs.List.{range_with_len}
use Rattle.keyed_blake3.specs.Blake3.{block, words_at}
use Rattle.keyed_blake3.specs.Steps.Lanes.{chunk_at}
use Rattle.keyed_blake3.specs.Steps.Rows.{quad_at}
use Rattle.keyed_blake3.proofs.Blake3.Blocks.{word_at_place}
use Rattle.keyed_blake3.proofs.Blake3.Rows.{four}

-- four states
pub each_of_four : (P : ℕ → Type 0) → P 0 → P 1 → P 2 → P 3 → (j : ℕ) → j < 4 → P j
each_of_four P x y z w zero h = x
each_of_four P x y z w (suc zero) h = y
each_of_four P x y z w (suc (suc zero)) h = z
each_of_four P x y z w (suc (suc (suc zero))) h = w
each_of_four P x y z w (suc (suc (suc (suc j)))) h = absurd (omega arith)

-- four quads side by side
pub beside-four : (j : ℕ) (f : ℕ → List ℕ) (x : List ℕ) → j < 4 → x ≡ f 0 ++ f 1 ++ f 2 ++ f 3 → ((i : ℕ) → length (f i) ≡ 4) → quad_at j x ≡ f j
beside-four zero f x h is size = rw (is, four (f 0) (size 0)) refl
beside-four (suc zero) f x h is size = rw (is, four (f 0) (size 0), four (f 1) (size 1)) refl
beside-four (suc (suc zero)) f x h is size = rw (is, four (f 0) (size 0), four (f 1) (size 1), four (f 2) (size 2)) refl
beside-four (suc (suc (suc zero))) f x h is size = rw (is, four (f 0) (size 0), four (f 1) (size 1), four (f 2) (size 2), four (f 3) (size 3)) refl
beside-four (suc (suc (suc (suc j)))) f x h is size = absurd (omega arith)

-- ---- blocks read by quads

pub length-four_words : (bytes : List ℕ) → length (words_at 4 bytes) ≡ 4
unfolding words_at
length-four_words bytes = refl

pub words_by_fours : (b : List ℕ) → words_at 4 b ++ words_at 4 (drop 16 b) ++ words_at 4 (drop 32 b) ++ words_at 4 (drop 48 b) ≡ words_at 16 b
unfolding words_at
words_by_fours b =
    rw (
      drop-drop 4 16 b,
      drop-drop 8 16 b,
      drop-drop 12 16 b,
      drop-drop 4 32 b,
      drop-drop 8 32 b,
      drop-drop 12 32 b,
      drop-drop 4 48 b,
      drop-drop 8 48 b,
      drop-drop 12 48 b,
    ) refl

-- sixteen words, read by halves
pub length-eight_words : (bytes : List ℕ) → length (words_at 8 bytes) ≡ 8
unfolding words_at
length-eight_words bytes = refl

pub words_by_halves : (b : List ℕ) → words_at 8 b ++ words_at 8 (drop 32 b) ≡ words_at 16 b
unfolding words_at
words_by_halves b =
    rw (
      drop-drop 4 32 b,
      drop-drop 8 32 b,
      drop-drop 12 32 b,
      drop-drop 16 32 b,
      drop-drop 20 32 b,
      drop-drop 24 32 b,
      drop-drop 28 32 b,
    ) refl

-- four words of block n of chunk p, from word t on
pub quad_of_block : (bytes : List ℕ) (p n : ℕ) → 1024 * p + 1024 ≤ length bytes → n < 16 → (at s t : ℕ) → at ≡ 64 * n + s → s ≡ 4 * t → t ≤ 12
    → words_at 4 (drop (1024 * p + at) bytes) ≡ words_at 4 (drop s (block (chunk_at p bytes) n))
unfolding words_at
quad_of_block bytes p n long hn at s t is place few =
    let b : List ℕ = block (chunk_at p bytes) n in
    let word : (k : ℕ) → k < 4 → from_le_bytes w32 (drop (4 * k) (drop (1024 * p + at) bytes)) ≡ from_le_bytes w32 (drop (4 * k) (drop s b)) =
    λ k h. ap (from_le_bytes w32) (drop-drop (4 * k) (1024 * p + at) bytes ∙ ap (λ (i : ℕ). drop i bytes) (omega (arith, is, place)))
    ∙ word_at_place bytes p n (t + k) long hn (omega (arith, few))
    ∙ ap (from_le_bytes w32) (sym (drop-drop (4 * k) s b ∙ ap (λ (i : ℕ). drop i b) (omega (arith, place)))) in
    fill_by_all (λ (k : ℕ). from_le_bytes w32 (drop (4 * k) (drop s b))) (map (λ k. from_le_bytes w32 (drop (4 * k) (drop (1024 * p + at) bytes))) (range_with_len 0 4)) 4 0 refl
    (λ k h. get_or-map-range_with_len (λ k. from_le_bytes w32 (drop (4 * k) (drop (1024 * p + at) bytes))) 0 4 k k 0 h (omega arith) ∙ word k h)
