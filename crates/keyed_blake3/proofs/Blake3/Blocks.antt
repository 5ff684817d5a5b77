-- The blocks and chunks of a message, as the code cuts them.
use Rattle.std.proofs.Common.{◌≡◌, ℕ, zero, suc, ◌+◌, ◌-◌, ◌*◌, ◌/◌, ◌^◌, ◌<◌, ◌≤◌, List, [], ◌++◌, length, take, drop, replicate, refl, sym, ap, ◌∙◌, arith, length-drop, add-one, get_or, Fits, w8}
use Rattle.std.proofs.lemmas.List.{append-nil, drop_at, get_or-take, take_all, take_at, take-append-le, take-take, drop-drop, drop-replicate, drop-take, length-take-le, take-replicate}
use borrow.Rule.Slice.PartMut.{put_mid}
use Rattle.std.proofs.Math.Seq.{take-append-add}
use Rattle.std.proofs.lemmas.Bool.Decides.{nat_tests}
use Rattle.std.proofs.lemmas.Nat.{pow_pos}
use Rattle.std.proofs.lemmas.List.FromFn.{fill_by_all}
use Rattle.std.proofs.lemmas.Simd.{below_from_Fits, chunk-fits, get_or_wider}
use Rattle.std.specs.Int.{from_le_bytes, w32}
use Rattle.keyed_blake3.specs.Steps.Lanes.{chunk_at}
use Rattle.keyed_blake3.specs.Blake3.{after_blocks, block, chunk_value, compress, keyed_hash_flag, start_flag, subtree_value, words_at}
use Rattle.keyed_blake3.proofs.Blake3.Rows.{four}
use lib.Lanes.{Each1, digits_l, number_l}

-- a whole block is not filled up
pub block_whole : (m : List ℕ) (n : ℕ) → 64 * n + 64 ≤ length m → block m n ≡ take 64 (drop (64 * n) m)
block_whole m n h = take-append-le 64 (drop (64 * n) m) (replicate 64 0) (omega (arith, length-drop (64 * n) m))

-- a shorter one is, with the zeros that a block of zeros has past its length
pub block_filled : (m : List ℕ) → length m ≤ 64 → block m 0 ≡ m ++ drop (length m) (replicate 64 0)
block_filled m h =
    let whole : length m + (64 - length m) ≡ 64 = omega arith in
    let zeros : take (64 - length m) (replicate {A = ℕ} 64 0) ≡ drop (length m) (replicate {A = ℕ} 64 0) =
    take-replicate (64 - length m) 64 0 (omega arith) ∙ sym (drop-replicate (length m) 64 0) in
    rw whole at (take-append-add m (replicate 64 0) (64 - length m)) ∙ ap (λ (x : List ℕ). m ++ x) zeros

-- one more block of a chunk
pub after_blocks_next : (key : List ℕ) (i : ℕ) (chunk : List ℕ) (n : ℕ) → 64 * n + 64 ≤ length chunk
    → after_blocks key i chunk (n + 1)
    ≡ compress (after_blocks key i chunk n) (words_at 16 (take 64 (drop (64 * n) chunk))) i 64 (keyed_hash_flag + start_flag n)
unfolding after_blocks
after_blocks_next key i chunk n h = rw (add-one, ← block_whole chunk n h) refl

-- the value of a subtree of one chunk
pub subtree_value-chunk : (key : List ℕ) (k i : ℕ) (m : List ℕ) (flags : ℕ) → length m ≤ 1024 → subtree_value key k i m flags ≡ chunk_value key i m flags
unfolding subtree_value
subtree_value-chunk key zero i m flags h = refl
subtree_value-chunk key (suc k) i m flags h =
    let positive = pow_pos k in
    let fits : length m ≤ 1024 * 2 ^ k = omega arith in
    grind (arith, nat_tests, subtree_value-chunk key k i m flags h)

-- two values written one after the other
pub pair_of : (a b : List ℕ) → length a ≡ 8 → length b ≡ 8 → put_mid 8 8 (put_mid 0 8 (replicate 16 0) a) b ≡ a ++ b
pair_of a b ha hb =
    let front : take 8 (a ++ replicate 8 0) ≡ a = take_at a (replicate 8 0) 8 ha in
    let back : drop 8 (drop 8 (a ++ replicate 8 0)) ≡ [] =
    ap (drop 8) (drop_at a (replicate {A = ℕ} 8 0) 8 ha) in
    rw (front, back, append-nil b) refl

-- a message of one whole block
pub block_of_whole : (m : List ℕ) → length m ≡ 64 → block m 0 ≡ m
block_of_whole m h = block_whole m 0 (omega arith) ∙ take_all 64 m (omega arith)

-- one more block, from the chaining value before it
pub after_blocks_more : (key : List ℕ) (i : ℕ) (chunk : List ℕ) (n : ℕ) (h : List ℕ) → h ≡ after_blocks key i chunk n
    → compress h (words_at 16 (block chunk n)) i 64 (keyed_hash_flag + start_flag n) ≡ after_blocks key i chunk (n + 1)
unfolding after_blocks
after_blocks_more key i chunk n h before = rw (before, add-one) refl

-- ---- chunks side by side

-- a word is read of its four bytes
from_le_bytes-take : (m : ℕ) (bytes : List ℕ) → 4 ≤ m → from_le_bytes w32 (take m bytes) ≡ from_le_bytes w32 bytes
from_le_bytes-take m bytes h =
    rw (
      get_or-take m bytes 0 0 (omega arith),
      get_or-take m bytes 1 0 (omega arith),
      get_or-take m bytes 2 0 (omega arith),
      get_or-take m bytes 3 0 (omega arith),
    ) refl

pub length-chunk_at : (j : ℕ) (bytes : List ℕ) → 1024 * j + 1024 ≤ length bytes → length (chunk_at j bytes) ≡ 1024
length-chunk_at j bytes long = length-take-le 1024 (drop (1024 * j) bytes) (omega (arith, length-drop (1024 * j) bytes))

-- word k of block n of a chunk
pub word_at_place : (bytes : List ℕ) (j n k : ℕ) → 1024 * j + 1024 ≤ length bytes → n < 16 → k < 16
    → from_le_bytes w32 (drop (1024 * j + (64 * n + 4 * k)) bytes) ≡ from_le_bytes w32 (drop (4 * k) (block (chunk_at j bytes) n))
word_at_place bytes j n k long hn hk =
    let rest : List ℕ = drop (1024 * j) bytes in
    let after : ℕ = 1024 - 64 * n in
    let chunk : 64 * n + after ≡ 1024 = omega arith in
    let words : 4 * k + (64 - 4 * k) ≡ 64 = omega arith in
    let size = length-chunk_at j bytes long in
    let filled : block (take 1024 rest) n ≡ take 64 (drop (64 * n) rest) =
    block_whole (take 1024 rest) n (omega arith) ∙ ap (take 64) (rw chunk at (drop-take (64 * n) after rest)) ∙ take-take 64 after (drop (64 * n) rest) (omega arith) in
    sym (ap (λ (x : List ℕ). from_le_bytes w32 (drop (4 * k) x)) filled
    ∙ ap (from_le_bytes w32) (rw words at (drop-take (4 * k) (64 - 4 * k) (drop (64 * n) rest)))
    ∙ from_le_bytes-take (64 - 4 * k) (drop (4 * k) (drop (64 * n) rest)) (omega arith)
    ∙ ap (from_le_bytes w32) (drop-drop (4 * k) (64 * n) rest ∙ drop-drop (64 * n + 4 * k) (1024 * j) bytes))

-- a chunk of the chunks that begin at chunk number c of m
pub chunk_at_from : (m : List ℕ) (c n j : ℕ) → j < n → chunk_at j (take (1024 * n) (drop (1024 * c) m)) ≡ chunk_at (c + j) m
chunk_at_from m c n j h =
    let rest : List ℕ = drop (1024 * c) m in
    let after : ℕ = 1024 * n - 1024 * j in
    let whole : 1024 * j + after ≡ 1024 * n = omega arith in
    let place : 1024 * c + 1024 * j ≡ 1024 * (c + j) = omega arith in
    ap (take 1024) (rw whole at (drop-take (1024 * j) after rest)) ∙ take-take 1024 after (drop (1024 * j) rest) (omega arith)
    ∙ ap (take 1024) (drop-drop (1024 * j) (1024 * c) m ∙ ap (λ (k : ℕ). drop k m) place)

-- ---- words of a vector's bytes

word_of_four : (bytes : List ℕ) → 4 ≤ length bytes → number_l 256 (take 4 bytes) ≡ from_le_bytes w32 bytes
word_of_four bytes h =
    rw (
      four (take 4 bytes) (length-take-le 4 bytes h),
      get_or-take 4 bytes 0 0 (omega arith),
      get_or-take 4 bytes 1 0 (omega arith),
      get_or-take 4 bytes 2 0 (omega arith),
      get_or-take 4 bytes 3 0 (omega arith),
    ) (omega arith)

pub length-digits : (p n x : ℕ) → length (digits_l p n x) ≡ n
length-digits p zero x = refl
length-digits p (suc n) x = ap suc (length-digits p n (x / p))

pub row_words : (n : ℕ) (bytes : List ℕ) → ((k : ℕ) → Fits w8 (get_or bytes k 0)) → 4 * n ≤ length bytes
    → digits_l (2 ^ 32) n (number_l 256 (take (4 * n) bytes)) ≡ words_at n bytes
unfolding words_at
row_words n bytes fits long =
    let row : List ℕ = take (4 * n) bytes in
    let below : Each1 (λ x. x < 256) row = below_from_Fits w8 row (chunk-fits w8 0 (4 * n) bytes fits) in
    fill_by_all (λ (k : ℕ). from_le_bytes w32 (drop (4 * k) bytes)) (digits_l (2 ^ 32) n (number_l 256 row)) n 0 (length-digits (2 ^ 32) n (number_l 256 row))
    (λ k h.
    let after : ℕ = 4 * n - 4 * k in
    let whole : 4 * k + after ≡ 4 * n = omega arith in
    let size : length (drop (4 * k) bytes) ≡ length bytes - 4 * k = length-drop (4 * k) bytes in
    get_or_wider 256 4 (2 ^ 32) n row k refl below h
    ∙ ap (number_l 256) (ap (take 4) (rw whole at (drop-take (4 * k) after bytes)) ∙ take-take 4 after (drop (4 * k) bytes) (omega arith))
    ∙ word_of_four (drop (4 * k) bytes) (omega arith))
