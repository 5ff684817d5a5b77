-- A chunk block by block, its last block too.
use Rattle.std.proofs.Common.{◌≡◌, ℕ, ◌+◌, ◌-◌, ◌*◌, ◌<◌, ◌≤◌, List, length, refl, sym, ◌∙◌, inl, inr, arith}
use Rattle.std.proofs.lemmas.Bool.Decides.{nat_tests}
use Rattle.std.proofs.lemmas.Bool.{cases_lt}
use Rattle.keyed_blake3.specs.Blake3.{after_blocks, block, blocks_before_last, chunk_end_flag, chunk_value, compress, keyed_hash_flag, start_flag, words_at}
use Rattle.keyed_blake3.specs.Steps.Blocks.{block_flags, block_len, value_after}
use Rattle.keyed_blake3.proofs.Blake3.Absorbing.{chunk_value-last}
use Rattle.keyed_blake3.proofs.Blake3.Blocks.{after_blocks_more}

-- before the last block
pub value_after-before : (key : List ℕ) (i : ℕ) (chunk : List ℕ) (flags n : ℕ) → n ≤ blocks_before_last chunk
    → value_after key i chunk flags n ≡ after_blocks key i chunk n
unfolding value_after
value_after-before key i chunk flags n h = grind (arith, nat_tests)

-- after it
pub value_after-all : (key : List ℕ) (i : ℕ) (chunk : List ℕ) (flags n : ℕ) → blocks_before_last chunk < n
    → value_after key i chunk flags n ≡ chunk_value key i chunk flags
unfolding value_after
value_after-all key i chunk flags n h = grind (arith, nat_tests)

pub value_after-none : (key : List ℕ) (i : ℕ) (chunk : List ℕ) (flags : ℕ) → key ≡ value_after key i chunk flags 0
unfolding after_blocks
value_after-none key i chunk flags = sym (value_after-before key i chunk flags 0 (omega arith))

-- what a block is compressed with
pub block_len-last : (chunk : List ℕ) (n : ℕ) → n ≡ blocks_before_last chunk → block_len chunk n ≡ length chunk - 64 * n
block_len-last chunk n h = grind (arith, nat_tests)

pub block_len-before : (chunk : List ℕ) (n : ℕ) → n < blocks_before_last chunk → block_len chunk n ≡ 64
block_len-before chunk n h = grind (arith, nat_tests)

pub block_len-whole : (chunk : List ℕ) (n : ℕ) → length chunk ≡ 1024 → n ≤ blocks_before_last chunk → block_len chunk n ≡ 64
block_len-whole chunk n size within = elim (cases_lt n (blocks_before_last chunk)) [
  | inl less ↦ block_len-before chunk n less
  | inr last ↦ block_len-last chunk n (omega arith) ∙ omega (arith, size)
]

pub block_flags-last : (chunk : List ℕ) (n flags : ℕ) → n ≡ blocks_before_last chunk
    → block_flags chunk n flags ≡ keyed_hash_flag + start_flag n + chunk_end_flag + flags
block_flags-last chunk n flags h = grind (arith, nat_tests)

pub block_flags-before : (chunk : List ℕ) (n flags : ℕ) → n < blocks_before_last chunk → block_flags chunk n flags ≡ keyed_hash_flag + start_flag n
block_flags-before chunk n flags h = grind (arith, nat_tests)

-- one more block, which may be the last
pub value_after-more : (key : List ℕ) (i : ℕ) (chunk : List ℕ) (flags n : ℕ) (h : List ℕ) → n ≤ blocks_before_last chunk → h ≡ value_after key i chunk flags n
    → compress h (words_at 16 (block chunk n)) i (block_len chunk n) (block_flags chunk n flags) ≡ value_after key i chunk flags (n + 1)
value_after-more key i chunk flags n h within e =
    let before : h ≡ after_blocks key i chunk n = e ∙ value_after-before key i chunk flags n within in
    elim (cases_lt n (blocks_before_last chunk)) [
      | inl less ↦
          rw (block_len-before chunk n less, block_flags-before chunk n flags less, value_after-before key i chunk flags (n + 1) (omega arith))
          (after_blocks_more key i chunk n h before)
      | inr last ↦
          let same : n ≡ blocks_before_last chunk = omega arith in
          rw (block_len-last chunk n same, block_flags-last chunk n flags same, value_after-all key i chunk flags (n + 1) (omega arith), before)
          (sym (chunk_value-last key i chunk flags n (length chunk - 64 * n) (sym same) refl))
    ]
