-- How a chunk is taken in block by block, its last block too.
use Rattle.std.specs.Prelude.{ℕ, ◌+◌, ◌-◌, ◌*◌, if◌then◌else◌, ◌==◌, nat_le, List, length}
use Rattle.keyed_blake3.specs.Blake3.{after_blocks, blocks_before_last, chunk_end_flag, chunk_value, keyed_hash_flag, start_flag}

-- the chaining value after the first n blocks of chunk number i, of which the last may be one
unfoldable pub value_after : List ℕ → ℕ → List ℕ → ℕ → ℕ → List ℕ
value_after key i chunk flags n =
    if nat_le n (blocks_before_last chunk) then after_blocks key i chunk n else chunk_value key i chunk flags

-- the bytes of block number n
abbrev pub block_len : List ℕ → ℕ → ℕ
block_len chunk n = if n == blocks_before_last chunk then length chunk - 64 * n else 64

-- the flags of block number n; `flags` are those of the last one in addition
abbrev pub block_flags : List ℕ → ℕ → ℕ → ℕ
block_flags chunk n flags =
    if n == blocks_before_last chunk then keyed_hash_flag + start_flag n + chunk_end_flag + flags
    else keyed_hash_flag + start_flag n
