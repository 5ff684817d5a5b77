-- The state of a hasher that returns the number it is given.
use Rattle.std.specs.Prelude.{ℕ, List, ◌++◌, take, drop, length}
use Rattle.std.specs.Int.{w64, from_le_bytes, to_le_bytes}

-- the number after some bytes overwrite its low bytes, the first byte the lowest: the first eight of these bytes,
-- followed by those that the number has from there on
unfoldable pub overwrite_low : ℕ → List ℕ → ℕ
overwrite_low number bytes = from_le_bytes w64 (take 8 (bytes ++ drop (length bytes) (to_le_bytes w64 number)))
