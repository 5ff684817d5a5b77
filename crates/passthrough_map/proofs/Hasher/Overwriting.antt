-- Overwriting the low bytes of a number, by at most eight bytes and by all eight.
use Rattle.std.proofs.Common.{◌≡◌, ◌<◌, ◌≤◌, ◌^◌, ℕ, List, [], ◌++◌, length, take, drop, min, sym, inl, inr, arith}
use Rattle.std.specs.Hash.{le_bytes, u64}
use Rattle.std.specs.Int.{w64, to_le_bytes}
use Rattle.std.specs.List.{fold}
use Rattle.std.proofs.lemmas.Bool.{cases_lt}
use Rattle.std.proofs.lemmas.List.{append-nil, drop_all, length-append, length-drop, take_all, take-append-le}
use Rattle.std.proofs.lemmas.Nat.{from_le_bytes-to_le_bytes_8}
use Rattle.passthrough_map.specs.PassthroughHasher.{overwrite_low}

-- the first of some bytes, and what follows in eight others, are the first eight of both
pub front_replaced : (bytes eight : List ℕ) (n : ℕ) → length eight ≡ 8 → n ≡ min (length bytes) 8
    → take n bytes ++ drop n eight ≡ take 8 (bytes ++ drop (length bytes) eight)
front_replaced bytes eight n h is =
    elim (cases_lt (length bytes) 8) [
      | inl short ↦
          let n-len : n ≡ length bytes = omega arith in
          let whole : length (bytes ++ drop (length bytes) eight) ≤ 8 =
          omega (arith, length-append bytes (drop (length bytes) eight), length-drop (length bytes) eight) in
          rw (n-len, take_all (length bytes) bytes (omega arith)) (sym (take_all 8 _ whole))
      | inr long ↦
          let n-eight : n ≡ 8 = omega arith in
          rw (n-eight, drop_all 8 eight (omega arith), append-nil (take 8 bytes)) (sym (take-append-le 8 bytes _ long))
    ]

-- all eight bytes of a number, overwritten by another
pub overwrite_low-all : (old new : ℕ) → new < 2 ^ 64 → overwrite_low old (to_le_bytes w64 new) ≡ new
unfolding overwrite_low
overwrite_low-all old new h = from_le_bytes-to_le_bytes_8 new h

-- a number that was fed is the state
pub fed-number : (state number : ℕ) → number < 2 ^ 64 → fold overwrite_low state (u64 number) ≡ number
unfolding le_bytes
fed-number state number h = overwrite_low-all state number h

-- no bytes leave a number as it is
pub overwrite_low-none : (state : ℕ) → state < 2 ^ 64 → overwrite_low state [] ≡ state
unfolding overwrite_low
overwrite_low-none state h = from_le_bytes-to_le_bytes_8 state h
