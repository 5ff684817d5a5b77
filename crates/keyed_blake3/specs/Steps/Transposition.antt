-- The steps that turn a square table of sixteen rows. Each takes words of two rows, which are read as one list.
use Rattle.std.specs.Prelude.{ℕ, ◌*◌, ◌+◌, ◌/◌, ◌%◌, List, map, slice_index}
use Rattle.std.specs.List.{range_with_len}

-- sixteen words of x: number k is the one at place k
abbrev pub picked : (ℕ → ℕ) → List ℕ → List ℕ
picked place x = map (λ k. slice_index x (place k)) (range_with_len 0 16)

-- the places of the first two words of each quarter, one of each row by turns
abbrev pub by_turns : ℕ → ℕ
by_turns k = k / 4 * 4 + k % 4 / 2 + 16 * (k % 2)

-- those of the same words, two of each row by turns
abbrev pub by_twos : ℕ → ℕ
by_twos k = k / 4 * 4 + k % 2 + 16 * (k % 4 / 2)

-- the places of every second quarter
abbrev pub quarters : ℕ → ℕ
quarters k = k / 4 * 8 + k % 4

-- the places of the first half of each row
abbrev pub halves : ℕ → ℕ
halves k = k / 8 * 16 + k % 8
