-- The steps of the transposition of sixteen rows of sixteen words.
use Rattle.std.proofs.Common.{◌≡◌, ℕ, ◌+◌, List, [], ◌∷◌, ◌++◌, length, map, refl}
use Rattle.std.proofs.lemmas.List.Elements.{All-map, All-same}
use Rattle.std.specs.List.{range_with_len}
use Rattle.keyed_blake3.specs.Steps.Lanes.{AreFull, lane}
use Rattle.keyed_blake3.specs.Steps.Transposition.{picked}

-- a step on rows that are known
pub step : (place : ℕ → ℕ) (further : ℕ) {x y a b z w : List ℕ} → x ≡ a → y ≡ b
    → (z ≡ picked place (x ++ y)) × (w ≡ picked (λ k. place k + further) (x ++ y))
    → (z ≡ picked place (a ++ b)) × (w ≡ picked (λ k. place k + further) (a ++ b))
step place further ex ey are = (rw (← ex, ← ey) are.0, rw (← ex, ← ey) are.1)

-- a table's columns, of which number j has word j of each row
abbrev pub column : (ℕ → ℕ → ℕ) → ℕ → List ℕ
column word j = map (λ i. word i j) (range_with_len 0 16)

abbrev pub columns : (ℕ → ℕ → ℕ) → List (List ℕ)
columns word = map (column word) (range_with_len 0 16)

pub columns_one_by_one : (word : ℕ → ℕ → ℕ) (r0 r1 r2 r3 r4 r5 r6 r7 r8 r9 r10 r11 r12 r13 r14 r15 : List ℕ)
    → r0 ≡ column word 0
    → r1 ≡ column word 1
    → r2 ≡ column word 2
    → r3 ≡ column word 3
    → r4 ≡ column word 4
    → r5 ≡ column word 5
    → r6 ≡ column word 6
    → r7 ≡ column word 7
    → r8 ≡ column word 8
    → r9 ≡ column word 9
    → r10 ≡ column word 10
    → r11 ≡ column word 11
    → r12 ≡ column word 12
    → r13 ≡ column word 13
    → r14 ≡ column word 14
    → r15 ≡ column word 15
    → r0 ∷ r1 ∷ r2 ∷ r3 ∷ r4 ∷ r5 ∷ r6 ∷ r7 ∷ r8 ∷ r9 ∷ r10 ∷ r11 ∷ r12 ∷ r13 ∷ r14 ∷ r15 ∷ [] ≡ columns word
columns_one_by_one word r0 r1 r2 r3 r4 r5 r6 r7 r8 r9 r10 r11 r12 r13 r14 r15 e0 e1 e2 e3 e4 e5 e6 e7 e8 e9 e10 e11 e12 e13 e14 e15 =
    rw (e0, e1, e2, e3, e4, e5, e6, e7, e8, e9, e10, e11, e12, e13, e14, e15) refl

pub columns_full : (word : ℕ → ℕ → ℕ) (table : List (List ℕ)) → table ≡ columns word → AreFull 16 table
columns_full word table are =
    All-same (λ (w : List ℕ). length w ≡ 16) table (columns word) are
    (All-map (λ (w : List ℕ). length w ≡ 16) (column word) (range_with_len 0 16) (λ k d h. refl))

pub lanes_of_columns : (word : ℕ → ℕ → ℕ) (table : List (List ℕ)) → table ≡ columns word
    → map (λ j. lane j table) (range_with_len 0 16) ≡ map (λ i. map (λ k. word i k) (range_with_len 0 16)) (range_with_len 0 16)
lanes_of_columns word table are = rw are refl
