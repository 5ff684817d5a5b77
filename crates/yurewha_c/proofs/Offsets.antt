-- Offsets that rise, and the hashes of the pieces between them.
use Rattle.std.proofs.Common.{arith, ◌≡◌, ℕ, zero, suc, ◌+◌, ◌<◌, ◌≤◌, ◌↔◌, List, [], ◌∷◌, ◌++◌, length, take, drop, get_or, refl, ap}
use Rattle.std.specs.Prelude.{slice_range}
use Rattle.xet_hash.specs.Blake3.{keyed_hash}
use Rattle.xet_hash.specs.Hash.{data_key, hash_of}
use Rattle.yurewha_c.specs.Pieces.{Rise, hashes_between}

-- the offsets from a place on rise where the first of them does and those after it do
pub rises_on : (from end i : ℕ) (xs : List ℕ) → i < length xs → Rise from (drop i xs) end ↔ ((from ≤ get_or xs i 0) × Rise (get_or xs i 0) (drop (suc i) xs) end)
rises_on from end i [] h = absurd (omega (arith, h))
rises_on from end zero (x ∷ xs) h = (λ r. r, λ r. r)
rises_on from end (suc i) (x ∷ xs) h = rises_on from end i xs (omega (arith, h))

pub rises_to : (from end : ℕ) (xs : List ℕ) → Rise from xs end → from ≤ end
rises_to from end [] r = r
rises_to from end (x ∷ xs) r = let rest = rises_to x end xs r.1 in omega (arith, r.0, rest)

-- each offset is no greater than the next, and this one no greater than the end
pub rises_between : (from end i : ℕ) (xs : List ℕ) → Rise from xs end → suc i < length xs → (get_or xs i 0 ≤ get_or xs (suc i) 0) × (get_or xs (suc i) 0 ≤ end)
rises_between from end i [] r h = absurd (omega (arith, h))
rises_between from end zero (x ∷ []) r h = absurd (omega (arith, h))
rises_between from end zero (x ∷ y ∷ xs) r h = (r.1.0, rises_to y end xs r.1.1)
rises_between from end (suc i) (x ∷ xs) r h = rises_between x end i xs r.1 (omega (arith, h))

-- one piece more is hashed
pub hashes-more : (bytes xs : List ℕ) (i : ℕ) → suc i < length xs →
    take (suc i) (hashes_between bytes xs) ≡ take i (hashes_between bytes xs) ++ hash_of (keyed_hash data_key (slice_range bytes (get_or xs i 0) (get_or xs (suc i) 0))) ∷ []
hashes-more bytes [] i h = absurd (omega (arith, h))
hashes-more bytes (x ∷ []) i h = absurd (omega (arith, h))
hashes-more bytes (x ∷ y ∷ xs) zero h = refl
hashes-more bytes (x ∷ y ∷ xs) (suc i) h =
    ap (λ (hashes : List (List ℕ)). hash_of (keyed_hash data_key (slice_range bytes x y)) ∷ hashes) (hashes-more bytes (y ∷ xs) i (omega (arith, h)))

-- there is one piece less than offsets
pub length-hashes : (bytes xs : List ℕ) → 0 < length xs → length (hashes_between bytes xs) + 1 ≡ length xs
length-hashes bytes [] h = absurd (omega (arith, h))
length-hashes bytes (x ∷ []) h = refl
length-hashes bytes (x ∷ y ∷ xs) h = let rest = length-hashes bytes (y ∷ xs) (omega arith) in omega (arith, rest)

pub take_whole : {X : Type 0} (n : ℕ) (xs : List X) → length xs ≤ n → take n xs ≡ xs
take_whole zero [] h = refl
take_whole zero (x ∷ xs) h = absurd (omega (arith, h))
take_whole (suc n) [] h = refl
take_whole {X} (suc n) (x ∷ xs) h = ap (λ (ys : List X). x ∷ ys) (take_whole n xs (omega (arith, h)))
