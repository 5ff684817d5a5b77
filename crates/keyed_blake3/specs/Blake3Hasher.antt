-- The message that a hasher of keyed BLAKE3 holds.
use Rattle.std.specs.Prelude.{◌≡◌, ℕ, ◌-◌, ◌*◌, ◌/◌, ◌%◌, ◌<◌, List, length, take, drop}
use Rattle.keyed_blake3.specs.Blake3.{blocks_before_last, words_at}
use Rattle.keyed_blake3.specs.Steps.Tree.{IsAbsorbed, IsEnded}
use Rattle.keyed_blake3.specs.declared.hasher.Hasher.{Hasher}

-- the bytes that the hasher has taken
unfoldable pub count_of : Hasher → ℕ
count_of s = s.count

-- the hasher s, begun with the key, has taken in n blocks of the message m, and its block begins with the rest
unfoldable pub IsTaken : List ℕ → Hasher → ℕ → List ℕ → Type 0
IsTaken key s n m = (s.count ≡ length m)
    × IsAbsorbed (words_at 8 key) s.tree n m
    × (take (length m - 64 * n) s.block ≡ drop (64 * n) m)

-- the hasher s, begun with the key, holds the message m: it has taken in all blocks but the last. If there are several
-- chunks and the last one is whole, it has taken in all of them.
unfoldable pub Holds : List ℕ → Hasher → List ℕ → Type 0
Holds key s m = (s.count ≡ length m)
    × ((1024 < length m → 0 < length m % 1024) → IsTaken key s (blocks_before_last m) m)
    × (1024 < length m → length m % 1024 ≡ 0 → IsEnded (words_at 8 key) s.tree (length m / 1024) m)
