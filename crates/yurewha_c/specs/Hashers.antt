-- Hashers that begin.
use Rattle.std.specs.Prelude.{◌≡◌, ℕ, List, []}
use Rattle.keyed_blake3.specs.Blake3Hasher.{Holds, count_of}
use Rattle.keyed_blake3.specs.declared.hasher.Hasher.{Hasher}

-- a hasher of the empty message under a key
abbrev pub Begins : List ℕ → Hasher → Type 0
Begins key hasher = Holds key hasher [] × (count_of hasher ≡ 0)
