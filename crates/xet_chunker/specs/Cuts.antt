-- Where the chunks of a message end: its cuts, byte by byte.
use Rattle.std.specs.Prelude.{ℕ, suc, ◌^◌, Bool, ◌&&◌, ◌||◌, if◌then◌else◌, nat_lt, nat_le, ◌==◌, List, [], ◌∷◌}
use Rattle.xet_chunker.specs.Gear.{next_gear}

-- the fewest bytes of a chunk that isn't the last, and the most of any
abbrev pub least : ℕ
least = 8192

abbrev pub most : ℕ
most = 131072

-- the upper 16 bits of a gear are zeros
abbrev pub is_low : ℕ → Bool
is_low gear = nat_lt gear (2 ^ 48)

-- a chunk ends after this many bytes, whose gear is given
unfoldable pub ends : ℕ → ℕ → Bool
ends size gear = nat_le least size && (nat_le most size || is_low gear)

-- the places of the cuts in a message, from place `at` on: there the chunk has `size` bytes, whose gear is given. The message
-- ends with a cut.
unfoldable pub cuts_from : ℕ → ℕ → ℕ → List ℕ → List ℕ
cuts_from at size gear [] = if size == 0 then [] else at ∷ []
cuts_from at size gear (byte ∷ rest) =
    if ends (suc size) (next_gear gear byte) then suc at ∷ cuts_from (suc at) 0 0 rest
    else cuts_from (suc at) (suc size) (next_gear gear byte) rest

-- the cuts of a message that begins at place `at`
abbrev pub cuts_at : ℕ → List ℕ → List ℕ
cuts_at at message = cuts_from at 0 0 message

-- the cuts of a message
abbrev pub cuts : List ℕ → List ℕ
cuts message = cuts_at 0 message
