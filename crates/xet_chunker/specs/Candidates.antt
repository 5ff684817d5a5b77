-- The candidates of a message: the places where a chunk that is long enough ends. 64 bytes decide each.
use Rattle.std.specs.Prelude.{◌≡◌, min, ℕ, zero, suc, ◌-◌, Bool, ◌&&◌, if◌then◌else◌, nat_le, List, [], ◌∷◌, length, take, drop}
use Rattle.xet_chunker.specs.Gear.{gear_of}
use Rattle.xet_chunker.specs.Cuts.{is_low}
use Rattle.xet_chunker.specs.declared.candidates.CandidateFinder.{CandidateFinder}

-- the gear of the 64 bytes before a place is low
unfoldable pub is_candidate : List ℕ → ℕ → Bool
is_candidate message place = nat_le 64 place && (nat_le place (length message) && is_low (gear_of (take 64 (drop (place - 64) message))))

-- the candidates among the n places after place `from`
unfoldable pub candidates : List ℕ → ℕ → ℕ → List ℕ
candidates message from zero = []
candidates message from (suc n) =
    if is_candidate message (suc from) then suc from ∷ candidates message (suc from) n
    else candidates message (suc from) n

-- the finder s has taken the bytes of a part, from its beginning on
unfoldable pub Passed : CandidateFinder → List ℕ → Type 0
Passed s part = (s.count ≡ min 63 (length part)) × (s.gear ≡ gear_of part)
