-- The cuts that follow from candidates.
use Rattle.std.specs.Prelude.{◌≡◌, ◌⊎◌, ℕ, ◌+◌, ◌<◌, ◌≤◌, min, if◌then◌else◌, nat_le, List, [], ◌∷◌}
use Rattle.xet_chunker.specs.Cuts.{least, most}

-- the first of some numbers that isn't below `from`, or another number if there is none
unfoldable pub first_from : List ℕ → ℕ → ℕ → ℕ
first_from [] from other = other
first_from (place ∷ places) from other = if nat_le from place then place else first_from places from other

-- the cut after place `start` of a message of `count` bytes: the first candidate at which the chunk has its fewest bytes, but no later
-- than where it has its most or the message ends
abbrev pub next_cut : List ℕ → ℕ → ℕ → ℕ
next_cut found count start = min (first_from found (start + least) count) (min (start + most) count)

-- the cuts after place `start` of a message of `count` bytes are chosen by its candidates, which are in order
unfoldable pub AreChosen : List ℕ → ℕ → ℕ → List ℕ → Type 0
AreChosen found count start [] = count ≤ start
AreChosen found count start (cut ∷ cuts) = (start < count) × (cut ≡ next_cut found count start) × AreChosen found count cut cuts

-- the chunks that end at the cuts after place `start` of a message of `count` bytes have sizes from the fewest to the most, but for the
-- last, which may have fewer; and the last cut is the message's end
unfoldable pub AreSized : ℕ → ℕ → List ℕ → Type 0
AreSized count start [] = count ≤ start
AreSized count start (cut ∷ cuts) = (start < cut) × (cut ≤ start + most) × (cut ≤ count) × ((cut ≡ count) ⊎ (start + least ≤ cut)) × AreSized count cut cuts
