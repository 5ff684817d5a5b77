-- How the cuts of a message follow from its candidates.
use Rattle.std.specs.Prelude.{◌≡◌, ℕ, ◌+◌, ◌<◌, ◌≤◌, true, false, List, length}
use Rattle.xet_chunker.specs.Candidates.{is_candidate}
use Rattle.xet_chunker.specs.Cuts.{least}
use Rattle.xet_chunker.specs.declared.choice.CutChoice.{CutChoice}

-- the last cut, or the beginning
unfoldable pub last_cut : CutChoice → ℕ
last_cut s = s.start

-- none of the places after `from` and before `to` is a candidate
abbrev pub NoneBetween : List ℕ → ℕ → ℕ → Type 0
NoneBetween message from to = (place : ℕ) → from < place → place < to → is_candidate message place ≡ false

-- the choice s was given the candidates of a message up to place `known`: none of these can be the next cut
unfoldable pub IsGiven : CutChoice → List ℕ → ℕ → Type 0
IsGiven s message known = (s.start ≤ length message)
    × ((place : ℕ) → s.start + least ≤ place → place ≤ known → is_candidate message place ≡ false)

-- the first candidate after place `known`
abbrev pub IsNext : List ℕ → ℕ → ℕ → Type 0
IsNext message known place = (is_candidate message place ≡ true) × NoneBetween message known place
