-- The positions that no run has.
use Rattle.std.specs.Prelude.{◌≡◌, ℕ, ◌+◌, ◌-◌, ◌<◌, ◌≤◌, ◌⊎◌, true, false, List, sum_by}
use Rattle.upload_session.specs.Session.{PlacedRun, meet}

-- how many positions runs have
abbrev pub num_positions : {C : Type 0} → List (PlacedRun C) → ℕ
num_positions {C} runs = sum_by (λ (run : PlacedRun C). run.1.end - run.0) runs

-- each position from one on and below another is taken, or each is free
abbrev pub AllTaken : {C : Type 0} → List (PlacedRun C) → ℕ → ℕ → Type 0
AllTaken runs first end = (position : ℕ) → first ≤ position → position < end → meet runs position 1 ≡ true

abbrev pub AllFree : {C : Type 0} → List (PlacedRun C) → ℕ → ℕ → Type 0
AllFree runs first end = (position : ℕ) → first ≤ position → position < end → meet runs position 1 ≡ false

-- the first taken one of some adjacent positions
pub record IsFirstTaken {C : Type 0} (runs : List (PlacedRun C)) (first count position : ℕ) : Type 0 where
  pub from : first ≤ position
  pub before : position < first + count
  pub taken : meet runs position 1 ≡ true
  pub free : AllFree runs first position

-- the first gap from a position on and below a total: adjacent free positions, as many as there are
pub record IsNextGap {C : Type 0} (runs : List (PlacedRun C)) (position total first end : ℕ) : Type 0 where
  pub from : position ≤ first
  pub taken : AllTaken runs position first
  pub some : first < end
  pub free : AllFree runs first end
  pub below : end ≤ total
  pub ends : (end ≡ total) ⊎ (meet runs end 1 ≡ true)
