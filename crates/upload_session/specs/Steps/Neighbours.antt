-- The runs before and after a position. Only private contracts and proofs use them.
use Rattle.std.specs.Prelude.{◌≡◌, ℕ, ◌+◌, ◌<◌, ◌≢◌, false, List, [], ◌∷◌, ◌++◌, length, All, Option, None, Some}
use Rattle.std.specs.Ordering.{nat_cmp}
use Rattle.std.specs.declared.ops.Bound.TheVariants.{Included, Unbounded}
use Rattle.std.specs.BTreeMap.{is_at}
use Rattle.std.specs.BTreeMap.Range.{entries_between}
use Rattle.std.specs.Map.{lookup}
use Rattle.xet_roots.specs.Groups.{Node}
use Rattle.chunk_ranges.specs.declared.chunk_range.ChunkRange as chunk_range
use Rattle.upload_session.specs.declared.runs.Run.{Run}
use Rattle.upload_session.specs.Session.{Placed, PlacedRun, meet, place, AreApart, IsRangeJoined, StandFor}

-- the last of the runs that begin at or before a position ends right before it
abbrev pub EndsAt : {C : Type 0} → List (PlacedRun C) → ℕ → ℕ → Type 0
EndsAt {C} runs position begin =
    (front : List (PlacedRun C)) × (run : Run C)
    × (entries_between nat_cmp Unbounded (Included position) runs ≡ front ++ (begin, run) ∷ [])
    × (run.end ≡ position)

-- the last of them doesn't
abbrev pub NoneEndsAt : {C : Type 0} → List (PlacedRun C) → ℕ → Type 0
NoneEndsAt {C} runs position =
    (front : List (PlacedRun C)) (last : PlacedRun C)
    → entries_between nat_cmp Unbounded (Included position) runs ≡ front ++ last ∷ []
    → last.1.end ≢ position

-- where the run begins that ends just before a position, if there is one
abbrev pub IsPrevious : {C : Type 0} → List (PlacedRun C) → ℕ → Option ℕ → Type 0
IsPrevious runs position None = NoneEndsAt runs position
IsPrevious runs position (Some begin) = EndsAt runs position begin

-- two positions, the runs before the first of them, and those after the second
abbrev pub AreAround : {C : Type 0} → ℕ → ℕ → List (PlacedRun C) → List (PlacedRun C) → Type 0
AreAround {C} begin after others back =
    All (λ (run : PlacedRun C). run.0 < begin) others × (begin < after) × All (λ (run : PlacedRun C). after < run.0) back

module _ {C A : Type 0} (kind : chunk_range.Ghosts C A) where
  -- the run of a range that ends right before a position, and of the run that begins there, if there is one
  abbrev pub IsWith : Option (Run C) → ℕ → C → Run C → Type 0
  IsWith None after given made =
      (made.end ≡ after) × ((chunks : List Node) → kind.stands given chunks → kind.stands made.range chunks)
      × (kind.start made.range ≡ false) × (kind.end made.range ≡ false)
  IsWith (Some next) after given made =
      (made.end ≡ next.end)
      × ((chunks more : List Node) → kind.stands given chunks → kind.stands next.range more
      → kind.stands made.range (chunks ++ more))
      × (kind.start made.range ≡ false) × (kind.end made.range ≡ kind.end next.range)

  -- the same, where the run that begins there is one of these
  abbrev pub IsWithNext : List (PlacedRun C) → ℕ → C → Run C → Type 0
  IsWithNext runs after = IsWith (lookup (is_at (nat_cmp after)) runs) after

  -- a range and the range of the run after it are merged into one run between others
  abbrev pub IsPutBefore : ℕ → C → Run C → List (PlacedRun C) → List (PlacedRun C) → List (PlacedRun C) → Type 0
  IsPutBefore begin front next others back new =
      (range : C) × (new ≡ others ++ (begin, record { end = next.end; range = range }) ∷ back)
      × ((a b : List Node) → kind.stands front a → kind.stands next.range b → kind.stands range (a ++ b))
      × (kind.start range ≡ kind.start front) × (kind.end range ≡ kind.end next.range)
      × (kind.total range ≡ kind.total front + kind.total next.range)

  -- a range is joined with runs, which stay apart, and now stand for its chunks too, if they are as many as was said
  abbrev pub TakeIn : List (PlacedRun C) → ℕ → ℕ → C → List (PlacedRun C) → Type 0
  TakeIn old first count made new =
      IsRangeJoined kind old first count made new × AreApart new
      × ((chunks : List Node) (placed : List Placed) → length chunks ≡ count → kind.stands made chunks
      → StandFor kind old placed → StandFor kind new (place placed first chunks))

  -- a range that is open at both ends is placed from a position up to another one, and runs take it in
  abbrev pub Places : List (PlacedRun C) → ℕ → ℕ → C → List (PlacedRun C) → Type 0
  Places old first after made new =
      (count : ℕ) → 0 < count → after ≡ first + count
      → AreApart old → meet old first count ≡ false
      → kind.start made ≡ false → kind.end made ≡ false
      → TakeIn old first count made new
