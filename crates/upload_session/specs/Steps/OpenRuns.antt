-- The marks and the sizes of the runs' ranges. Only private contracts and proofs use them.
use Rattle.std.specs.Prelude.{◌≡◌, ℕ, ◌+◌, ◌^◌, ◌<◌, ◌≤◌, false, List, All, option_map, unwrap_or, sum_by}
use Rattle.std.specs.Ordering.{nat_cmp}
use Rattle.std.specs.BTreeMap.{is_at}
use Rattle.std.specs.Map.{lookup, values_of}
use Rattle.chunk_ranges.specs.declared.chunk_range.ChunkRange as chunk_range
use Rattle.upload_session.specs.declared.runs.Run.{Run}
use Rattle.upload_session.specs.Session.{PlacedRun}

module _ {C A : Type 0} (kind : chunk_range.Ghosts C A) where
  -- a range is open at both ends
  abbrev pub IsOpen : C → Type 0
  IsOpen range = (kind.start range ≡ false) × (kind.end range ≡ false)

  -- the range of each run is open at both ends
  abbrev pub AreOpen : List (PlacedRun C) → Type 0
  AreOpen runs = All (λ (run : Run C). IsOpen run.range) (values_of runs)

  -- the sum of the sizes of all runs
  abbrev pub sizes_of : List (PlacedRun C) → ℕ
  sizes_of runs = sum_by (λ (run : Run C). kind.total run.range) (values_of runs)

  -- the size of the run that begins at a position, or 0 if there is none
  abbrev pub size_at : ℕ → List (PlacedRun C) → ℕ
  size_at first runs =
      unwrap_or (option_map (λ (run : Run C). kind.total run.range) (lookup (is_at (nat_cmp first)) runs)) 0

  -- runs are open, and their sizes plus this size fit 64 bits
  abbrev pub HaveRoom : ℕ → List (PlacedRun C) → Type 0
  HaveRoom size runs = AreOpen runs × (sizes_of runs + size < 2 ^ 64)

  -- runs are open, and their sizes are at most a bound
  abbrev pub AreOpenUpTo : ℕ → List (PlacedRun C) → Type 0
  AreOpenUpTo bound runs = AreOpen runs × (sizes_of runs ≤ bound)

  -- so are a range and the runs, and there is room for its size
  abbrev pub HaveRoomFor : C → List (PlacedRun C) → Type 0
  HaveRoomFor range runs = IsOpen range × HaveRoom (kind.total range) runs

  -- the sizes of runs, which are open, have grown by a number at most
  abbrev pub GrowBy : ℕ → List (PlacedRun C) → List (PlacedRun C) → Type 0
  GrowBy size old new = AreOpenUpTo (sizes_of old + size) new
