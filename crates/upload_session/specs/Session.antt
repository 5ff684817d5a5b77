-- Chunks by their positions, and the runs of a session that stand for them.
use Rattle.std.specs.Prelude.{◌≡◌, ℕ, ◌+◌, ◌-◌, ◌<◌, ◌≤◌, Bool, true, false, not, List, [], ◌∷◌, ◌++◌, ◌&&◌, ◌||◌, length, filter, map, replicate, sum_by, All, Option, None, Some, IfSome, option_to_list, nat_eq, nat_lt, slice_get}
use Rattle.std.specs.List.{list_any}
use Rattle.xet_roots.specs.Groups.{Node}
use Rattle.xet_roots.specs.Roots.{total_size, salted_root, IsRoot, IsFileHash}
use Rattle.chunk_ranges.specs.declared.chunk_range.ChunkRange as chunk_range
use Rattle.upload_session.specs.declared.kept_hashes.KeptHashes as kept_hashes
use Rattle.upload_session.specs.declared.runs.Run.{Run}
use Rattle.upload_session.specs.Hashes.{Hash, hashes_of, AreBoth}

-- a chunk at a position
abbrev pub Placed : Type 0
Placed = ℕ × Node

-- chunks at adjacent positions, from the first one on
abbrev pub placed_from : ℕ → List Node → List Placed
placed_from first [] = []
placed_from first (chunk ∷ chunks) = (first, chunk) ∷ placed_from (first + 1) chunks

-- the placed chunks and more of them at adjacent positions: those before, the new ones, and those after
abbrev pub place : List Placed → ℕ → List Node → List Placed
place placed first chunks =
    filter (λ p. nat_lt p.0 first) placed ++ placed_from first chunks
    ++ filter (λ p. not (nat_lt p.0 first)) placed

-- the chunks in the order of their positions
abbrev pub chunks_of : List Placed → List Node
chunks_of placed = map (λ p. p.1) placed

-- whether a position is taken
abbrev pub is_taken : List Placed → ℕ → Bool
is_taken placed position = list_any (λ p. nat_eq p.0 position) placed

-- whether one of some adjacent positions is taken
abbrev pub overlaps : List Placed → ℕ → ℕ → Bool
overlaps placed first count =
    list_any (λ p. nat_lt first (p.0 + 1) && nat_lt p.0 (first + count)) placed

-- some chunks at adjacent positions from the first one on
abbrev pub Put : Type 0
Put = ℕ × List Node

-- the chunks that puts have placed, the last put first; each put had at least one chunk, and no position that was taken
abbrev pub ArePlaced : List Put → List Placed → Type 0
ArePlaced [] placed = placed ≡ []
ArePlaced (put ∷ earlier) placed =
    (before : List Placed) × ArePlaced earlier before × (0 < length put.1)
    × (overlaps before put.0 (length put.1) ≡ false) × (placed ≡ place before put.0 put.1)

-- the taken positions are exactly those below a number
abbrev pub IsWhole : ℕ → List Placed → Type 0
IsWhole total placed = (placed ≡ placed_from 0 (chunks_of placed)) × (length placed ≡ total)

-- each position is at a bound or after it
abbrev pub AreFrom : ℕ → List Placed → Type 0
AreFrom bound placed = All (λ p. bound ≤ p.0) placed

-- each chunk is at a position after that of the one before it
abbrev pub Rises : List Placed → Type 0
Rises [] = Unit {0}
Rises (p ∷ placed) = AreFrom (p.0 + 1) placed × Rises placed

-- the placed chunks and others, each at its position
abbrev pub place_each : List Placed → List Placed → List Placed
place_each placed [] = placed
place_each placed (p ∷ others) = place_each (place placed p.0 (p.1 ∷ [])) others

-- no position of some chunks is taken by others
abbrev pub AreDisjoint : List Placed → List Placed → Type 0
AreDisjoint placed others = All (λ p. is_taken others p.0 ≡ false) placed

-- a run of adjacent taken positions, with the first of them
abbrev pub PlacedRun : Type 0 → Type 0
PlacedRun C = ℕ × Run C

-- whether one of some runs has one of some adjacent positions
abbrev pub meets : {C : Type 0} → ℕ → ℕ → PlacedRun C → Bool
meets first count run = nat_lt first run.1.end && nat_lt run.0 (first + count)

abbrev pub meet : {C : Type 0} → List (PlacedRun C) → ℕ → ℕ → Bool
meet runs first count = list_any (meets first count) runs

-- no run of some has a position that one of others has
abbrev pub AreFree : {C : Type 0} → List (PlacedRun C) → List (PlacedRun C) → Type 0
AreFree {C} runs others = All (λ (run : PlacedRun C). meet runs run.0 (run.1.end - run.0) ≡ false) others

-- a position that a run of some has and a run of others
abbrev pub AreBothAt : {C : Type 0} → List (PlacedRun C) → List (PlacedRun C) → ℕ → Type 0
AreBothAt runs others position = (meet runs position 1 ≡ true) × (meet others position 1 ≡ true)

-- runs have the positions of two lists of runs
abbrev pub HaveBoth : {C : Type 0} → List (PlacedRun C) → List (PlacedRun C) → List (PlacedRun C) → Type 0
HaveBoth first second all =
    (position : ℕ) → meet all position 1 ≡ (meet first position 1 || meet second position 1)

-- each run has a position, and a free position lies between two runs
abbrev pub AreApart : {C : Type 0} → List (PlacedRun C) → Type 0
AreApart [] = Unit {0}
AreApart (run ∷ runs) = (run.0 < run.1.end) × All (λ next. run.1.end < next.0) runs × AreApart runs

-- the positions of some runs are exactly those below a number: it is 0 and there is no run, or one run has them
abbrev pub Cover : {C : Type 0} → ℕ → List (PlacedRun C) → Type 0
Cover total [] = total ≡ 0
Cover total (run ∷ []) = (run.0 ≡ 0) × (run.1.end ≡ total)
Cover total (run ∷ next ∷ runs) = ⊥

-- whether a run ends after a position, so that it contains the position or begins after it
abbrev pub ends_after : {C : Type 0} → ℕ → PlacedRun C → Bool
ends_after position run = nat_lt position run.1.end

-- the first position of a run, or another position if there is no run; and the same for the position after its last one
abbrev pub first_of : {C : Type 0} → Option (PlacedRun C) → ℕ → ℕ
first_of None other = other
first_of (Some run) other = run.0

abbrev pub end_of : {C : Type 0} → Option (PlacedRun C) → ℕ → ℕ
end_of None other = other
end_of (Some run) other = run.1.end

-- the last of some runs, if there is one, begins and ends before a position
abbrev pub EndBefore : {C : Type 0} → List (PlacedRun C) → ℕ → Type 0
EndBefore {C} runs position =
    IfSome (slice_get runs (length runs - 1)) (λ (last : PlacedRun C). (last.0 < position) × (last.1.end < position))

module _ {C A : Type 0} (kind : chunk_range.Ghosts C A) where
  -- a run can follow others: it has a position, its range is open at both ends, and a position before it stays free
  abbrev pub CanFollow : List (PlacedRun C) → PlacedRun C → Type 0
  CanFollow runs run =
      (run.0 < run.1.end) × (kind.start run.1.range ≡ false) × (kind.end run.1.range ≡ false) × EndBefore runs run.0

  -- a range can be placed as that of some chunks: there is a chunk, and both ends are open
  abbrev pub CanPlace : ℕ → C → Type 0
  CanPlace count range = (0 < count) × (kind.start range ≡ false) × (kind.end range ≡ false)

  -- a run stands for chunks, at least one, by a range that is open at both ends
  abbrev pub IsRunOf : List Node → PlacedRun C → Type 0
  IsRunOf chunks run =
      (0 < length chunks) × (run.1.end ≡ run.0 + length chunks) × kind.stands run.1.range chunks
      × (kind.start run.1.range ≡ false) × (kind.end run.1.range ≡ false)

  -- the runs stand for chunks by rising positions, one run for all that are adjacent
  abbrev pub StandFor : List (PlacedRun C) → List Placed → Type 0
  StandFor [] placed = placed ≡ []
  StandFor (run ∷ runs) placed =
      (chunks : List Node) × (others : List Placed) × (placed ≡ placed_from run.0 chunks ++ others)
      × IsRunOf chunks run × AreFrom (run.1.end + 1) others × StandFor runs others

  -- chunks are those of a run's range, or none if there is no run
  abbrev pub AreOf : Option (PlacedRun C) → List Node → Type 0
  AreOf None chunks = chunks ≡ []
  AreOf (Some run) chunks = kind.stands run.1.range chunks

  -- chunks have one range under the same marks
  abbrev pub HaveOneRange : Type 0
  HaveOneRange = (a b : C) (chunks : List Node) → kind.stands a chunks → kind.stands b chunks
      → kind.start a ≡ kind.start b → kind.end a ≡ kind.end b → a ≡ b

  -- the sum of the sizes of all runs
  abbrev pub size_of_runs : List (PlacedRun C) → ℕ
  size_of_runs runs = sum_by (λ run. kind.total run.1.range) runs

  -- runs after as many chunks as a number says are placed at free positions from the first one on: a list of which a fact
  -- holds, and whose sizes have a sum. The run that ends right before them and the one that begins right after them, if
  -- there are any, become one run with them. The others stay.
  pub record AreMerged (old : List (PlacedRun C)) (first count bytes : ℕ) (meant : List Node → Type 0) (new : List (PlacedRun C)) : Type 0 where
    pub front : List (PlacedRun C)
    pub previous : Option (PlacedRun C)
    pub next : Option (PlacedRun C)
    pub back : List (PlacedRun C)
    pub run : PlacedRun C
    pub were : old ≡ front ++ option_to_list previous ++ option_to_list next ++ back
    pub are : new ≡ front ++ run ∷ back
    pub front_ends : All (λ other. other.1.end < first) front
    pub previous_ends : IfSome previous (λ other. other.1.end ≡ first)
    pub next_begins : IfSome next (λ other. other.0 ≡ first + count)
    pub back_begins : All (λ other. first + count < other.0) back
    pub begins : run.0 ≡ first_of previous first
    pub ends : run.1.end ≡ end_of next (first + count)
    pub stands : (before chunks after : List Node) → AreOf previous before → meant chunks → AreOf next after →
        kind.stands run.1.range (before ++ chunks ++ after)
    pub no_start : kind.start run.1.range ≡ false
    pub no_end : kind.end run.1.range ≡ false
    pub size : kind.total run.1.range
        ≡ size_of_runs (option_to_list previous) + bytes + size_of_runs (option_to_list next)

  -- the same for these chunks
  abbrev pub AreJoined : List (PlacedRun C) → ℕ → List Node → List (PlacedRun C) → Type 0
  AreJoined old first chunks new = AreMerged old first (length chunks) (total_size chunks) (λ these. these ≡ chunks) new

  -- and for a range of chunks
  abbrev pub IsRangeJoined : List (PlacedRun C) → ℕ → ℕ → C → List (PlacedRun C) → Type 0
  IsRangeJoined old first count range new = AreMerged old first count (kind.total range) (kind.stands range) new

-- a session in contracts: its runs, what it keeps of hashes, and the sum of all sizes
pub record Parts (C H : Type 0) : Type 0 where
  pub runs : List (PlacedRun C)
  pub kept : H
  pub size : ℕ

module _ {C A : Type 0} (kind : chunk_range.Ghosts C A) where
  -- a session after a run is added to its end
  abbrev pub with_last : {H : Type 0} → Parts C H → PlacedRun C → Parts C H
  with_last session run = record {
    runs = session.runs ++ run ∷ [];
    kept = session.kept;
    size = session.size + kind.total run.1.range;
  }

  -- a fact holds of the chunks that a session stands for
  abbrev pub HoldsOfPlaced : {H : Type 0} → Parts C H → (List Placed → Type 0) → Type 0
  HoldsOfPlaced session fact = (placed : List Placed) → StandFor kind session.runs placed → fact placed

  -- what a session stood for, and more chunks at adjacent positions, another stands for
  abbrev pub PlacesChunks : {H : Type 0} → Parts C H → ℕ → List Node → Parts C H → Type 0
  PlacesChunks old first chunks new = HoldsOfPlaced old (λ placed. StandFor kind new.runs (place placed first chunks))

  -- if a range stands for as many chunks as was said, then a session stands for them too
  abbrev pub PlacesRange : {H : Type 0} → Parts C H → ℕ → ℕ → C → Parts C H → Type 0
  PlacesRange old first count range new =
      (chunks : List Node) → length chunks ≡ count → kind.stands range chunks → PlacesChunks old first chunks new

  -- if two lists of runs stand for chunks, then no position is taken by both, and runs stand for the chunks of both, each
  -- at its position
  abbrev pub StandForBoth : List (PlacedRun C) → List (PlacedRun C) → List (PlacedRun C) → Type 0
  StandForBoth first second all =
      (placed more : List Placed) → StandFor kind first placed → StandFor kind second more
      → AreDisjoint placed more × StandFor kind all (place_each placed more)

  -- runs that are none or one have this root: that of no chunks, or of the chunks that the range stands for
  abbrev pub HaveRoot : List (PlacedRun C) → List ℕ → Type 0
  HaveRoot [] root = IsRoot [] root
  HaveRoot (run ∷ runs) root = (chunks : List Node) → kind.stands run.1.range chunks → IsRoot chunks root

  -- and this file hash under a salt
  abbrev pub HaveSaltedHash : List ℕ → List (PlacedRun C) → List ℕ → Type 0
  HaveSaltedHash salt [] file = IsFileHash [] salt file
  HaveSaltedHash salt (run ∷ runs) file =
      (chunks : List Node) → kind.stands run.1.range chunks
      → (root : List ℕ) × IsRoot chunks root × (file ≡ salted_root salt root)

  -- and this file hash without a salt, which is the one under 32 zero bytes
  abbrev pub HaveFileHash : List (PlacedRun C) → List ℕ → Type 0
  HaveFileHash runs file = HaveSaltedHash (replicate 32 0) runs file

module _ {H A : Type 0} (hashes : kept_hashes.Ghosts H A) where
  -- a session without chunks, which knows no hashes
  abbrev pub HasNothing : {C : Type 0} → Parts C H → Type 0
  HasNothing session = (session.runs ≡ []) × (session.size ≡ 0) × hashes.knows session.kept []

  -- what was known is known
  abbrev pub KeepsKnown : H → H → Type 0
  KeepsKnown old new = (known : List Hash) → hashes.knows old known → hashes.knows new known

  -- and so are the hashes of chunks
  abbrev pub LearnsHashes : H → List Node → H → Type 0
  LearnsHashes old chunks new =
      (known all : List Hash) → hashes.knows old known → AreBoth known (hashes_of chunks) all → hashes.knows new all

  -- what either knew is known
  abbrev pub LearnsAll : H → H → H → Type 0
  LearnsAll old other new =
      (known more all : List Hash) → hashes.knows old known → hashes.knows other more → AreBoth known more all → hashes.knows new all

  -- a number counts the hashes of chunks that are reported as new
  abbrev pub CountsNew : H → List Node → ℕ → Type 0
  CountsNew old chunks count =
      (known : List Hash) → hashes.knows old known
      → (new : List Hash) × hashes.tells known (hashes_of chunks) new × (count ≡ length new)

  -- the same of the hashes that another knows
  abbrev pub CountsNewOf : H → H → ℕ → Type 0
  CountsNewOf old other count =
      (known more : List Hash) → hashes.knows old known → hashes.knows other more
      → (new : List Hash) × hashes.tells known more new × (count ≡ length new)

  -- a session after a failed call: the same runs, the same size and the same known hashes
  abbrev pub IsUnchanged : {C : Type 0} → Parts C H → Parts C H → Type 0
  IsUnchanged old new = (new.runs ≡ old.runs) × (new.size ≡ old.size) × KeepsKnown old.kept new.kept
