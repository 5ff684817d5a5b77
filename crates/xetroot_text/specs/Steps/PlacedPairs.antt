-- The pairs that are kept by position. Only private contracts and proofs use them.
use Rattle.std.specs.Prelude.{◌≡◌, ℕ, ◌+◌, ◌-◌, ◌^◌, ◌<◌, ◌≤◌, false, IsTrue, List, [], ◌∷◌, length}
use Rattle.xet_roots.specs.Groups.{Node}
use Rattle.xet_roots.specs.Roots.{total_size}
use Rattle.chunk_ranges.specs.declared.chunk_range.ChunkRange as chunk_range
use Rattle.upload_session.specs.Session.{Placed, Parts, StandFor, chunks_of, is_taken, overlaps, place}
use Rattle.upload_session.specs.declared.kept_hashes.NoHashes.{NoHashes}
use Rattle.xetroot_text.specs.declared.fault.LineFault.{LineFault}
use Rattle.xetroot_text.specs.declared.fault.LineFault.TheVariants.{Bad, Overlap, Sizes}
use Rattle.xetroot_text.specs.Answer.{AreGood}

-- placed pairs in private contracts: the session of the ended ranges, the pairs of the open one, the positions of its
-- first pair and of the next one, and the number of all pairs and the sum of their sizes
pub record Gathered (C : Type 0) : Type 0 where
  pub session : Parts C NoHashes
  pub range : List Node
  pub first : ℕ
  pub next : ℕ
  pub count : ℕ
  pub total : ℕ

-- pairs are put at adjacent positions among others, none of which was taken; no pairs can be put at any position
abbrev pub StandAmong : List Placed → ℕ → List Node → List Placed → Type 0
StandAmong before first [] pairs = pairs ≡ before
StandAmong before first (pair ∷ more) pairs =
    (overlaps before first (length (pair ∷ more)) ≡ false)
    × (pairs ≡ place before first (pair ∷ more))

module _ {C A : Type 0} (kind : chunk_range.Ghosts C A) where
  -- a session stands for pairs by position, and its size is theirs
  abbrev pub Stands : Parts C NoHashes → List Placed → Type 0
  Stands session pairs = StandFor kind session.runs pairs × (session.size ≡ total_size (chunks_of pairs))

  -- a session and the pairs of an open range are together some pairs by position, and the next pair has a position
  pub record StandForPlaced (session : Parts C NoHashes) (range : List Node)
      (first next total : ℕ) (pairs : List Placed) : Type 0 where
    pub before : List Placed
    pub ended : Stands session before
    pub among : StandAmong before first range pairs
    pub adjacent : first + length range ≡ next
    pub low : next < 2 ^ 64
    pub total_is : total ≡ total_size (chunks_of pairs)
    pub fits : total < 2 ^ 64

  -- what is kept is some pairs, and the next pair has this position
  abbrev pub StandForPairs : Gathered C → List Placed → ℕ → Type 0
  StandForPairs placed pairs next =
      StandForPlaced placed.session placed.range placed.first next placed.total pairs
      × (placed.next ≡ next)

  -- it is what some good lines say
  abbrev pub StandForLines : Gathered C → List (List ℕ) → Type 0
  StandForLines placed lines =
      (pairs : List Placed) × (next : ℕ) × StandForPairs placed pairs next
      × (placed.count ≡ length pairs) × AreGood lines pairs next

-- the fault of a pair after others: the next position is the last, or taken, or the sizes are more than 2 ^ 64 - 1
abbrev pub IsPairFault : List Placed → ℕ → Node → LineFault → Type 0
IsPairFault pairs next pair Bad = 2 ^ 64 - 1 ≤ next
IsPairFault pairs next pair Overlap = (next < 2 ^ 64 - 1) × IsTrue (is_taken pairs next)
IsPairFault pairs next pair Sizes =
    (next < 2 ^ 64 - 1) × ¬ (IsTrue (is_taken pairs next))
    × (2 ^ 64 ≤ total_size (chunks_of pairs) + pair.1)
