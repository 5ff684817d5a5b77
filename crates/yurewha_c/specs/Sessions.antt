-- Sessions over subtrees that keep all hashes, as handles own them.
use Rattle.std.specs.Prelude.{◌≡◌, ◌≢◌, ◌⊎◌, ◌↔◌, ℕ, Bool, true, false, ◌+◌, ◌^◌, ◌<◌, ◌≤◌, Option, None, List, [], find, IfSome, IsSomeAnd}
use Rattle.std.specs.declared.alloc.Global.{Global}
use Rattle.xet_merkle.specs.Levels.{levels_size}
use Rattle.xet_merkle.specs.Subtree.{Subtree}
use Rattle.upload_session.specs.Gaps.{IsFirstTaken}
use Rattle.upload_session.specs.Hashes.{AreNew, Knows}
use Rattle.upload_session.specs.Session.{Placed, PlacedRun, ends_after, meet, with_last, AreBothAt, AreFree, CanFollow, CanPlace, Cover, HaveBoth, IsRangeJoined, IsWhole, LearnsAll, PlacesRange, StandFor, StandForBoth}
use Rattle.upload_session.specs.declared.kept_hashes.KeptHashes as kept_hashes
use Rattle.upload_session.specs.declared.kept_hashes.SeenHashes.{SeenHashes}
use Rattle.upload_session.specs.Subtrees.{subtrees}
use Rattle.yurewha_c.specs.Handles.{BothHold}
use Rattle.yurewha_c.specs.Statuses.{done, arguments, sizes, memory, empty_handle, session_gap, session_overlap, session_positions}
use Rattle.yurewha_c.specs.declared.kept_session.KeptSession.{KeptSession}

-- what a session keeps of hashes: all
abbrev pub seen_hashes : kept_hashes.Ghosts (SeenHashes Global) Global
seen_hashes = record { knows = Knows; tells = AreNew }

-- a session stands for chunks by their positions
abbrev pub Stands : KeptSession → List Placed → Type 0
Stands kept placed = StandFor {A = Global} subtrees kept.session.runs placed

-- a fact holds of the chunks that a session stands for
abbrev pub HoldsOfPlaced : KeptSession → (List Placed → Type 0) → Type 0
HoldsOfPlaced kept fact = (placed : List Placed) → Stands kept placed → fact placed

-- the first run of a session that ends after a position
abbrev pub run_from : KeptSession → ℕ → Option (PlacedRun Subtree)
run_from kept position = find (ends_after position) kept.session.runs

-- the status of a call on all chunks of a session, whose runs must have exactly the positions below a total
pub record IsWholeStatus (session : Option KeptSession) (total status : ℕ) : Type 0 where
  pub on_gap : IfSome session (λ kept. (status ≡ session_gap) ↔ ¬ Cover total kept.session.runs)
  pub on_done : status ≡ done → IsSomeAnd session (λ kept. Cover total kept.session.runs)
  pub on_empty : (status ≡ empty_handle) ↔ (session ≡ None)
  pub statuses : (status ≡ done) ⊎ ((status ≡ empty_handle) ⊎ ((status ≡ session_gap) ⊎ (status ≡ memory)))
  pub whole : IfSome session (λ kept. HoldsOfPlaced kept (λ placed. IsWhole total placed ↔ Cover total kept.session.runs))

-- 1 for true, and 0 for false
abbrev pub one_if : Bool → ℕ
one_if true = 1
one_if false = 0

-- a run by its first position, the position after its last one, and its range
abbrev pub run_of : ℕ → ℕ → Subtree → PlacedRun Subtree
run_of first end range = (first, record { end = end; range = range })

-- a run can follow all runs of a session
abbrev pub CanPush : KeptSession → PlacedRun Subtree → Type 0
CanPush kept run = CanFollow {A = Global} subtrees kept.session.runs run

-- a session after a run is added to its end
abbrev pub pushed : KeptSession → PlacedRun Subtree → KeptSession
pushed kept run = record {
  session = with_last {A = Global} subtrees kept.session run;
  keeps_hashes = kept.keeps_hashes;
}

-- the status of a call that adds a run to the end of a session; if an allocation fails, it may be `memory` instead of
-- `arguments` or `sizes`
pub record IsPushStatus (session : Option KeptSession) (first end : ℕ) (range : Option Subtree) (status : ℕ) : Type 0 where
  pub on_empty : (status ≡ empty_handle) ↔ ((session ≡ None) ⊎ (range ≡ None))
  pub on_arguments : status ≢ memory → ((status ≡ arguments)
      ↔ BothHold session range (λ kept range. ¬ CanPush kept (run_of first end range)))
  pub on_sizes : status ≢ memory → ((status ≡ sizes) ↔ BothHold session range (λ kept range.
      CanPush kept (run_of first end range) × (2 ^ 64 ≤ kept.session.size + levels_size range.levels)))
  pub statuses : (status ≡ done) ⊎ ((status ≡ empty_handle) ⊎ ((status ≡ arguments) ⊎ ((status ≡ sizes) ⊎ (status ≡ memory))))

-- a session after a range of as many chunks as was said is put at the positions from a first one on
pub record IsRangePut (old : KeptSession) (first count : ℕ) (range : Subtree) (new : KeptSession) : Type 0 where
  pub joined : IsRangeJoined {A = Global} subtrees old.session.runs first count range new.session.runs
  pub placed : PlacesRange {A = Global} subtrees old.session first count range new.session
  pub size : new.session.size ≡ old.session.size + levels_size range.levels
  pub hashes : new.session.kept ≡ old.session.kept
  pub same_kind : new.keeps_hashes ≡ old.keeps_hashes

-- the status of a call that puts a range; if an allocation fails, it may be `memory` instead of `arguments` or one below
pub record IsPutRangeStatus (session : Option KeptSession) (first count : ℕ) (range : Option Subtree) (status : ℕ) : Type 0 where
  pub on_empty : (status ≡ empty_handle) ↔ ((session ≡ None) ⊎ (range ≡ None))
  pub on_arguments : status ≢ memory → ((status ≡ arguments)
      ↔ BothHold session range (λ kept range. ¬ CanPlace {A = Global} subtrees count range))
  pub on_overlap : status ≢ memory → ((status ≡ session_overlap) ↔ BothHold session range (λ kept range.
      CanPlace {A = Global} subtrees count range × (position : ℕ) × IsFirstTaken kept.session.runs first count position))
  pub on_positions : status ≢ memory → ((status ≡ session_positions) ↔ BothHold session range (λ kept range.
      CanPlace {A = Global} subtrees count range × (meet kept.session.runs first count ≡ false) × (2 ^ 64 ≤ first + count)))
  pub on_sizes : status ≢ memory → ((status ≡ sizes) ↔ BothHold session range (λ kept range.
      CanPlace {A = Global} subtrees count range × (meet kept.session.runs first count ≡ false) × (first + count < 2 ^ 64)
      × (2 ^ 64 ≤ kept.session.size + levels_size range.levels)))
  pub statuses : (status ≡ done) ⊎ ((status ≡ empty_handle) ⊎ ((status ≡ arguments) ⊎ ((status ≡ session_overlap)
      ⊎ ((status ≡ session_positions) ⊎ ((status ≡ sizes) ⊎ (status ≡ memory))))))

-- a session after another is joined to it
pub record IsJoinOf (one other new : KeptSession) : Type 0 where
  pub placed : StandForBoth {A = Global} subtrees one.session.runs other.session.runs new.session.runs
  pub taken : HaveBoth one.session.runs other.session.runs new.session.runs
  pub size : new.session.size ≡ one.session.size + other.session.size
  pub learned : one.keeps_hashes ≡ true → LearnsAll seen_hashes one.session.kept other.session.kept new.session.kept
  pub forgotten : one.keeps_hashes ≡ false → Knows new.session.kept []
  pub same_kind : new.keeps_hashes ≡ one.keeps_hashes

-- the status of a call that joins two sessions
pub record IsJoinStatus (one other : Option KeptSession) (status : ℕ) : Type 0 where
  pub on_empty : (status ≡ empty_handle) ↔ ((one ≡ None) ⊎ (other ≡ None))
  pub on_overlap : status ≡ session_overlap → BothHold one other (λ one other.
      (position : ℕ) × AreBothAt one.session.runs other.session.runs position)
  pub on_free : status ≢ session_overlap → status ≢ empty_handle → BothHold one other (λ one other.
      AreFree one.session.runs other.session.runs)
  pub on_sizes : (status ≡ sizes) ↔ BothHold one other (λ one other.
      AreFree one.session.runs other.session.runs × (2 ^ 64 ≤ one.session.size + other.session.size))
  pub statuses : (status ≡ done) ⊎ ((status ≡ empty_handle) ⊎ ((status ≡ session_overlap) ⊎ ((status ≡ sizes) ⊎ (status ≡ memory))))
