-- The session that a JSON value describes, and the lowest of the rules 1 to 7 that it breaks. Members with other names are
-- ignored. In place of rule 5 stands a rule of subtrees.
use Rattle.std.specs.Prelude.{◌≡◌, ℕ, ◌^◌, ◌<◌, ◌≤◌, All, Bool, if◌then◌else◌, IsUtf8, List, [], ◌∷◌, ◌++◌, Some, None, codes, length, option_and_then, slice_index_or, take}
use Rattle.std.specs.List.{AllZip}
use Rattle.json.specs.Json.{Json, document}
use Rattle.json.specs.Strict.{HasUniqueKeys}
use Rattle.serde_json.specs.Data.{Data, Members, array}
use Rattle.serde_json.specs.Find.{get, as_object}
use Rattle.serde_json.specs.Read.{read}
use Rattle.serde_json.specs.View.{items_of}
use Rattle.std.specs.declared.alloc.Global.{Global}
use Rattle.json_text.specs.JsonText.{IsShallow}
use Rattle.level_nodes.specs.NodeJson.{whole}
use Rattle.subtree_levels.specs.Subtree.{Subtree}
use Rattle.xet_merkle.specs.JsonRules as subtree
use Rattle.upload_session.specs.Hashes.{Hash, Knows}
use Rattle.upload_session.specs.Session.{Parts, PlacedRun, size_of_runs, CanFollow}
use Rattle.upload_session.specs.declared.kept_hashes.SeenHashes.{SeenHashes}
use Rattle.upload_session.specs.Subtrees.{subtrees}
use Rattle.session_json.specs.declared.fault.SessionTextFault.{SessionTextFault}
use Rattle.session_json.specs.declared.fault.SessionTextFault.TheVariants as faults

-- a text is JSON that isn't nested too deep, no object in it has a member twice, and this is its value
pub record IsStrictText (text : List ℕ) (value : Data) : Type 0 where
  pub utf8 : IsUtf8 text
  pub shallow : IsShallow text
  pub json : Json
  pub is_json : document text ≡ Some json
  pub unique : HasUniqueKeys json
  pub value_is : read text ≡ Some value

-- the runs and the known hashes of an object, each an array
pub record HasLists (json : Data) (runs hashes : List Data) : Type 0 where
  pub runs_are : get (codes "runs") json ≡ Some (array (items_of runs))
  pub hashes_are : get (codes "known_hashes") json ≡ Some (array (items_of hashes))

-- an object with `first` and `end`, whole numbers, and `chunks`, any value
pub record HasRunMembers (value : Data) (first end : ℕ) (chunks : Data) : Type 0 where
  pub first_is : option_and_then whole (get (codes "first") value) ≡ Some first
  pub end_is : option_and_then whole (get (codes "end") value) ≡ Some end
  pub chunks_are : get (codes "chunks") value ≡ Some chunks

abbrev pub IsRunValue : Data → Type 0
IsRunValue value = (first end : ℕ) × (chunks : Data) × HasRunMembers value first end chunks

-- an array of four whole numbers is a hash
pub record ReadsHash (value : Data) (hash : Hash) : Type 0 where
  pub a : Data
  pub b : Data
  pub c : Data
  pub d : Data
  pub words : ℕ × ℕ × ℕ × ℕ
  pub four : value ≡ array (items_of (a ∷ b ∷ c ∷ d ∷ []))
  pub a_is : whole a ≡ Some words.0
  pub b_is : whole b ≡ Some words.1
  pub c_is : whole c ≡ Some words.2
  pub d_is : whole d ≡ Some words.3
  pub hash_is : hash ≡ words.0 ∷ words.1 ∷ words.2 ∷ words.3 ∷ []

-- a run: its positions, and the subtree that the value of its chunks describes
pub record ReadsRun (value : Data) (run : PlacedRun Subtree) : Type 0 where
  pub chunks : Data
  pub members : HasRunMembers value run.0 run.1.end chunks
  pub reads : subtree.Reads chunks run.1.range

-- each run can follow those before it
abbrev pub CanFollowEach : List (PlacedRun Subtree) → Type 0
CanFollowEach runs =
    (i : ℕ) (d : PlacedRun Subtree) → i < length runs → CanFollow {A = Global} subtrees (take i runs) (slice_index_or runs i d)

abbrev pub size_of : List (PlacedRun Subtree) → ℕ
size_of runs = size_of_runs {A = Global} subtrees runs

-- the runs and hashes of a value, before the runs are checked together
pub record ReadsLists (json : Data) (runs : List (PlacedRun Subtree)) (hashes : List Hash) : Type 0 where
  pub run_values : List Data
  pub hash_values : List Data
  pub lists : HasLists json run_values hash_values
  pub runs_are : AllZip ReadsRun run_values runs
  pub known_are : AllZip ReadsHash hash_values hashes

-- a value describes a session: its runs, and the hashes that it knows
pub record Reads (json : Data) (runs : List (PlacedRun Subtree)) (hashes : List Hash) : Type 0 where
  pub lists : ReadsLists json runs hashes
  pub follow : CanFollowEach runs
  pub fits : size_of runs < 2 ^ 64

-- the lowest rule but 5 that a value breaks: it isn't an object; `runs` or `known_hashes` isn't an array; an element of
-- `runs` isn't a run; an element of `known_hashes` isn't a hash; a run can't follow those before it; the sizes pass 64 bits
pub data BreaksRule (json : Data) : ℕ → Type 0 where
  no_object : as_object json ≡ None → BreaksRule json 1
  no_lists : {members : Members} → as_object json ≡ Some members →
      ((runs hashes : List Data) → ¬ (HasLists json runs hashes)) → BreaksRule json 2
  no_run : {runs hashes : List Data} → HasLists json runs hashes → ¬ (All IsRunValue runs) → BreaksRule json 3
  no_hash : {runs hashes : List Data} → HasLists json runs hashes → All IsRunValue runs →
      ((known : List Hash) → ¬ (AllZip ReadsHash hashes known)) → BreaksRule json 4
  no_place : {runs : List (PlacedRun Subtree)} {known : List Hash} → ReadsLists json runs known →
      ¬ (CanFollowEach runs) → BreaksRule json 6
  no_size : {runs : List (PlacedRun Subtree)} {known : List Hash} → ReadsLists json runs known → CanFollowEach runs →
      2 ^ 64 ≤ size_of runs → BreaksRule json 7

-- of the values of runs, this is the first whose chunks aren't a subtree, and the lowest rule of subtrees that they break
pub record BreaksSubtreeOf (values : List Data) (rule : ℕ) : Type 0 where
  pub before : List Data
  pub value : Data
  pub after : List Data
  pub values_are : values ≡ before ++ value ∷ after
  pub runs : List (PlacedRun Subtree)
  pub runs_are : AllZip ReadsRun before runs
  pub first : ℕ
  pub end : ℕ
  pub chunks : Data
  pub members : HasRunMembers value first end chunks
  pub broken : subtree.BreaksRule chunks rule

-- a value breaks rule 5, and none with a lower number, by the lowest rule of subtrees that the chunks of a run break
pub record BreaksSubtreeRule (json : Data) (rule : ℕ) : Type 0 where
  pub run_values : List Data
  pub hash_values : List Data
  pub lists : HasLists json run_values hash_values
  pub are_runs : All IsRunValue run_values
  pub hashes : List Hash
  pub known_are : AllZip ReadsHash hash_values hashes
  pub of_runs : BreaksSubtreeOf run_values rule

-- a fault that a text has
abbrev pub HasFault : List ℕ → SessionTextFault → Type 0
HasFault text faults.Text = (json : Data) → ¬ (IsStrictText text json)
HasFault text (faults.Rule rule) = (json : Data) × IsStrictText text json × BreaksRule json rule
HasFault text (faults.Subtree rule) = (json : Data) × IsStrictText text json × BreaksSubtreeRule json rule
HasFault text faults.Memory = Unit {0}

-- a text says a session: its runs and its size, and the hashes that it knows, or none if none are kept
pub record SaysSession (text : List ℕ) (keep_hashes : Bool) (session : Parts Subtree (SeenHashes Global)) : Type 0 where
  pub json : Data
  pub is_json : IsStrictText text json
  pub hashes : List Hash
  pub reads : Reads json session.runs hashes
  pub size : session.size ≡ size_of session.runs
  pub known : Knows session.kept (if keep_hashes then hashes else [])
