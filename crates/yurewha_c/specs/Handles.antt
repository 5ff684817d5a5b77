-- What handles own, and what calls that only read them return.
use Rattle.std.specs.Prelude.{◌≡◌, ◌⊎◌, ◌↔◌, ℕ, Option, Some, None, List, map}
use Rattle.xet_merkle.specs.Subtree.{Subtree}
use Rattle.yurewha_c.specs.Statuses.{done, memory, empty_handle}
use Rattle.yurewha_c.specs.declared.subtree_handle.SubtreeHandle.{SubtreeHandle}

-- both own something, and P holds of it
abbrev pub BothHold : {A B : Type 0} → Option A → Option B → (A → B → Type 0) → Type 0
BothHold None other P = ⊥
BothHold (Some a) None P = ⊥
BothHold (Some a) (Some b) P = P a b

-- a call reports an empty handle and writes nothing; or it is done, and P holds of what the handle owns
abbrev pub Answers : {A : Type 0} → Option A → ℕ → Type 0 → (A → Type 0) → Type 0
Answers None status unwritten P = (status ≡ empty_handle) × unwritten
Answers (Some kept) status unwritten P = (status ≡ done) × P kept

-- such a call leaves the handle unchanged
abbrev pub Reads : {A : Type 0} → Option A → Option A → ℕ → Type 0 → (A → Type 0) → Type 0
Reads old new status unwritten P = (new ≡ old) × Answers old status unwritten P

-- the same of what two handles own
abbrev pub ReadsBoth : {A B : Type 0} → Option A → Option B → ℕ → Type 0 → (A → B → Type 0) → Type 0
ReadsBoth None other status unwritten P = (status ≡ empty_handle) × unwritten
ReadsBoth (Some a) None status unwritten P = (status ≡ empty_handle) × unwritten
ReadsBoth (Some a) (Some b) status unwritten P = (status ≡ done) × P a b

-- the status of a call that copies what a handle owns
pub record IsCopyStatus {A : Type 0} (value : Option A) (status : ℕ) : Type 0 where
  pub on_empty : (status ≡ empty_handle) ↔ (value ≡ None)
  pub statuses : (status ≡ done) ⊎ ((status ≡ empty_handle) ⊎ (status ≡ memory))

-- what each handle owns
abbrev pub values_of : List SubtreeHandle → List (Option Subtree)
values_of handles = map (λ handle. handle.value) handles

-- no handle is empty, and these are what they own
abbrev pub AllHold : List SubtreeHandle → List Subtree → Type 0
AllHold handles kept = values_of handles ≡ map (λ subtree. Some subtree) kept
