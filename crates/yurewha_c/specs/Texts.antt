-- Texts in a caller's room.
use Rattle.std.specs.Prelude.{◌≡◌, ℕ, ◌<◌, ◌≤◌, List, ◌++◌, drop, length, codes}
use Rattle.yurewha_c.specs.Statuses.{done, room}

-- a text is written to the beginning of a room if it fits, and its length is always written
pub record WritesText (text old new : List ℕ) (len status : ℕ) : Type 0 where
  pub written : length text ≤ length old → (status ≡ done) × (new ≡ text ++ drop (length text) old)
  pub unwritten : length old < length text → (status ≡ room) × (new ≡ old)
  pub counted : len ≡ length text

abbrev pub version_text : List ℕ
version_text = codes "1.1.0"
