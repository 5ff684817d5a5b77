-- The texts that are read as JSON, in each place where a text may come from a stranger.
use Rattle.std.specs.Prelude.{◌≡◌, ◌≤◌, ℕ, IsUtf8, List, Some}
use Rattle.serde_json.specs.Data.{Data}
use Rattle.serde_json.specs.Read.{read}
use Rattle.json_text.specs.Nesting.{nesting}

-- a text is nested no deeper than what is read
abbrev pub IsShallow : List ℕ → Type 0
IsShallow text = nesting text ≤ 32

-- a text is the JSON of a value, and no deeper
pub record IsJsonText (text : List ℕ) (json : Data) : Type 0 where
  pub utf8 : IsUtf8 text
  pub shallow : IsShallow text
  pub value_is : read text ≡ Some json
