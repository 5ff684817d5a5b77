-- Lines of ranges: each is the JSON text of a subtree that is open at both ends.
use Rattle.std.specs.Prelude.{◌≡◌, ℕ, ◌^◌, ◌<◌, ◌≤◌, ◌⊎◌, false, IsTrue, Option, Some, None, List, [], ◌∷◌, ◌++◌, length, flat_map}
use Rattle.std.specs.List.{AllZip, concat}
use Rattle.serde_json.specs.Data.{Data}
use Rattle.json_text.specs.JsonText.{IsJsonText}
use Rattle.serde_json.specs.Written.{compact_text}
use Rattle.xet_merkle.specs.Groups.{Node}
use Rattle.xet_merkle.specs.Levels.{levels_size}
use Rattle.xet_merkle.specs.Subtree.{Subtree, IsCanonical}
use Rattle.xet_merkle.specs.SubtreeJson.{subtree_json}
use Rattle.xet_merkle.specs.JsonRules.{BreaksRule, Reads}
use Rattle.xet_merkle.specs.Merging.{AreCanonical, ranges_size}
use Rattle.line_io.specs.Lines.{byte_limit, content, newline}

-- neither end of a subtree is marked
abbrev pub IsOpen : Subtree → Type 0
IsOpen range = (range.at_start ≡ false) × (range.at_end ≡ false)

-- some bytes are the JSON text of a subtree that is open at both ends
abbrev pub SaysRange : List ℕ → Subtree → Type 0
SaysRange text range = (json : Data) × IsJsonText text json × Reads json range × IsOpen range

-- they aren't: their value breaks a rule, and this is the lowest; or they aren't JSON text, or that of a subtree with a
-- mark
abbrev pub SaysNoRange : List ℕ → Option ℕ → Type 0
SaysNoRange text (Some rule) = (json : Data) × IsJsonText text json × BreaksRule json rule
SaysNoRange text None =
    ((json : Data) → ¬ (IsJsonText text json))
    ⊎ ((json : Data) × (range : Subtree) × IsJsonText text json × Reads json range × (IsTrue range.at_start ⊎ IsTrue range.at_end))

-- lines say ranges, one each, whose sizes fit 64 bits, and no byte is past the limit
pub record AreRanges (lines : List (List ℕ)) (ranges : List Subtree) : Type 0 where
  pub say : AllZip (λ line range. SaysRange (content line) range) lines ranges
  pub fits : ranges_size ranges < 2 ^ 64
  pub within : length (concat lines) ≤ byte_limit

-- the line of a range: its compact JSON text, which describes it, and a newline
pub record IsRangeLine (line : List ℕ) (range : Subtree) : Type 0 where
  pub text : line ≡ compact_text (subtree_json range) ++ newline ∷ []
  pub says : SaysRange (compact_text (subtree_json range)) range

-- adjacent ranges are merged to one that is open at both ends: it has the sum of their sizes and, if they are the
-- canonical subtrees of lists, it is that of the concatenated list
pub record AreMerged (ranges : List Subtree) (merged : Subtree) : Type 0 where
  pub is_open : IsOpen merged
  pub size : levels_size merged.levels ≡ ranges_size ranges
  pub canonical : (lists : List (List Node)) → AreCanonical ranges lists → IsCanonical merged (flat_map (λ list. list) lists)
