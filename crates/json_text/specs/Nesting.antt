-- How deep a text is nested: the greatest number of `[` and `{` that are unclosed at once outside of strings. A string begins and ends
-- at `"`, and a `\` in it makes the next byte part of it.
use Rattle.std.specs.Prelude.{ℕ, suc, ◌-◌, max, List, [], ◌∷◌, Bool, if◌then◌else◌, ◌==◌, ◌||◌}
use Rattle.json_text.specs.declared.nesting.Place.{Place}
use Rattle.json_text.specs.declared.nesting.Place.TheVariants.{Outside, InString, AfterBackslash}

abbrev pub opens : ℕ → Bool
opens byte = (byte == 91) || (byte == 123)

abbrev pub closes : ℕ → Bool
closes byte = (byte == 93) || (byte == 125)

-- where the byte after this one stands, and how many brackets are unclosed there
abbrev pub after : Place × ℕ → ℕ → Place × ℕ
after (Outside, unclosed) byte =
    if byte == 34 then (InString, unclosed) else (if opens byte then (Outside, suc unclosed) else (if closes byte then (Outside, unclosed - 1) else (Outside, unclosed)))
after (InString, unclosed) byte = if byte == 34 then (Outside, unclosed) else (if byte == 92 then (AfterBackslash, unclosed) else (InString, unclosed))
after (AfterBackslash, unclosed) byte = (InString, unclosed)

-- the most brackets that are unclosed at once, from this place on
abbrev pub deepest : Place × ℕ → List ℕ → ℕ
deepest at [] = at.1
deepest at (byte ∷ bytes) = max at.1 (deepest (after at byte) bytes)

abbrev pub nesting : List ℕ → ℕ
nesting text = deepest (Outside, 0) text
