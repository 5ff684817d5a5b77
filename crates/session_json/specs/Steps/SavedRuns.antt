-- Runs that are read, as those of a session. Only private contracts use them.
use Rattle.std.specs.Prelude.{List, map}
use Rattle.serde_json.specs.Data.{Data}
use Rattle.subtree_levels.specs.Subtree.{Subtree}
use Rattle.upload_session.specs.Session.{PlacedRun}
use Rattle.session_json.specs.Reading.{ReadsRun}
use Rattle.session_json.specs.declared.reading.SavedRun.{SavedRun}

abbrev pub placed : SavedRun → PlacedRun Subtree
placed run = (run.first, record { end = run.end; range = run.range })

abbrev pub all_placed : List SavedRun → List (PlacedRun Subtree)
all_placed runs = map placed runs

abbrev pub ReadsSaved : Data → SavedRun → Type 0
ReadsSaved value run = ReadsRun value (placed run)
