use Rattle.std.proofs.Common.{◌<◌, ℕ, take, get_or}
use Rattle.std.specs.declared.alloc.Global.{Global}
use Rattle.subtree_levels.specs.Subtree.{Subtree}
use Rattle.upload_session.specs.Session.{PlacedRun, CanFollow}
use Rattle.upload_session.specs.Subtrees.{subtrees}
use Rattle.session_json.specs.Steps.SavedRuns.{all_placed}
use Rattle.session_json.proofs.reading.follow_each.Given as goal

abbrev pub invariant-runs : goal.invariant-runs
invariant-runs l =
    (k : ℕ) (d : PlacedRun Subtree) → k < l.i → CanFollow {A = Global} subtrees (take k (all_placed l.runs)) (get_or (all_placed l.runs) k d)
