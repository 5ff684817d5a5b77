use Rattle.std.proofs.Common.{arith, ◌≡◌, ◌++◌, ◌∷◌, [], false, List, ℕ, map, length, subst, sym, ap, ◌∙◌}
use Rattle.std.proofs.lemmas.List.{append_assoc}
use Rattle.serde_json.specs.View.{items_of}
use Rattle.serde_json.specs.Written.{items_text}
use Rattle.subtree_levels.specs.Subtree.{Subtree}
use Rattle.upload_session.specs.Session.{PlacedRun}
use Rattle.session_json.specs.SessionJson.{run_json}
use Rattle.session_json.proofs.Runs.{rest, rest-all, rest-next, rest-none}
use Rattle.session_json.proofs.Text.{Lacks, lacks_next}
use Rattle.session_json.proofs.writing.push_runs.Goals as goal

pub runs-init : goal.runs-init
runs-init c =
    ap (λ (left : List (PlacedRun Subtree)). c.push.new.self.items ++ items_text false (items_of (map run_json left)))
    (rest-all c.args.session.now.runs c.num_runs.ensures.apart)

-- the run that is found is the next one
next : (c : goal.In_ok-push_run) → rest c.runs.position c.args.session.now.runs
    ≡ (c.in-Some.first, record { end = c.in-Some.end; range = c.in-Some.range.now }) ∷ rest c.in-Some.end c.args.session.now.runs
next c =
    let run : PlacedRun Subtree = (c.in-Some.first, record { end = c.in-Some.end; range = c.in-Some.range.now }) in
    rest-next c.runs.position c.args.session.now.runs run c.num_runs.ensures.apart (sym c.in-Some.ensures)

pub runs-smaller : goal.runs-smaller
runs-smaller c = omega (arith, ap length (next c))

pub runs-preserved : goal.runs-preserved
runs-preserved c =
    let run : PlacedRun Subtree = (c.in-Some.first, record { end = c.in-Some.end; range = c.in-Some.range.now }) in
    let whole : List ℕ = c.push.new.self.items ++ items_text false (items_of (map run_json c.args.session.now.runs)) in
    rw (c.in_ok-push_run.ensures, c.in_ok-push_comma.ensures)
    (lacks_next run_json whole c.runs.text.items c.runs.later run (rest c.in-Some.end c.args.session.now.runs)
    (subst (Lacks run_json whole c.runs.text.items c.runs.later) (next c) c.runs.invariant))

pub returns : goal.returns
returns c =
    let left : List ℕ = items_text false (items_of (map run_json c.args.session.now.runs)) in
    c.in_ok-push-2.ensures.items
    ∙ subst (Lacks run_json (c.push.new.self.items ++ left) c.runs.text.items c.runs.later)
    (rest-none c.runs.position c.args.session.now.runs (sym c.in_default.ensures)) c.runs.invariant
    ∙ ap (λ t. t ++ left) c.in_ok-push.ensures.items ∙ append_assoc c.args.text.now.items (91 ∷ []) left
