use Rattle.std.proofs.Common.{arith, ◌<◌, refl, take, get_or, length, sym, subst, ◌∙◌}
use Rattle.std.specs.declared.alloc.Global.{Global}
use Rattle.std.proofs.lemmas.Bool.{false≢true}
use Rattle.std.proofs.lemmas.List.{length-map}
use Rattle.subtree_levels.specs.Subtree.{Subtree}
use Rattle.upload_session.specs.Session.{PlacedRun, CanFollow}
use Rattle.upload_session.specs.Subtrees.{subtrees}
use Rattle.session_json.specs.Steps.SavedRuns.{placed, all_placed}
use Rattle.session_json.proofs.Following.{follows_placed, up_to}
use Rattle.session_json.proofs.reading.follow_each.Goals as goal

pub runs-init : goal.runs-init
runs-init c = λ k d below. absurd (omega (arith, below))

pub runs-preserved : goal.runs-preserved
runs-preserved c =
    up_to (λ k (d : PlacedRun Subtree). CanFollow {A = Global} subtrees (take k (all_placed c.args.runs.now)) (get_or (all_placed c.args.runs.now) k d))
    c.runs.i c.runs.invariant
    (λ d.
    (follows_placed c.args.runs.now c.runs.i c.index-runs-i.result d c.runs-test.true c.index-runs-i.is).1
    (c.follows.ensures.0 c.if-not-follows.false))

pub returns-then-not-follows : goal.returns-then-not-follows
returns-then-not-follows c = (
  λ t. absurd (false≢true t),
  λ each.
      let first : PlacedRun Subtree = placed c.index-runs-i.result in
      let within : c.runs.i < length (all_placed c.args.runs.now) = subst (λ n. c.runs.i < n) (sym (length-map c.args.runs.now placed)) c.runs-test.true in
      let follows = c.follows.ensures.1
      ((follows_placed c.args.runs.now c.runs.i c.index-runs-i.result first c.runs-test.true c.index-runs-i.is).0 (each c.runs.i first within)) in
      absurd (false≢true (sym c.if-not-follows.true ∙ follows)),
)

pub returns : goal.returns
returns c = (λ _ k d within. c.runs.invariant k d (omega (arith, within, length-map c.args.runs.now placed, c.runs-test.false)), λ _. refl)
