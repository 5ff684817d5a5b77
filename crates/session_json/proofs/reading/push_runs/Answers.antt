use Rattle.std.proofs.Common.{arith, Err, ◌++◌, ◌^◌, List, reverse, inr, refl, sym, ap, ◌∙◌}
use Rattle.std.proofs.lemmas.List.{nil_from_length, reverse-reverse}
use Rattle.std.specs.declared.alloc.Global.{Global}
use Rattle.subtree_levels.specs.Subtree.{Subtree}
use Rattle.upload_session.specs.Session.{Parts, PlacedRun}
use Rattle.upload_session.specs.declared.kept_hashes.SeenHashes.{SeenHashes}
use Rattle.session_json.specs.Reading.{size_of}
use Rattle.session_json.specs.Steps.SavedRuns.{placed, all_placed}
use Rattle.session_json.specs.declared.reading.SavedRun.{SavedRun}
use Rattle.session_json.proofs.Following.{all_pushed, pushed_next, size_passes, size_pushed}
use Rattle.session_json.proofs.reading.push_runs.Goals as goal

pub runs-init : goal.runs-init
runs-init c = record {
  pushed = ap (λ (done : List (PlacedRun Subtree)). done ++ all_placed (reverse c.reverse.new.self.items)) c.requires.none
      ∙ ap (λ (left : List SavedRun). all_placed (reverse left)) c.reverse.ensures.items ∙ ap all_placed (reverse-reverse c.args.runs.items);
  size = c.requires.size ∙ ap size_of (sym c.requires.none);
  kept = refl;
}

pub runs-preserved : goal.runs-preserved
runs-preserved c =
    let done = c.runs.session.runs in
    let after = c.push_run.new.self.runs in
    let pushed = ap (λ (session : Parts Subtree (SeenHashes Global)). session.runs) c.in-Ok.ensures.pushed in
    record {
      pushed = pushed_next done after (all_placed c.args.runs.items) c.runs.runs.items c.pop.new.self.items c.in-Some.next c.in-Some.ensures.items pushed c.runs.invariant.pushed;
      size = ap (λ (session : Parts Subtree (SeenHashes Global)). session.size) c.in-Ok.ensures.pushed
          ∙ size_pushed done after (placed c.in-Some.next) c.runs.session.size pushed c.runs.invariant.size;
      kept = ap (λ (session : Parts Subtree (SeenHashes Global)). session.kept) c.in-Ok.ensures.pushed ∙ c.runs.invariant.kept;
    }

pub returns-in-Err-SizeOverflow-clause-refused : goal.returns-in-Err-SizeOverflow-clause-refused
returns-in-Err-SizeOverflow-clause-refused c = inr (
  refl,
  size_passes c.runs.session.runs (all_placed c.args.runs.items) c.runs.runs.items c.pop.new.self.items c.in-Some.next c.runs.session.size (2 ^ 64)
      c.in-Some.ensures.items c.runs.invariant.pushed c.runs.invariant.size (c.in-Err-SizeOverflow.ensures.sizes.0 (ap Err c.in-Err-SizeOverflow.field-0-is)).1,
)

pub returns-clause-runs : goal.returns-clause-runs
returns-clause-runs c =
    all_pushed c.runs.session.runs (all_placed c.args.runs.items) c.runs.runs.items (nil_from_length c.runs.runs.items (omega (arith, c.in_default.ensures.cases.0, c.runs.runs.ok.0))) c.runs.invariant.pushed

pub returns-clause-size : goal.returns-clause-size
returns-clause-size c = c.runs.invariant.size ∙ ap size_of
    (all_pushed c.runs.session.runs (all_placed c.args.runs.items) c.runs.runs.items (nil_from_length c.runs.runs.items (omega (arith, c.in_default.ensures.cases.0, c.runs.runs.ok.0))) c.runs.invariant.pushed)
