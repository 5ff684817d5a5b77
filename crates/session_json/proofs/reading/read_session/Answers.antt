use Rattle.std.proofs.Common.{arith, ◌≡◌, ◌^◌, ◌<◌, ℕ, Bool, List, [], inl, inr, sym, ap, subst, ◌∙◌, if◌then◌else◌}
use Rattle.std.specs.declared.alloc.Global.{Global}
use Rattle.std.proofs.lemmas.Bool.{false≢true}
use Rattle.serde_json.specs.Data.{Data}
use Rattle.xet_roots.specs.Groups.{Node}
use Rattle.xet_roots.proofs.Results.{passed_on}
use Rattle.subtree_levels.specs.Subtree.{Subtree}
use Rattle.upload_session.specs.Hashes.{hashes_of, Hash, Knows}
use Rattle.upload_session.specs.Session.{Parts, PlacedRun}
use Rattle.upload_session.specs.declared.kept_hashes.SeenHashes.{SeenHashes}
use Rattle.session_json.specs.Reading.{no_place, no_size, size_of, CanFollowEach, IsStrictText, Reads, ReadsLists, SaysSession}
use Rattle.session_json.specs.Steps.SavedRuns.{all_placed}
use Rattle.session_json.specs.declared.reading.SavedRun.{SavedRun}
use Rattle.session_json.proofs.Faults.{for_memory, for_rule}
use Rattle.session_json.proofs.reading.read_session.Goals as goal

abbrev Follow : List SavedRun → Type 0
Follow runs = CanFollowEach (all_placed runs)

pub returns-then-not-follow_each-clause-refused : goal.returns-then-not-follow_each-clause-refused
returns-then-not-follow_each-clause-refused c =
    let read = c.in_ok-runs.ensures.read in (
      read.0,
      read.1,
      no_place read.2
          (λ follow.
          absurd (false≢true (sym c.if-not-follow_each.true ∙ c.follow_each.ensures.1 (subst Follow (sym c.deref.ensures.value) follow)))),
    )

pub returns-in_err-push_runs-clause-refused : goal.returns-in_err-push_runs-clause-refused
returns-in_err-push_runs-clause-refused c =
    let read = c.in_ok-runs.ensures.read in
    let follow = subst Follow c.deref.ensures.value (c.follow_each.ensures.0 c.if-not-follow_each.false) in
    passed_on _ c.from_residual-in_err-push_runs.result c.in_err-push_runs.field-0.0 c.from_residual-in_err-push_runs.ensures.1
    (elim c.in_err-push_runs.ensures.refused [
      | inl memory ↦ for_memory _ _ memory
      | inr refused ↦ for_rule _ read.0 7 _ read.1 refused.0 (no_size read.2 follow refused.1)
    ])

-- a session with what a text describes
says : (text : List ℕ) (keep_hashes : Bool) (session : Parts Subtree (SeenHashes Global)) (json : Data) (runs : List (PlacedRun Subtree)) (hashes : List Hash)
    → IsStrictText text json → ReadsLists json runs hashes → CanFollowEach runs → session.runs ≡ runs → session.size ≡ size_of runs → session.size < 2 ^ 64
    → Knows session.kept (if keep_hashes then hashes else []) → SaysSession text keep_hashes session
says text keep_hashes session json runs hashes strict lists follow runs_are size fits known =
    let reads : Reads json runs hashes = record { lists = lists; follow = follow; fits = subst (λ n. n < 2 ^ 64) size fits } in
    record {
      json = json;
      is_json = strict;
      hashes = hashes;
      reads = subst (λ (runs : List (PlacedRun Subtree)). Reads json runs hashes) (sym runs_are) reads;
      size = size ∙ ap size_of (sym runs_are);
      known = known;
    }

pub returns-clause-says : goal.returns-clause-says
returns-clause-says c =
    let read = c.in_ok-runs.ensures.read in
    let follow = subst Follow c.deref.ensures.value (c.follow_each.ensures.0 c.if-not-follow_each.false) in
    let session = c.know_hashes.new.session in
    let small : c.session-2.inside.size < 2 ^ 64 = omega (arith, c.session-2.ranges) in
    says c.args.text.now c.args.keep_hashes session read.0 (all_placed c.in_ok-runs.field-0.runs.items) (hashes_of c.in_ok-runs.field-0.hashes.items)
    read.1 read.2 follow (c.in_ok-know_hashes.ensures.runs ∙ c.in_ok-push_runs.ensures.runs) (c.in_ok-know_hashes.ensures.size ∙ c.in_ok-push_runs.ensures.size)
    (subst (λ (session : Parts Subtree (SeenHashes Global)). session.size < 2 ^ 64) c.session-2.view_is small)
    (subst (λ (nodes : List Node). Knows session.kept (if c.args.keep_hashes then hashes_of nodes else [])) c.deref-2.ensures.value c.in_ok-know_hashes.ensures.known)
