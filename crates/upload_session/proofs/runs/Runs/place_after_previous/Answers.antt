use Rattle.std.proofs.Common.{arith, nat_cmp, ◌≡◌, ◌≢◌, ◌+◌, ◌^◌, ◌<◌, List, sym, subst, ◌∙◌, ap}
use Rattle.std.specs.Prelude.{Err, Some, is_some, IfErr}
use Rattle.std.proofs.lemmas.Bool.{true≢false}
use Rattle.std.proofs.lemmas.Option.{same_Some}
use Rattle.std.specs.BTreeMap.{is_at, insert_entry}
use Rattle.std.specs.List.Sorted.{IsStrictlySortedBy}
use Rattle.std.specs.Map.{keys_of, lookup, remove_entry, set_value}
use Rattle.std.proofs.lemmas.Map.Steps.{set_value_same}
use Rattle.std.proofs.lemmas.Result.{err_from_is_err_and}
use Rattle.xet_roots.specs.declared.error.CoreError.TheVariants.{OutOfMemory}
use Rattle.upload_session.specs.declared.runs.Run.{Run}
use Rattle.upload_session.specs.Session.{PlacedRun}
use Rattle.upload_session.specs.Steps.Neighbours.{IsPrevious, IsWithNext}
use Rattle.upload_session.specs.Steps.OpenRuns.{IsOpen, AreOpenUpTo, size_at, sizes_of}
use Rattle.upload_session.proofs.AroundEntries.{previous-some, previous-none, previous-found, ends-near, ends-found}
use Rattle.upload_session.proofs.Merging.{made-with, placed-alone, placed-merged}
use Rattle.upload_session.proofs.Neighbours.{around, run_to}
use Rattle.upload_session.proofs.OpenRuns.{alone-open, merged-open, one-within, open_at, size-at, two-within}
use Rattle.upload_session.proofs.Refusals.{at_error, memory_alone}
use Rattle.upload_session.proofs.runs.Runs.place_after_previous.Goals as goal
use Rattle.upload_session.proofs.runs.Runs.place_after_previous.Goals.{in-Some, in-Some-get_mut+in_ok-join-in-Some, in_default, in-None+in_ok-insert-in-None}

pub returns-in_err-join-in-Some-clause-unchanged : goal.returns-in_err-join-in-Some-clause-unchanged
returns-in_err-join-in-Some-clause-unchanged g c =
    let run = c.in-Some-get_mut.run'.now in
    let test = is_at (nat_cmp c.in-Some.begin) in
    let runs = c.self.inside.runs.entries in
    at_error c.from_residual-in_err-join-in-Some.result
    ((c.get_mut.follows.holds (run_to run.end c.join.new.self)).0
    ∙ ap (λ range. set_value test runs (run_to run.end range)) c.in_err-join-in-Some.ensures.unchanged
    ∙ set_value_same test runs run (sym c.in-Some-get_mut.ensures.value)
    ∙ c.self.view_is)

pub returns-clause-placed : goal.returns-clause-placed
returns-clause-placed g c = λ count some after_is runs_apart free opens closes.
    let kind = g.C.ChunkRange in
    let runs = c.args.self.now in
    let first = c.args.first in
    let after = first + count in
    let ahead : first < after = omega (arith, some) in
    let opened = c.requires.room.1.0 in
    let at = around first count runs runs_apart free in
    let made = c.in_ok-made.made in
    let of_made = made-with kind first count c.args.made some runs at runs_apart opened made
    (subst (λ n. IsWithNext kind runs n c.args.made made) after_is c.in_ok-made.ensures.stands)
    (c.in_ok-made.ensures.total ∙ ap (λ n. kind.total c.args.made + size_at kind n runs) after_is) in
    let view = c.self.view_is in
    let test = is_at (nat_cmp after) in
    elim c.match-previous.branch [
      | in-Some w ↦
          let begin = w.in-Some.begin in
          let ends = subst (IsPrevious runs first) w.in-Some.is c.requires.previous in
          let (last, previous) = previous-some first after ahead runs at begin ends in
          let found = ap (λ runs. lookup (is_at (nat_cmp begin)) runs) view ∙ previous-found first after ahead runs at (begin, last) previous in
          elim w.match-get_mut.branch [
            | in-Some-get_mut+in_ok-join-in-Some w' ↦
                let new : Run g.row.C.Denot = run_to made.end w'.join.new.self in
                let same : w'.in-Some-get_mut.run'.now ≡ last = same_Some _ _ (w'.in-Some-get_mut.ensures.value ∙ found) in
                let merged = w'.in_ok-join-in-Some.ensures in
                placed-merged kind first count c.args.made some runs at runs_apart opened c.remove.new.self.entries made of_made begin last w'.join.new.self previous
                (λ a b front back. merged.stands a b (subst (λ (run : Run g.row.C.Denot). kind.stands run.range a) (sym same) front) back)
                (merged.start ∙ ap (λ (run : Run g.row.C.Denot). kind.start run.range) same) merged.end
                (merged.total ∙ ap (λ (run : Run g.row.C.Denot). kind.total run.range + kind.total made.range) same)
                (c.remove.ensures.entries
                ∙ ap (λ n. remove_entry (is_at (nat_cmp n)) c.match-previous.self-inside.runs.entries) after_is
                ∙ ap (λ inside. remove_entry test inside.runs.entries) w.self-inside-is
                ∙ ap (λ inside. remove_entry test inside.runs.entries) w'.self-inside-is
                ∙ ap (remove_entry test) (w.get_mut.follows.holds new).0
                ∙ ap (λ runs. remove_entry test (set_value (is_at (nat_cmp begin)) runs new)) view)
            | in_default w' ↦
                absurd (true≢false (sym (ap is_some (w'.in_default.ensures.value ∙ found))))
          ]
      | in-None+in_ok-insert-in-None w ↦
          placed-alone kind first count c.args.made some runs at runs_apart opened c.remove.new.self.entries made of_made
          (previous-none first after ahead runs at (subst (IsPrevious runs first) w.in-None.is c.requires.previous))
          (c.remove.ensures.entries
          ∙ ap (λ n. remove_entry (is_at (nat_cmp n)) c.match-previous.self-inside.runs.entries) after_is
          ∙ ap (λ inside. remove_entry test inside.runs.entries) w.self-inside-is
          ∙ ap (remove_entry test) w.in_ok-insert-in-None.ensures.entries
          ∙ ap (λ runs. remove_entry test (insert_entry nat_cmp runs first made)) view)
    ]

pub with_next-requires-clause-room : goal.with_next-requires-clause-room
with_next-requires-clause-room g c =
    (c.requires.room.1.0, omega (arith, c.requires.room.1.1, one-within g.C.ChunkRange c.args.after c.args.self.now))

pub returns-in_err-join-in-Some-clause-errors : goal.returns-in_err-join-in-Some-clause-errors
returns-in_err-join-in-Some-clause-errors g c =
    let kind = g.C.ChunkRange in
    let runs = c.args.self.now in
    let begin = c.in-Some.begin in
    let after = c.args.after in
    let run = c.in-Some-get_mut.run'.now in
    let ends = subst (IsPrevious runs c.args.first) c.in-Some.is c.requires.previous in
    let near = ends-near c.args.first begin runs ends in
    let apart : begin ≢ after = λ same. omega (arith, same, near, c.requires.ahead) in
    let is : lookup (is_at (nat_cmp begin)) runs ≡ Some run = sym (c.in-Some-get_mut.ensures.value ∙ ap (λ runs. lookup (is_at (nat_cmp begin)) runs) c.self.view_is) in
    let fits : kind.total run.range + kind.total c.in_ok-made.made.range < 2 ^ 64 =
    omega (arith, c.in_ok-made.ensures.total, two-within kind begin after apart runs, size-at kind begin runs (Some run) is, c.requires.room.1.1) in
    let p = err_from_is_err_and c.from_residual-in_err-join-in-Some.result c.from_residual-in_err-join-in-Some.ensures.1 in
    subst (λ answer. IfErr answer (λ e. e ≡ OutOfMemory)) (sym (p.1 ∙ ap Err p.2))
    (memory_alone (kind.total run.range + kind.total c.in_ok-made.made.range) (Err c.in_err-join-in-Some.field-0.0) c.in_err-join-in-Some.ensures.refusals
    ((open_at kind begin runs run c.requires.room.1.0 is).1, c.in_ok-made.ensures.marks.0) fits)

pub returns-clause-sizes : goal.returns-clause-sizes
returns-clause-sizes g c =
    let kind = g.C.ChunkRange in
    let runs = c.args.self.now in
    let first = c.args.first in
    let after = c.args.after in
    let size = kind.total c.args.made in
    let made = c.in_ok-made.made in
    let of_made : IsOpen kind made.range = c.in_ok-made.ensures.marks in
    let view = c.self.view_is in
    let test = is_at (nat_cmp after) in
    let ahead = c.requires.ahead in
    elim c.match-previous.branch [
      | in-Some w ↦
          let begin = w.in-Some.begin in
          let ends = subst (IsPrevious runs first) w.in-Some.is c.requires.previous in
          let near = ends-near first begin runs ends in
          let apart : after ≢ begin = λ same. omega (arith, same, near, ahead) in
          elim w.match-get_mut.branch [
            | in-Some-get_mut+in_ok-join-in-Some w' ↦
                let last = w'.in-Some-get_mut.run'.now in
                let is : lookup (is_at (nat_cmp begin)) runs ≡ Some last = sym (w'.in-Some-get_mut.ensures.value ∙ ap (λ runs. lookup (is_at (nat_cmp begin)) runs) view) in
                let new : Run g.row.C.Denot = run_to made.end w'.join.new.self in
                let merged = w'.in_ok-join-in-Some.ensures in
                let of_new : IsOpen kind new.range = (merged.start ∙ (open_at kind begin runs last c.requires.room.1.0 is).0, merged.end ∙ of_made.1) in
                subst (λ (now : List (PlacedRun g.row.C.Denot)). AreOpenUpTo kind (sizes_of kind runs + size) now)
                (sym (c.remove.ensures.entries
                ∙ ap (λ inside. remove_entry test inside.runs.entries) w.self-inside-is
                ∙ ap (λ inside. remove_entry test inside.runs.entries) w'.self-inside-is
                ∙ ap (remove_entry test) (w.get_mut.follows.holds new).0
                ∙ ap (λ runs. remove_entry test (set_value (is_at (nat_cmp begin)) runs new)) view))
                (merged-open kind runs c.requires.room.1.0 new of_new begin after apart last is size
                (merged.total ∙ ap (λ n. kind.total last.range + n) c.in_ok-made.ensures.total))
            | in_default w' ↦
                absurd (true≢false (sym (ends-found first begin runs ends) ∙ sym (ap is_some (w'.in_default.ensures.value ∙ ap (λ runs. lookup (is_at (nat_cmp begin)) runs) view))))
          ]
      | in-None+in_ok-insert-in-None w ↦
          let sorted = subst (λ (runs : List (PlacedRun g.row.C.Denot)). IsStrictlySortedBy nat_cmp (keys_of runs)) view w.in_ok-insert-in-None.ensures.was_ordered in
          let apart : after ≢ first = λ same. omega (arith, same, ahead) in
          subst (λ (now : List (PlacedRun g.row.C.Denot)). AreOpenUpTo kind (sizes_of kind runs + size) now)
          (sym (c.remove.ensures.entries
          ∙ ap (λ inside. remove_entry test inside.runs.entries) w.self-inside-is
          ∙ ap (remove_entry test) w.in_ok-insert-in-None.ensures.entries
          ∙ ap (λ runs. remove_entry test (insert_entry nat_cmp runs first made)) view))
          (alone-open kind runs c.requires.room.1.0 made of_made first after apart sorted size c.in_ok-made.ensures.total)
    ]
