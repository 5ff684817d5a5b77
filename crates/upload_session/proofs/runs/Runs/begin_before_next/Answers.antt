use Rattle.std.proofs.Common.{arith, nat_cmp, ◌≡◌, ◌+◌, ◌^◌, ◌<◌, true, ◌∷◌, ◌++◌, List, sym, ap, subst, ◌∙◌}
use Rattle.std.specs.BTreeMap.{is_at, insert_entry}
use Rattle.std.specs.List.Sorted.{IsStrictlySortedBy}
use Rattle.std.specs.Map.{keys_of, lookup, remove_entry}
use Rattle.std.specs.Prelude.{is_some}
use Rattle.std.proofs.lemmas.List.Elements.{All-cons, All-weaker}
use Rattle.upload_session.specs.declared.runs.Run.{Run}
use Rattle.upload_session.specs.Session.{PlacedRun}
use Rattle.upload_session.specs.Steps.OpenRuns.{AreOpen, sizes_of, size_at}
use Rattle.upload_session.proofs.Neighbours.{run_to}
use Rattle.upload_session.proofs.OpenRuns.{inserted-open, lookup-put, one-within}
use Rattle.upload_session.proofs.SortedEntries.{insert-between, remove-inserted}
use Rattle.upload_session.proofs.runs.Runs.begin_before_next.Goals as goal

pub returns-in-Ok-clause-put : goal.returns-in-Ok-clause-put
returns-in-Ok-clause-put g c = λ others next back is around.
    let first = c.args.first in
    let after = c.args.after in
    let empty : Run g.row.C.Denot = run_to after c.in_ok-range.range in
    let above = All-cons (λ (run : PlacedRun g.row.C.Denot). first < run.0) (after, next) back around.1
    (All-weaker (λ (run : PlacedRun g.row.C.Denot). after < run.0) (λ (run : PlacedRun g.row.C.Denot). first < run.0) (λ run h. let ahead = around.1 in omega (arith, h, ahead)) back around.2) in
    let inserted : c.insert.new.self.entries ≡ others ++ (first, empty) ∷ (after, next) ∷ back =
    c.in_ok-insert.ensures.entries ∙ ap (λ runs. insert_entry nat_cmp runs first empty) (c.self.view_is ∙ is)
    ∙ insert-between first others ((after, next) ∷ back) empty around.0 above in
    c.in-Ok.ensures.put others empty next back inserted around

pub returns-in-Err-clause-unchanged : goal.returns-in-Err-clause-unchanged
returns-in-Err-clause-unchanged g c =
    let first = c.args.first in
    let test = is_at (nat_cmp first) in
    let empty : Run g.row.C.Denot = run_to c.args.after c.in_ok-range.range in
    c.remove.ensures.entries
    ∙ ap (λ runs. remove_entry test runs) (c.self-2.view_is ∙ c.in-Err.ensures.unchanged ∙ c.in_ok-insert.ensures.entries)
    ∙ remove-inserted first c.self.inside.runs.entries empty (ap (λ runs. lookup test runs) c.self.view_is ∙ c.requires.free)
    ∙ c.self.view_is

pub put_before_next-requires-clause-begin : goal.put_before_next-requires-clause-begin
put_before_next-requires-clause-begin g c =
    let kind = g.C.ChunkRange in
    let first = c.args.first in
    let runs = c.args.self.now in
    let empty : Run g.row.C.Denot = run_to c.args.after c.in_ok-range.range in
    let more = insert_entry nat_cmp runs first empty in
    let entries : c.insert.new.self.entries ≡ more = c.in_ok-insert.ensures.entries ∙ ap (λ runs. insert_entry nat_cmp runs first empty) c.self.view_is in
    subst (λ (now : List (PlacedRun g.row.C.Denot)). is_some (lookup (is_at (nat_cmp first)) now) ≡ true) (sym entries) (lookup-put first runs empty)

pub put_before_next-requires-clause-room : goal.put_before_next-requires-clause-room
put_before_next-requires-clause-room g c =
    let kind = g.C.ChunkRange in
    let first = c.args.first in
    let runs = c.args.self.now in
    let empty : Run g.row.C.Denot = run_to c.args.after c.in_ok-range.range in
    let more = insert_entry nat_cmp runs first empty in
    let entries : c.insert.new.self.entries ≡ more = c.in_ok-insert.ensures.entries ∙ ap (λ runs. insert_entry nat_cmp runs first empty) c.self.view_is in
    let sorted = subst (λ (runs : List (PlacedRun g.row.C.Denot)). IsStrictlySortedBy nat_cmp (keys_of runs)) c.self.view_is c.in_ok-insert.ensures.was_ordered in
    let put = inserted-open kind runs c.requires.room.1.0 empty (c.in_ok-range.ensures.start, c.in_ok-range.ensures.end) first sorted in
    let none : kind.total empty.range ≡ 0 = c.in_ok-range.ensures.total in
    subst (λ (now : List (PlacedRun g.row.C.Denot)). AreOpen kind now × (kind.total c.args.made + size_at kind c.args.after now < 2 ^ 64)) (sym entries)
    (put.0, omega (arith, put.1, none, one-within kind c.args.after more, c.requires.room.1.1))

pub returns-in-Ok-clause-sizes : goal.returns-in-Ok-clause-sizes
returns-in-Ok-clause-sizes g c =
    let kind = g.C.ChunkRange in
    let first = c.args.first in
    let runs = c.args.self.now in
    let empty : Run g.row.C.Denot = run_to c.args.after c.in_ok-range.range in
    let more = insert_entry nat_cmp runs first empty in
    let entries : c.insert.new.self.entries ≡ more = c.in_ok-insert.ensures.entries ∙ ap (λ runs. insert_entry nat_cmp runs first empty) c.self.view_is in
    let sorted = subst (λ (runs : List (PlacedRun g.row.C.Denot)). IsStrictlySortedBy nat_cmp (keys_of runs)) c.self.view_is c.in_ok-insert.ensures.was_ordered in
    let put = inserted-open kind runs c.requires.room.1.0 empty (c.in_ok-range.ensures.start, c.in_ok-range.ensures.end) first sorted in
    let none : kind.total empty.range ≡ 0 = c.in_ok-range.ensures.total in
    (c.in-Ok.ensures.sizes.0, omega (arith, c.in-Ok.ensures.sizes.1, put.1, none, ap (λ (now : List (PlacedRun g.row.C.Denot)). sizes_of kind now) entries))
