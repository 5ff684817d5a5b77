use Rattle.std.proofs.Common.{nat_cmp, ap, ◌∙◌}
use Rattle.std.specs.BTreeMap.{insert_entry}
use Rattle.upload_session.specs.declared.runs.Run.{Run}
use Rattle.upload_session.proofs.Neighbours.{run_to}
use Rattle.upload_session.proofs.SortedEntries.{insert-last}
use Rattle.upload_session.proofs.runs.Runs.push.Goals as goal

pub returns-clause-pushed : goal.returns-clause-pushed
returns-clause-pushed g c =
    let run : Run g.row.C.Denot = run_to c.args.end c.args.range in
    c.in_ok-insert.ensures.entries ∙ ap (λ runs. insert_entry nat_cmp runs c.args.first run) c.self.view_is
    ∙ insert-last c.args.first c.args.self.now run c.requires
