use Rattle.std.proofs.Common.{List, [], sym, ap, subst, ◌∙◌}
use Rattle.subtree_levels.specs.Subtree.{Subtree}
use Rattle.upload_session.specs.Hashes.{hashes_of}
use Rattle.upload_session.specs.Session.{PlacedRun, size_of_runs, StandFor}
use Rattle.upload_session.proofs.Sizes.{sizes-chunks}
use Rattle.upload_session.specs.Subtrees.{subtrees}
use Rattle.upload_session.proofs.Restoring.{known-both, sizes-subtrees}
use Rattle.upload_session.proofs.subtree_laws.sessions_can_be_restored.Goals as goal

pub returns-clause-stands : goal.returns-clause-stands
returns-clause-stands g c = λ saved restored placed stand runs size. (
  subst (λ (list : List (PlacedRun Subtree)). StandFor {A = g.row.A.Denot} subtrees list placed) (sym runs) stand,
  size ∙ ap (size_of_runs {A = g.row.A.Denot} subtrees) runs
      ∙ sizes-chunks {A = g.row.A.Denot} subtrees (sizes-subtrees g.row.A.Denot) saved.runs placed stand,
)

pub returns-clause-hashes : goal.returns-clause-hashes
returns-clause-hashes g c = λ saved new restored chunks none knows learned known also.
    learned [] known none (known-both saved.kept (hashes_of chunks) known knows also)
