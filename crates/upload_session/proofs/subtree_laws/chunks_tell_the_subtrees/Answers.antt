use Rattle.upload_session.specs.Session.{HaveOneRange}
use Rattle.upload_session.proofs.OneState.{same-runs}
use Rattle.xet_merkle.proofs.Merging.Ranges.{same_canonical}
use Rattle.upload_session.specs.Subtrees.{subtrees}
use Rattle.upload_session.proofs.subtree_laws.chunks_tell_the_subtrees.Goals as goal

one : (A : Type 0) → HaveOneRange {A = A} subtrees
one A a b chunks x y start end = same_canonical a b chunks start end x y

pub returns-clause-subtrees : goal.returns-clause-subtrees
returns-clause-subtrees g c = one g.row.A.Denot

pub returns-clause-runs : goal.returns-clause-runs
returns-clause-runs g c = same-runs {A = g.row.A.Denot} subtrees (one g.row.A.Denot)
