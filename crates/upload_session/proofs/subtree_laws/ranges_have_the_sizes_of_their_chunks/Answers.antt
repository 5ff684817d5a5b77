use Rattle.std.proofs.Common.{ap}
use Rattle.xet_roots.specs.Roots.{total_size}
use Rattle.upload_session.proofs.Restoring.{sizes-subtrees}
use Rattle.upload_session.proofs.subtree_laws.ranges_have_the_sizes_of_their_chunks.Goals as goal

pub returns-clause-subtrees : goal.returns-clause-subtrees
returns-clause-subtrees g c = sizes-subtrees g.row.A.Denot

pub returns-clause-plain : goal.returns-clause-plain
returns-clause-plain g c = λ range chunks stands. ap total_size stands
