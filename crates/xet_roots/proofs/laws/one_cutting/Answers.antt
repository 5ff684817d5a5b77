use Rattle.xet_roots.proofs.Grouping.OneCutting.{Groups-exist, Groups-unique}
use Rattle.xet_roots.proofs.laws.one_cutting.Goals as goal

pub returns-clause-exists : goal.returns-clause-exists
returns-clause-exists c = Groups-exist

pub returns-clause-unique : goal.returns-clause-unique
returns-clause-unique c = Groups-unique
