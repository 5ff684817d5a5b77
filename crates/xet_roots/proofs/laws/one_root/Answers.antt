use Rattle.xet_roots.specs.Roots.{parent}
use Rattle.xet_roots.proofs.Roots.OneRoot.{root_exists, IsRootBy-unique}
use Rattle.xet_roots.proofs.laws.one_root.Goals as goal

pub returns-clause-exists : goal.returns-clause-exists
returns-clause-exists c = root_exists parent

pub returns-clause-unique : goal.returns-clause-unique
returns-clause-unique c = λ nodes hash other root second. IsRootBy-unique parent root second
