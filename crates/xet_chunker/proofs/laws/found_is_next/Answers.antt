use Rattle.xet_chunker.proofs.Cuts.Given.{given_next, given_none}
use Rattle.xet_chunker.proofs.laws.found_is_next.Goals as goal

pub returns-clause-first : goal.returns-clause-first
returns-clause-first c = given_next

pub returns-clause-none : goal.returns-clause-none
returns-clause-none c = given_none
