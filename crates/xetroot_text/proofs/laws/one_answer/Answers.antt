use Rattle.xetroot_text.proofs.OneAnswer.{answer-or-fault, answer-unique, fault-unique, never-both}
use Rattle.xetroot_text.proofs.laws.one_answer.Goals as goal

pub returns-clause-exists : goal.returns-clause-exists
returns-clause-exists c = answer-or-fault

pub returns-clause-answer : goal.returns-clause-answer
returns-clause-answer c = answer-unique

pub returns-clause-fault : goal.returns-clause-fault
returns-clause-fault c = λ text fault other own is other_own also. fault-unique text fault other own is other_own also

pub returns-clause-never_both : goal.returns-clause-never_both
returns-clause-never_both c = never-both
