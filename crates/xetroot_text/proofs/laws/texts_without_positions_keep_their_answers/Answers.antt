use Rattle.xetroot_text.proofs.InOrder.{same-answer, same-fault}
use Rattle.xetroot_text.proofs.laws.texts_without_positions_keep_their_answers.Goals as goal

pub returns-clause-answer : goal.returns-clause-answer
returns-clause-answer c = λ text output quiet. same-answer text quiet output

pub returns-clause-fault : goal.returns-clause-fault
returns-clause-fault c = λ text fault quiet. same-fault text quiet fault
