use Rattle.std.proofs.Common.{◌≡◌, ◌<◌, ◌≤◌, ◌⊎◌, List, length, ap, subst, ◌∙◌, Err}
use Rattle.xet_merkle.specs.Groups.{Node}
use Rattle.range_proof.specs.Proving.{Proves}
use Rattle.xetrange_text.proofs.prove.ProofOfRangeAnswerLinesSaidLinesChunksPlainRange.answer.Goals as goal

pub returns-in-Ok-clause-answer : goal.returns-in-Ok-clause-answer
returns-in-Ok-clause-answer g c = λ text ((pairs, held, good), _, _).
    let is : c.chunks.result.now ≡ pairs = c.chunks.ensures ∙ c.in_ok-all.ensures.stands pairs held in
    let proves = subst (λ (p : List Node). Proves p c.args.self.first c.args.self.end c.in-Ok.proof) is c.in-Ok.ensures.proves in
    (pairs, c.in-Ok.proof, good, proves, c.in_ok-write_proof-in-Ok.ensures)

pub returns-in-Err-InvalidArguments-clause-fault : goal.returns-in-Err-InvalidArguments-clause-fault
returns-in-Err-InvalidArguments-clause-fault g c = λ text ((pairs, held, good), _, _).
    let is : c.chunks.result.now ≡ pairs = c.chunks.ensures ∙ c.in_ok-all.ensures.stands pairs held in
    let refused = c.from_chunks.ensures.refused.0 (c.in-Err-InvalidArguments.is ∙ ap Err c.in-Err-InvalidArguments.field-0-is) in
    let first = c.args.self.first in
    let end = c.args.self.end in
    (pairs, good, subst (λ (p : List Node). (end ≤ first) ⊎ (length p < end)) is refused)
