use Rattle.std.proofs.Common.{subst}
use Rattle.std.proofs.lemmas.Result.{err_from_is_err_and}
use Rattle.upload_session.specs.Session.{IsWhole, chunks_of}
use Rattle.line_io.specs.Faults.{IfFaulty}
use Rattle.pair_text.specs.Output.{IsOutput}
use Rattle.xetroot_text.proofs.LineFaults.{gap-refused}
use Rattle.xetroot_text.proofs.run.RootAndFileAnswerLinesSaidLinesPlacedPairs.answer.Goals as goal

pub returns-in_err-root-clause-fault : goal.returns-in_err-root-clause-fault
returns-in_err-root-clause-fault g c =
    let p = err_from_is_err_and c.from_residual.result c.from_residual.ensures.1 in
    let refusal = c.in_err-root.field-0.0 in
    rw (p.1, p.2) (λ text ((pairs, next, held, count, good), _, _).
    gap-refused text pairs next refusal good (subst (λ n. IfFaulty refusal (λ _. ¬ (IsWhole n pairs))) count (c.in_err-root.ensures.gap pairs next held)))

pub returns-clause-answer : goal.returns-clause-answer
returns-clause-answer g c = λ text ((pairs, next, held, count, good), _, _).
    let hashes = c.in_ok-root.ensures in
    let is_output : IsOutput (chunks_of pairs) c.output.result.items = record {
      root = _;
      file = _;
      is_root = hashes.root pairs next held;
      is_file = hashes.file pairs next held;
      text = c.output.ensures;
    } in
    (pairs, next, good, subst (λ n. IsWhole n pairs) count (hashes.whole pairs next held), is_output)
