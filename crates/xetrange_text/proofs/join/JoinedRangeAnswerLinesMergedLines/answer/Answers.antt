use Rattle.xetrange_text.proofs.join.JoinedRangeAnswerLinesMergedLines.answer.Goals as goal

pub returns-clause-answer : goal.returns-clause-answer
returns-clause-answer g c = λ text (ranges, good, merged, _, _).
    (ranges, c.args.lines.merged, good, merged, c.in_ok-write_range.ensures merged.is_open)
