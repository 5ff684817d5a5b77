use Rattle.xet_merkle.specs.Subtree.{IsCanonical}
use Rattle.xetrange_text.specs.Ranges.{IsOpen}
use Rattle.xetrange_text.proofs.make.MadeRangeAnswerLinesSaidLinesChunksMerkleHashSubtree.answer.Goals as goal

pub returns-clause-answer : goal.returns-clause-answer
returns-clause-answer g c = λ text ((pairs, held, good), _, _).
    let canonical : IsCanonical c.in_ok-range.range pairs = c.in_ok-range.ensures.stands pairs held in
    let is_open : IsOpen c.in_ok-range.range = (c.in_ok-range.ensures.start, c.in_ok-range.ensures.end) in
    (pairs, c.in_ok-range.range, good, canonical, is_open, c.in_ok-write_range.ensures is_open)
