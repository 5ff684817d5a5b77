use Rattle.std.proofs.Common.{flat_map}
use Rattle.xetrange_text.proofs.join.RootAndFileAnswerLinesMergedLines.answer.Goals as goal

pub returns-clause-answer : goal.returns-clause-answer
returns-clause-answer g c = λ text (ranges, good, merged, _, _).
    let hashes = c.in_ok-root.ensures in record {
      ranges = ranges;
      root = _;
      file = _;
      good = good;
      is_root = λ lists canonical. hashes.root (flat_map (λ l. l) lists) (merged.canonical lists canonical);
      is_file = λ lists canonical. hashes.file (flat_map (λ l. l) lists) (merged.canonical lists canonical);
      is_text = c.output.ensures;
    }
