use Rattle.xetrange_text.proofs.Cutting.{root-of}
use Rattle.xetrange_text.proofs.laws.however_it_was_cut.Goals as goal

pub returns-clause-answer : goal.returns-clause-answer
returns-clause-answer c = λ text output input pieces cut within inputs answer.
    (root-of c.json_says_one_subtree.ensures c.canonical_subtree_bounds.ensures.nodes text output input pieces cut within inputs answer).1

pub returns-clause-no_positions : goal.returns-clause-no_positions
returns-clause-no_positions c = λ text output input pieces cut within inputs answer.
    (root-of c.json_says_one_subtree.ensures c.canonical_subtree_bounds.ensures.nodes text output input pieces cut within inputs answer).0
