use Rattle.xet_roots.proofs.Roots.Digits.{below_ten_thousands, least_ten_thousands}
use Rattle.xet_roots.proofs.sizes.zeros_of_eight.Goals as goal

pub returns-else-n-lt10000-clause-below : goal.returns-else-n-lt10000-clause-below
returns-else-n-lt10000-clause-below c =
    let four = c.zeros_of_four-else-n-lt10000 in
    below_ten_thousands c.args.n four.result four.ensures.few four.ensures.below

pub returns-else-n-lt10000-clause-least : goal.returns-else-n-lt10000-clause-least
returns-else-n-lt10000-clause-least c = λ few.
    let four = c.zeros_of_four-else-n-lt10000 in
    least_ten_thousands c.args.n four.result four.ensures.few four.ensures.least c.if-n-lt10000.false
