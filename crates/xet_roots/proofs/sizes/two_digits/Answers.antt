use Rattle.xet_roots.proofs.Roots.Digits.{PAIRS_at}
use Rattle.xet_roots.proofs.sizes.two_digits.Goals as goal

pub returns : goal.returns
returns c = PAIRS_at c.args.n c.requires
