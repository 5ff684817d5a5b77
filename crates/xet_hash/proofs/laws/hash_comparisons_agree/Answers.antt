use Rattle.std.specs.Cmp.Lexicographic.{nat_list_cmp_total, texts_ties}
use Rattle.xet_hash.proofs.laws.hash_comparisons_agree.Goals as goal

pub returns-clause-order : goal.returns-clause-order
returns-clause-order c = nat_list_cmp_total

pub returns-clause-ties : goal.returns-clause-ties
returns-clause-ties c = texts_ties
