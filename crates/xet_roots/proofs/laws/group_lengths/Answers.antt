use Rattle.xet_roots.proofs.Grouping.OneCutting.{group_length}
use Rattle.xet_roots.proofs.laws.group_lengths.Goals as goal

pub returns : goal.returns
returns c = λ nodes before group after cutting. group_length before group after cutting.are_groups
