use Rattle.std.proofs.Common.{ap}
use Rattle.serde_json.specs.Written.{compact_text}
use Rattle.subtree_levels.specs.Subtree.{Subtree}
use Rattle.xet_merkle.specs.SubtreeJson.{subtree_json}
use Rattle.xet_merkle.proofs.Merging.Ranges.{same_canonical}
use Rattle.xet_merkle.proofs.laws.all_bracketings_agree.Goals as goal

pub returns-clause-subtrees : goal.returns-clause-subtrees
returns-clause-subtrees c = same_canonical

pub returns-clause-texts : goal.returns-clause-texts
returns-clause-texts c = λ a b nodes start end x y. ap (λ (s : Subtree). compact_text (subtree_json s)) (same_canonical a b nodes start end x y)
