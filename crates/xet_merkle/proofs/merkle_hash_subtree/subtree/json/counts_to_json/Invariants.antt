use Rattle.std.proofs.Common.{◌≡◌, map, take}
use Rattle.serde_json.specs.View.{view}
use Rattle.level_nodes.specs.FlatLevels.{count_of}
use Rattle.xet_merkle.specs.SubtreeJson.{counts_json}
use Rattle.xet_merkle.proofs.merkle_hash_subtree.subtree.json.counts_to_json.Given as goal

abbrev pub invariant-counts : goal.invariant-counts
invariant-counts g l = map view l.values.items ≡ map (λ level. counts_json (count_of level)) (take l.level-index l.levels)
