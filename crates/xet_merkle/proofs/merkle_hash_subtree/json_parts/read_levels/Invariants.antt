use Rattle.std.proofs.Common.{map, take}
use Rattle.std.specs.List.{AllZip}
use Rattle.serde_json.specs.View.{view}
use Rattle.xet_merkle.specs.JsonParts.{ReadsCounts}
use Rattle.xet_merkle.proofs.merkle_hash_subtree.json_parts.read_levels.Given as goal

abbrev pub invariant-levels : goal.invariant-levels
invariant-levels g l = AllZip ReadsCounts (map view (take l.value-index l.values)) l.counts.items
