use Rattle.std.proofs.Common.{List, map, ap, ◌∙◌, sym}
use Rattle.std.proofs.lemmas.List.{take_all}
use Rattle.std.proofs.lemmas.Simd.{map-map}
use Rattle.serde_json.specs.Data.{array, Data}
use Rattle.serde_json.specs.View.{items_of}
use Rattle.serde_json.proofs.Views.{view-Array}
use Rattle.subtree_levels.specs.Levels.{Level}
use Rattle.level_nodes.specs.FlatLevels.{count_of}
use Rattle.xet_merkle.specs.SubtreeJson.{counts_json}
use Rattle.xet_merkle.proofs.merkle_hash_subtree.subtree.json.counts_to_json.Goals as goal

pub returns : goal.returns
returns g c =
    let all = take_all c.counts.level-index c.args.levels.now c.counts-test.false in
    view-Array c.counts.values
    ∙ ap (λ (l : List Data). array (items_of l))
    (c.counts.invariant ∙ ap (map (λ (level : Level). counts_json (count_of level))) all ∙ sym (map-map counts_json count_of c.args.levels.now))
