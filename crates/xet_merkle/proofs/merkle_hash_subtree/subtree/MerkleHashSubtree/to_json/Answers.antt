use Rattle.std.proofs.Common.{ℕ, ◌<◌, ◌^◌, List, [], map, sym, ap, subst, ◌∙◌}
use Rattle.serde_json.specs.Data.{Data, array}
use Rattle.serde_json.specs.View.{view, items_of}
use Rattle.subtree_levels.specs.Levels.{Level, levels_size}
use Rattle.subtree_levels.specs.Subtree.{Subtree}
use Rattle.level_nodes.specs.FlatLevels.{count_of, flat_nodes}
use Rattle.level_nodes.specs.NodeJson.{nodes_json}
use Rattle.xet_merkle.specs.SubtreeJson.{counts_json, subtree_object}
use Rattle.xet_merkle.specs.JsonRules.{Reads}
use Rattle.xet_merkle.proofs.Json.OneMeaning.{AreHashes, Reads-object}
use Rattle.xet_merkle.proofs.merkle_hash_subtree.subtree.MerkleHashSubtree.to_json.Goals as goal

pub returns-clause-json : goal.returns-clause-json
returns-clause-json g c =
    let start = ap (λ (s : Subtree). s.at_start) c.self.view_is in
    let end = ap (λ (s : Subtree). s.at_end) c.self.view_is in
    let counts = c.in_ok-levels.ensures ∙ ap (λ (l : List Level). array (items_of (map counts_json (map count_of l)))) c.levels.ensures.levels in
    let nodes = c.in_ok-nodes.ensures.json ∙ ap (λ (l : List Level). nodes_json (flat_nodes l [])) c.levels-2.ensures.levels in
    ◌∙◌ {b = subtree_object c.self.inside.at_start c.self.inside.at_end (view c.in_ok-levels.levels) (view c.in_ok-nodes.nodes)}
    c.in_ok-object_of.ensures (λ i. subtree_object (start i) (end i) (counts i) (nodes i))

pub returns-clause-says : goal.returns-clause-says
returns-clause-says g c =
    let size = c.self.invariant.size_is ∙ ap (λ (s : Subtree). levels_size s.levels) c.self.view_is in
    subst (λ (value : Data). Reads value c.args.self.now) (sym (returns-clause-json g c))
    (Reads-object c.hex_text_tells_hashes_apart.ensures c.hex_text_is_lowercase_digits.ensures.digits c.hex_text_is_lowercase_digits.ensures.lowercase
    c.args.self.now (subst (λ (l : List Level). AreHashes (flat_nodes l [])) c.levels-2.ensures.levels c.in_ok-nodes.ensures.hashes) c.levels.ensures.well_formed
    (subst (λ (n : ℕ). n < 2 ^ 64) size c.self.invariant.fits))
