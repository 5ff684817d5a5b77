use Rattle.std.proofs.Common.{arith, false, ◌≡◌, ◌+◌, ◌-◌, ◌<◌, ◌≤◌, ◌++◌, ◌∷◌, [], List, ℕ, drop, take, length, map, subst, sym, ap, ◌∙◌}
use Rattle.std.proofs.lemmas.List.{append_assoc, drop_all, take_all}
use Rattle.serde_json.specs.View.{items_of}
use Rattle.serde_json.specs.Written.{compact_text, items_text}
use Rattle.xet_roots.specs.Groups.{Node}
use Rattle.level_nodes.specs.Level.{Level, left_at}
use Rattle.level_nodes.specs.FlatLevels.{flat_nodes, left_nodes, right_nodes}
use Rattle.level_nodes.specs.NodeJson.{node_json, nodes_json}
use Rattle.session_json.proofs.Sides.{lefts_from, rights_below}
use Rattle.session_json.proofs.Text.{Lacks}
use Rattle.session_json.proofs.subtree_text.push_sides.Goals as goal

pub lefts-init : goal.lefts-init
lefts-init c =
    let levels : List Level = c.args.subtree.now.levels in
    let left : List ℕ = compact_text (nodes_json (flat_nodes levels [])) in
    ap (λ (t : List ℕ). t ++ items_text false (items_of (map node_json (flat_nodes levels [])))) c.in_ok-push.ensures.items
    ∙ append_assoc c.args.text.now.items (91 ∷ []) (items_text false (items_of (map node_json (flat_nodes levels []))))

pub lefts-preserved : goal.lefts-preserved
lefts-preserved c =
    let levels : List Level = c.args.subtree.now.levels in
    let i = c.lefts.level in
    let whole : List ℕ = c.args.text.now.items ++ compact_text (nodes_json (flat_nodes levels [])) in
    let rest : List Node = left_nodes (drop (i + 1) levels) ++ right_nodes levels in
    let within : i < length levels = omega (arith, c.lefts-test.true, c.num_levels-level-end.ensures.levels) in
    let next : left_nodes (drop i levels) ++ right_nodes levels ≡ c.left.result.now ++ rest =
    ap (λ (l : List Node). l ++ right_nodes levels) (lefts_from levels i within)
    ∙ append_assoc (left_at levels i) (left_nodes (drop (i + 1) levels)) (right_nodes levels)
    ∙ ap (λ (l : List Node). l ++ rest) (sym c.left.ensures) in
    c.in_ok-later.ensures rest ∙ subst (Lacks node_json whole c.lefts.text.items c.lefts.later) next c.lefts.invariant

pub rights-init : goal.rights-init
rights-init c =
    let levels : List Level = c.args.subtree.now.levels in
    let whole : List ℕ = c.args.text.now.items ++ compact_text (nodes_json (flat_nodes levels [])) in
    let past : length levels ≤ c.lefts.level = omega (arith, c.lefts-test.false, c.num_levels-level-end.ensures.levels) in
    let none = ap (λ (l : List Level). left_nodes l ++ right_nodes levels) (drop_all c.lefts.level levels past) in
    let all = ap right_nodes (sym (take_all c.num_levels-above.result levels (omega (arith, c.num_levels-above.ensures.levels)))) in
    record {
      within = omega (arith, c.num_levels-above.ensures.levels);
      lacks = subst (Lacks node_json whole c.lefts.text.items c.lefts.later) (none ∙ all) c.lefts.invariant;
    }

pub rights-preserved : goal.rights-preserved
rights-preserved c =
    let levels : List Level = c.args.subtree.now.levels in
    let i = c.rights.above - 1 in
    let whole : List ℕ = c.args.text.now.items ++ compact_text (nodes_json (flat_nodes levels [])) in
    let rest : List Node = right_nodes (take i levels) in
    let some : 0 < c.rights.above = c.rights-test.true in
    let within : i < length levels = omega (arith, some, c.rights.invariant.within) in
    let one_more : c.rights.above ≡ i + 1 = omega (arith, some) in
    let next : right_nodes (take c.rights.above levels) ≡ c.right.result.now ++ rest =
    ap (λ (n : ℕ). right_nodes (take n levels)) one_more ∙ rights_below levels i within ∙ ap (λ (l : List Node). l ++ rest) (sym c.right.ensures) in
    record {
      within = omega (arith, some, c.rights.invariant.within);
      lacks = c.in_ok-later-2.ensures rest
          ∙ subst (Lacks node_json whole c.rights.text.items c.rights.later) next c.rights.invariant.lacks;
    }

pub returns : goal.returns
returns c =
    let levels : List Level = c.args.subtree.now.levels in
    let whole : List ℕ = c.args.text.now.items ++ compact_text (nodes_json (flat_nodes levels [])) in
    let zero_left : c.rights.above ≡ 0 = omega (arith, c.rights-test.false) in
    let none : take c.rights.above levels ≡ [] = ap (λ (n : ℕ). take n levels) zero_left in
    c.in_ok-push-2.ensures.items
    ∙ subst (Lacks node_json whole c.rights.text.items c.rights.later) (ap right_nodes none) c.rights.invariant.lacks
