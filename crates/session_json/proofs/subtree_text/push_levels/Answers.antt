use Rattle.std.proofs.Common.{arith, ◌<◌, ◌≤◌, ◌++◌, ◌∷◌, [], false, List, ℕ, length, map, subst, sym, ap, ◌∙◌}
use Rattle.std.proofs.lemmas.List.{append_assoc, drop_all, length-map}
use Rattle.serde_json.specs.View.{items_of}
use Rattle.serde_json.specs.Written.{items_text}
use Rattle.level_nodes.specs.Level.{Level}
use Rattle.level_nodes.specs.FlatLevels.{count_of}
use Rattle.xet_merkle.specs.SubtreeJson.{counts_json}
use Rattle.session_json.proofs.Sides.{counts_at}
use Rattle.session_json.proofs.Text.{Lacks, lacks_after}
use Rattle.session_json.proofs.subtree_text.push_levels.Goals as goal

pub levels-preserved : goal.levels-preserved
levels-preserved c =
    let levels : List Level = c.args.subtree.now.levels in
    let counts : List (ℕ × ℕ) = map count_of levels in
    let count : ℕ × ℕ = (length c.left-left.result.now, length c.right-right.result.now) in
    let whole : List ℕ = c.push.new.self.items ++ items_text false (items_of (map counts_json counts)) in
    let within : c.levels.level < length levels = omega (arith, c.levels-test.true, c.num_levels-level-end.ensures.levels) in
    let is = counts_at levels c.levels.level (length c.left-left.result.now) (length c.right-right.result.now) count within (ap length c.left-left.ensures) (ap length c.right-right.ensures) in
    rw (c.in_ok-push_counts.ensures, c.in_ok-push_comma.ensures)
    (lacks_after counts_json whole c.levels.text.items c.levels.later counts c.levels.level count
    (subst (λ n. c.levels.level < n) (sym (length-map levels count_of)) within) is c.levels.invariant)

pub returns : goal.returns
returns c =
    let levels : List Level = c.args.subtree.now.levels in
    let counts : List (ℕ × ℕ) = map count_of levels in
    let left : List ℕ = items_text false (items_of (map counts_json counts)) in
    let past : length counts ≤ c.levels.level = omega (arith, c.levels-test.false, c.num_levels-level-end.ensures.levels, length-map levels count_of) in
    c.in_ok-push-2.ensures.items
    ∙ subst (Lacks counts_json (c.push.new.self.items ++ left) c.levels.text.items c.levels.later) (drop_all c.levels.level counts past) c.levels.invariant
    ∙ ap (λ (t : List ℕ). t ++ left) c.in_ok-push.ensures.items ∙ append_assoc c.args.text.now.items (91 ∷ []) left
