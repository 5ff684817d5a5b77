use Rattle.std.proofs.Common.{◌≡◌, ◌+◌, ◌-◌, ◌<◌, List, [], ◌∷◌, ◌++◌, length, get_or, map, take, sym, ap, subst, ◌∙◌, arith, append_assoc, append-nil}
use Rattle.std.proofs.lemmas.List.{take_more, take_all, map-append}
use Rattle.serde_json.specs.Data.{Data, array}
use Rattle.serde_json.specs.View.{items_of}
use Rattle.serde_json.proofs.Views.{view-Array}
use Rattle.xet_roots.specs.Groups.{Node}
use Rattle.subtree_levels.specs.Levels.{Level}
use Rattle.level_nodes.specs.FlatLevels.{left_nodes, right_nodes, flat_nodes}
use Rattle.level_nodes.specs.NodeJson.{node_json}
use Rattle.level_nodes.proofs.FlatOf.{left_nodes-push}
use Rattle.xet_merkle.proofs.Json.OneMeaning.{AreHashes, AreHashes-append}
use Rattle.xet_merkle.proofs.merkle_hash_subtree.subtree.json.nodes_to_json.Goals as goal

pub lefts-preserved : goal.lefts-preserved
lefts-preserved g c =
    let levels = c.args.levels.now in
    let i = c.lefts.level-index in
    let level = c.level-item.result in
    let before = left_nodes (take i levels) in
    let next : left_nodes (take (i + 1) levels) ≡ before ++ c.left.result.now =
    ap left_nodes (take_more levels i level c.lefts-test.true) ∙ left_nodes-push (take i levels) (get_or levels i level)
    ∙ ap (λ (l : List Node). before ++ l) (ap (λ (l : Level). l.left) (sym c.level-item.is) ∙ sym c.left.ensures) in
    record {
      values = c.in_ok-values.ensures.json ∙ ap (λ (l : List Data). l ++ map node_json c.left.result.now) c.lefts.invariant.values
          ∙ sym (map-append node_json before c.left.result.now) ∙ ap (map node_json) (sym next);
      hashes = subst AreHashes (sym next) (AreHashes-append before c.left.result.now c.lefts.invariant.hashes c.in_ok-values.ensures.hashes);
    }

pub rights-init : goal.rights-init
rights-init g c =
    let levels = c.args.levels.now in
    let all : left_nodes (take c.lefts.level-index levels) ≡ left_nodes levels ++ [] =
    ap left_nodes (take_all c.lefts.level-index levels c.lefts-test.false) ∙ sym (append-nil (left_nodes levels)) in
    record {
      done = [];
      parts = sym (append-nil levels);
      values = c.lefts.invariant.values ∙ ap (map node_json) all;
      hashes = subst AreHashes all c.lefts.invariant.hashes;
    }

pub rights-preserved : goal.rights-preserved
rights-preserved g c =
    let levels = c.args.levels.now in
    let rest = c.rights.rest.now in
    let done = c.rights.invariant.done in
    let level = c.level-item-in-rights.result in
    let below = take (length rest - 1) rest in
    let some = c.in-len1-up.len_at_least in
    let split : rest ≡ below ++ level ∷ [] =
    sym (take_all (length rest - 1 + 1) rest (omega arith)) ∙ take_more rest (length rest - 1) level (omega arith)
    ∙ ap (λ (l : Level). below ++ l ∷ []) (sym c.level-item-in-rights.is) in
    let so_far = left_nodes levels ++ right_nodes done in
    let next : left_nodes levels ++ right_nodes (level ∷ done) ≡ so_far ++ c.right.result.now =
    sym (append_assoc (left_nodes levels) (right_nodes done) level.right) ∙ ap (λ (l : List Node). so_far ++ l) (sym c.right.ensures) in
    record {
      done = level ∷ done;
      parts = c.rights.invariant.parts ∙ ap (λ (l : List Level). l ++ done) split ∙ append_assoc below (level ∷ []) done;
      values = c.in_ok-values-2.ensures.json ∙ ap (λ (l : List Data). l ++ map node_json c.right.result.now) c.rights.invariant.values
          ∙ sym (map-append node_json so_far c.right.result.now) ∙ ap (map node_json) (sym next);
      hashes = subst AreHashes (sym next) (AreHashes-append so_far c.right.result.now c.rights.invariant.hashes c.in_ok-values-2.ensures.hashes);
    }

all_done : (levels rest done : List Level) → length rest < 1 → levels ≡ rest ++ done → left_nodes levels ++ right_nodes done ≡ flat_nodes levels []
all_done levels [] done none parts = ap (λ (l : List Level). left_nodes levels ++ right_nodes l) (sym parts)
all_done levels (level ∷ rest) done none parts = absurd (omega arith)

pub returns-clause-json : goal.returns-clause-json
returns-clause-json g c =
    view-Array c.rights.values
    ∙ ap (λ (l : List Data). array (items_of l))
    (c.rights.invariant.values ∙ ap (map node_json) (all_done c.args.levels.now c.rights.rest.now c.rights.invariant.done c.in_default.len_below c.rights.invariant.parts))

pub returns-clause-hashes : goal.returns-clause-hashes
returns-clause-hashes g c =
    subst AreHashes (all_done c.args.levels.now c.rights.rest.now c.rights.invariant.done c.in_default.len_below c.rights.invariant.parts) c.rights.invariant.hashes
