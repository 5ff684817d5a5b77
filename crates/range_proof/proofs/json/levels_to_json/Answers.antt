use Rattle.std.proofs.Common.{◌≡◌, ◌+◌, List, [], ◌∷◌, ◌++◌, get_or, map, take, sym, ap, subst, ◌∙◌}
use Rattle.std.proofs.lemmas.List.{take_all, take_more, map-append}
use Rattle.std.proofs.lemmas.List.Elements.{All-more}
use Rattle.serde_json.specs.Data.{Data, array}
use Rattle.serde_json.specs.View.{view, items_of}
use Rattle.serde_json.proofs.Views.{view-Array}
use Rattle.level_nodes.specs.Level.{Level}
use Rattle.range_proof.specs.RangeProof.{AreHashes}
use Rattle.range_proof.specs.ProofJson.{sides_json}
use Rattle.range_proof.proofs.json.levels_to_json.Goals as goal

pub levels-preserved : goal.levels-preserved
levels-preserved g c =
    let levels = c.args.levels.now in
    let i = c.levels.level-index in
    let level = c.level-item.result in
    let made = c.in_ok-sides_to_json.ensures in
    let next : map sides_json (take (i + 1) levels) ≡ map sides_json (take i levels) ++ sides_json level ∷ [] =
    ap (map sides_json) (take_more levels i level c.levels-test.true) ∙ map-append sides_json (take i levels) (get_or levels i level ∷ [])
    ∙ ap (λ (s : Level). map sides_json (take i levels) ++ sides_json s ∷ []) (sym c.level-item.is) in
    record {
      values = ap (map view) c.in_ok-push.ensures.items ∙ map-append view c.levels.values.items (c.in_ok-sides_to_json.field-0 ∷ [])
          ∙ (λ j. c.levels.invariant.values j ++ made.json j ∷ []) ∙ sym next;
      left = All-more (λ (s : Level). AreHashes s.left) levels i level c.levels-test.true c.levels.invariant.left
          (subst (λ (s : Level). AreHashes s.left) c.level-item.is made.left);
      right = All-more (λ (s : Level). AreHashes s.right) levels i level c.levels-test.true c.levels.invariant.right
          (subst (λ (s : Level). AreHashes s.right) c.level-item.is made.right);
    }

pub returns-clause-json : goal.returns-clause-json
returns-clause-json g c =
    let all = take_all c.levels.level-index c.args.levels.now c.levels-test.false in
    view-Array c.levels.values ∙ ap (λ (l : List Data). array (items_of l)) (c.levels.invariant.values ∙ ap (map sides_json) all)
