use Rattle.std.proofs.Common.{◌≡◌, ◌+◌, ◌-◌, List, [], ◌∷◌, ◌++◌, length, get_or, take, sym, ap, ◌∙◌, arith, append_assoc, append-nil}
use Rattle.std.proofs.lemmas.List.{take_more, take_all}
use Rattle.xet_roots.specs.Groups.{Node}
use Rattle.level_nodes.specs.Level.{Level}
use Rattle.level_nodes.specs.FlatLevels.{left_nodes, right_nodes}
use Rattle.level_nodes.proofs.FlatOf.{left_nodes-push}
use Rattle.range_proof.proofs.flat.nodes_of.Goals as goal

pub lefts-preserved : goal.lefts-preserved
lefts-preserved g c =
    let levels = c.args.levels.now in
    let i = c.lefts.level-index in
    let level = c.level-item.result in
    let before = left_nodes (take i levels) in
    let next : left_nodes (take (i + 1) levels) ≡ before ++ c.left.result.now =
    ap left_nodes (take_more levels i level c.lefts-test.true) ∙ left_nodes-push (take i levels) (get_or levels i level)
    ∙ ap (λ (l : List Node). before ++ l) (ap (λ (l : Level). l.left) (sym c.level-item.is) ∙ sym c.left.ensures) in
    c.in_ok-extend_from_slice.ensures.items ∙ ap (λ (l : List Node). l ++ c.left.result.now) c.lefts.invariant ∙ sym next

pub rights-init : goal.rights-init
rights-init g c =
    let levels = c.args.levels.now in
    let chunks = c.args.chunks.now in
    record {
      done = [];
      parts = sym (append-nil levels);
      nodes =
          c.in_ok-extend_from_slice-2.ensures.items
          ∙ ap (λ (l : List Node). l ++ chunks) (c.lefts.invariant ∙ ap left_nodes (take_all c.lefts.level-index levels c.lefts-test.false))
          ∙ ap (λ (l : List Node). left_nodes levels ++ l) (sym (append-nil chunks));
    }

pub rights-preserved : goal.rights-preserved
rights-preserved g c =
    let levels = c.args.levels.now in
    let rest = c.rights.rest.now in
    let done = c.rights.invariant.done in
    let level = c.level-item-in-rights.result in
    let below = take (length rest - 1) rest in
    let some = c.in-len1-up.len_at_least in
    let split : rest ≡ below ++ level ∷ [] =
    sym (take_all (length rest - 1 + 1) rest (omega arith)) ∙ take_more rest (length rest - 1) level (omega arith)
    ∙ ap (λ (l : Level). below ++ l ∷ []) (sym c.level-item-in-rights.is) in
    let front = left_nodes levels in
    let chunks = c.args.chunks.now in
    let next : front ++ (chunks ++ right_nodes (level ∷ done)) ≡ (front ++ (chunks ++ right_nodes done)) ++ level.right = simp append_assoc in
    record {
      done = level ∷ done;
      parts = c.rights.invariant.parts ∙ ap (λ (l : List Level). l ++ done) split ∙ append_assoc below (level ∷ []) done;
      nodes =
          c.in_ok-extend_from_slice-3.ensures.items ∙ (λ i. c.rights.invariant.nodes i ++ c.right.ensures i) ∙ sym next;
    }
