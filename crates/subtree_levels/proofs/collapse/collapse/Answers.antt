use Rattle.std.proofs.Common.{◌≡◌, ◌+◌, List, [], ◌∷◌, ◌++◌, length, sym, ap, subst, ◌∙◌, append_assoc, append-nil, arith}
use Rattle.std.proofs.lemmas.List.{map-id}
use Rattle.xet_roots.specs.Groups.{Node}
use Rattle.xet_roots.specs.Roots.{parent_by}
use Rattle.subtree_levels.specs.Levels.{Level}
use Rattle.subtree_levels.specs.Canonical.{IsSplit}
use Rattle.subtree_levels.proofs.Canonical.Splits.{plain_split}
use Rattle.subtree_levels.proofs.Canonical.Collapsing.{middle_fits, parents_fit, parents_half, stand_start, stand_whole, stand_more}
use Rattle.subtree_levels.proofs.collapse.collapse.Goals as goal

pub collapsing-init : goal.collapsing-init
collapsing-init g c = record {
  below = [];
  done = 0;
  added = sym (append-nil c.args.levels.items);
  count = omega arith;
  stand = stand_start (parent_by g.P.ParentMaker.hash_of) c.args.marks.at_start c.args.marks.at_end c.args.nodes.items;
  fits = c.requires.fits;
  room = c.requires.room;
}

pub collapse_middle-requires : goal.collapse_middle-requires
collapse_middle-requires g c =
    let plain = plain_split c.args.marks.at_start c.args.marks.at_end c.deref.result.now c.in-Some.split.left.now c.in-Some.split.middle.now c.in-Some.split.right.now c.in-Some.ensures.split in
    let split = subst (λ (nodes : List Node). IsSplit c.args.marks.at_start c.args.marks.at_end nodes c.in-Some.split.left.now c.in-Some.split.middle.now c.in-Some.split.right.now)
    c.deref.ensures.value plain in
    let room = c.collapsing.invariant.room in
    record { fits = middle_fits _ _ _ _ _ _ split c.collapsing.invariant.fits; room = omega arith }

pub collapsing-smaller : goal.collapsing-smaller
collapsing-smaller g c =
    let plain = plain_split c.args.marks.at_start c.args.marks.at_end c.deref.result.now c.in-Some.split.left.now c.in-Some.split.middle.now c.in-Some.split.right.now c.in-Some.ensures.split in
    let split = subst (λ (nodes : List Node). IsSplit c.args.marks.at_start c.args.marks.at_end nodes c.in-Some.split.left.now c.in-Some.split.middle.now c.in-Some.split.right.now)
    c.deref.ensures.value plain in
    let half = parents_half _ _ _ _ _ _ split (parent_by g.P.ParentMaker.hash_of) _ c.in_ok-levels.ensures.parents in
    let several = split.several in
    omega arith

pub collapsing-preserved : goal.collapsing-preserved
collapsing-preserved g c =
    let plain = plain_split c.args.marks.at_start c.args.marks.at_end c.deref.result.now c.in-Some.split.left.now c.in-Some.split.middle.now c.in-Some.split.right.now c.in-Some.ensures.split in
    let split = subst (λ (nodes : List Node). IsSplit c.args.marks.at_start c.args.marks.at_end nodes c.in-Some.split.left.now c.in-Some.split.middle.now c.in-Some.split.right.now)
    c.deref.ensures.value plain in
    let make = parent_by g.P.ParentMaker.hash_of in
    let below = c.collapsing.invariant.below in
    let done = c.collapsing.invariant.done in
    let parents = c.in_ok-levels.field-0-1.items in
    let level : Level = record { left = c.in-Some.split.left.now; right = c.in-Some.split.right.now } in
    let half = parents_half _ _ _ _ _ _ split make parents c.in_ok-levels.ensures.parents in
    let room = c.collapsing.invariant.room in
    let before = c.collapsing.invariant.count in
    let more = c.in_ok-levels.ensures.count in
    record {
      below = below ++ level ∷ [];
      done = done + length parents;
      added = c.in_ok-levels.ensures.levels ∙ ap (λ (l : List Level). l ++ level ∷ []) c.collapsing.invariant.added ∙ append_assoc c.args.levels.items below (level ∷ []);
      count = omega arith;
      stand = stand_more make c.args.marks.at_start c.args.marks.at_end c.args.nodes.items below done _ _ _ _ parents c.collapsing.invariant.stand split c.in_ok-levels.ensures.parents;
      fits = parents_fit _ _ _ _ _ _ split g.P.ParentMaker.hash_of parents c.in_ok-levels.ensures.parents c.collapsing.invariant.fits;
      room = omega arith;
    }

pub returns : goal.returns
returns g c =
    let nodes : List Node = c.collapsing.nodes.items in
    let below = c.collapsing.invariant.below in
    let done = c.collapsing.invariant.done in
    let top : Level = record { left = nodes; right = [] } in
    let new : c.new-2.result ≡ top = c.new-2.ensures ∙ ap (λ (l : List Node). record { left = nodes; right = l }) c.new.ensures.items in
    let none : (left middle right : List Node) → ¬ (IsSplit c.args.marks.at_start c.args.marks.at_end nodes left middle right) =
    subst (λ (l : List Node). (left middle right : List Node) → ¬ (IsSplit c.args.marks.at_start c.args.marks.at_end l left middle right)) c.deref.ensures.value (rw (map-id c.deref.result.now) at c.in_default.ensures.none) in
    let count = c.collapsing.invariant.count in (
      below ++ top ∷ [],
      done + 0,
      stand_whole (parent_by g.P.ParentMaker.hash_of) c.args.marks.at_start c.args.marks.at_end c.args.nodes.items below done nodes c.collapsing.invariant.stand none,
      c.in_ok-pushed.ensures ∙ ap (λ (level : Level). c.collapsing.levels.items ++ level ∷ []) new
          ∙ ap (λ (l : List Level). l ++ top ∷ []) c.collapsing.invariant.added ∙ append_assoc c.args.levels.items below (top ∷ []),
      omega arith,
    )
