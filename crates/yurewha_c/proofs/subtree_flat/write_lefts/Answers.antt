use Rattle.std.proofs.Common.{◌≡◌, ◌+◌, ◌≤◌, ◌++◌, suc, length, take, List, ap, sym, ◌∙◌, arith, add-one, length-append}
use Rattle.xet_merkle.specs.Levels.{Level, left_at}
use Rattle.xet_merkle.specs.FlatLevels.{left_nodes}
use Rattle.yurewha_c.proofs.FlatLevels.{left_nodes-more, lefts_within, rest_kept}
use Rattle.yurewha_c.proofs.subtree_flat.write_lefts.Goals as goal

-- the left nodes of one level more, and that they are among all
more : (levels : List Level) (i : _) → left_nodes (take (i + 1) levels) ≡ left_nodes (take i levels) ++ left_at levels i
more levels i = ap (λ n. left_nodes (take n levels)) (add-one i) ∙ left_nodes-more levels i

within : (levels : List Level) (i : _) → length (left_nodes (take i levels)) + length (left_at levels i) ≤ length (left_nodes levels)
within levels i =
    let len = ap length (left_nodes-more levels i) in
    omega (arith, lefts_within levels (suc i), length-append (left_nodes (take i levels)) (left_at levels i))

pub write_nodes-place-requires : goal.write_nodes-place-requires
write_nodes-place-requires c =
    let here = ap length c.left.ensures in
    omega (arith, within c.args.subtree.now.levels c.lefts.i)

pub lefts-preserved : goal.lefts-preserved
lefts-preserved c =
    let levels = c.args.subtree.now.levels in
    let next = more levels c.lefts.i in
    let here = ap length c.left.ensures in
    let len = ap length next in
    record {
      place = omega (arith, length-append (left_nodes (take c.lefts.i levels)) (left_at levels c.lefts.i));
      written = c.write_nodes-place.ensures.written ∙ ap (λ nodes. nodes ++ c.left.result.now) c.lefts.invariant.written
          ∙ ap (λ nodes. left_nodes (take c.lefts.i levels) ++ nodes) c.left.ensures ∙ sym next;
      rest = rest_kept c.write_nodes-place.result (length (left_nodes levels)) c.write_nodes-place.new.list c.lefts.nodes
          (omega (arith, within levels c.lefts.i)) c.write_nodes-place.ensures.rest ∙ c.lefts.invariant.rest;
      len = c.write_nodes-place.auto.list ∙ c.lefts.invariant.len;
    }
