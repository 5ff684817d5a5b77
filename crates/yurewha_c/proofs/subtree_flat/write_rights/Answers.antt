use Rattle.std.proofs.Common.{◌≡◌, ℕ, ◌+◌, ◌-◌, ◌<◌, ◌≤◌, ◌++◌, suc, length, take, drop, List, ap, sym, ◌∙◌, arith, length-append, append_assoc}
use Rattle.xet_merkle.specs.Levels.{Level, right_at}
use Rattle.xet_merkle.specs.FlatLevels.{right_nodes}
use Rattle.yurewha_c.specs.Chunks.{nodes_of}
use Rattle.yurewha_c.proofs.FlatLevels.{right_nodes-more, rights_within, rest_kept}
use Rattle.yurewha_c.proofs.subtree_flat.write_rights.Goals as goal

-- the right nodes of one level more, down from the top, and that they are among all
more : (levels : List Level) (count i : ℕ) → i < count →
    right_nodes (drop (count - (i + 1)) levels) ≡ right_nodes (drop (count - i) levels) ++ right_at levels (count - 1 - i)
more levels count i lt =
    let this : count - (i + 1) ≡ count - 1 - i = omega arith in
    let next : suc (count - 1 - i) ≡ count - i = omega arith in
    ap (λ n. right_nodes (drop n levels)) this ∙ right_nodes-more levels (count - 1 - i)
    ∙ ap (λ n. right_nodes (drop n levels) ++ right_at levels (count - 1 - i)) next

within : (levels : List Level) (count i : ℕ) → i < count →
    length (right_nodes (drop (count - i) levels)) + length (right_at levels (count - 1 - i)) ≤ length (right_nodes levels)
within levels count i lt =
    let len = ap length (more levels count i lt) in
    omega (arith, rights_within levels (count - (i + 1)), length-append (right_nodes (drop (count - i) levels)) (right_at levels (count - 1 - i)))

pub write_nodes-place-requires : goal.write_nodes-place-requires
write_nodes-place-requires c =
    let here = ap length c.right.ensures in
    omega (arith, within c.args.subtree.now.levels c.num_levels-count.result c.rights.i c.rights-test.true)

pub rights-preserved : goal.rights-preserved
rights-preserved c =
    let levels = c.args.subtree.now.levels in
    let count = c.num_levels-count.result in
    let next = more levels count c.rights.i c.rights-test.true in
    let here = ap length c.right.ensures in
    let len = ap length next in
    let before = right_nodes (drop (count - c.rights.i) levels) in
    record {
      place = omega (arith, length-append before (right_at levels (count - 1 - c.rights.i)));
      written = c.write_nodes-place.ensures.written ∙ ap (λ nodes. nodes ++ c.right.result.now) c.rights.invariant.written
          ∙ append_assoc (nodes_of (take c.args.at c.args.nodes.now)) before c.right.result.now
          ∙ ap (λ nodes. nodes_of (take c.args.at c.args.nodes.now) ++ nodes) (ap (λ nodes. before ++ nodes) c.right.ensures ∙ sym next);
      rest = rest_kept c.write_nodes-place.result (c.args.at + length (right_nodes levels)) c.write_nodes-place.new.list c.rights.nodes
          (omega (arith, within levels count c.rights.i c.rights-test.true)) c.write_nodes-place.ensures.rest ∙ c.rights.invariant.rest;
      len = c.write_nodes-place.auto.list ∙ c.rights.invariant.len;
    }
