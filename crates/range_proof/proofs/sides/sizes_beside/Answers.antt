use Rattle.std.proofs.Common.{ap, ◌∙◌}
use Rattle.std.proofs.lemmas.List.{take_all}
use Rattle.std.specs.Prelude.{sum_by}
use Rattle.xet_roots.specs.Roots.{total_size}
use Rattle.range_proof.proofs.SidesOf.{AreSizes-more, left_size, both_sizes}
use Rattle.range_proof.proofs.sides.sizes_beside.Goals as goal

pub levels-preserved : goal.levels-preserved
levels-preserved g c =
    let more = AreSizes-more c.args.levels.now c.levels.level-index c.level-item.result c.levels.before c.levels.after c.size_of_nodes-before.result
    c.size_of_nodes-after.result c.levels-test.true c.level-item.is c.levels.invariant.before c.levels.invariant.both
    (c.size_of_nodes-before.ensures ∙ ap total_size c.left.ensures) (c.size_of_nodes-after.ensures ∙ ap total_size c.right.ensures) in
    record { before = more.left; both = more.both }

pub returns : goal.returns
returns g c =
    let all = take_all c.levels.level-index c.args.levels.now c.levels-test.false in
    record {
      left = c.levels.invariant.before ∙ ap (sum_by left_size) all;
      both = c.levels.invariant.both ∙ ap (sum_by both_sizes) all;
    }
