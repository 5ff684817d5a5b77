use Rattle.std.proofs.Common.{subst, ◌∙◌}
use Rattle.std.specs.Prelude.{All}
use Rattle.std.proofs.lemmas.List.{take_all}
use Rattle.std.proofs.lemmas.List.Elements.{All-more, All-nil}
use Rattle.level_nodes.specs.Level.{Level}
use Rattle.range_proof.specs.RangeProof.{AreHashes}
use Rattle.range_proof.proofs.reading.read_all_words.Goals as goal

pub levels-init : goal.levels-init
levels-init g c = record { left = All-nil (λ (sides : Level). AreHashes sides.left); right = All-nil (λ (sides : Level). AreHashes sides.right) }

pub levels-preserved : goal.levels-preserved
levels-preserved g c =
    record {
      left = All-more (λ (sides : Level). AreHashes sides.left) _ c.levels.level-index c.level-item.result c.levels-test.true c.levels.invariant.left
          (subst (λ (sides : Level). AreHashes sides.left) c.level-item.is c.read_side_words.ensures.left);
      right = All-more (λ (sides : Level). AreHashes sides.right) _ c.levels.level-index c.level-item.result c.levels-test.true c.levels.invariant.right
          (subst (λ (sides : Level). AreHashes sides.right) c.level-item.is c.read_side_words.ensures.right);
    }

pub returns : goal.returns
returns g c =
    let all = take_all c.levels.level-index c.levels-levels.result.now c.levels-test.false ∙ c.levels-levels.ensures.levels in
    record {
      chunks = subst AreHashes c.chunks-chunks.ensures.nodes c.read_words.ensures;
      left = subst (All (λ (sides : Level). AreHashes sides.left)) all c.levels.invariant.left;
      right = subst (All (λ (sides : Level). AreHashes sides.right)) all c.levels.invariant.right;
    }
