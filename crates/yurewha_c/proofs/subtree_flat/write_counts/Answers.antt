use Rattle.std.proofs.Common.{◌≡◌, ℕ, ◌<◌, ◌++◌, [], ◌∷◌, List, length, map, take, ap, sym, ◌∙◌, arith, add-one, length-set}
use Rattle.std.proofs.lemmas.List.{take_more_set, map-append, drop-set-lt}
use Rattle.xet_merkle.specs.Levels.{left_at, right_at}
use Rattle.xet_merkle.specs.FlatLevels.{count_of}
use Rattle.yurewha_c.specs.FlatLists.{counts_of}
use Rattle.yurewha_c.specs.declared.subtree_flat.Level.{Level as Written}
use Rattle.yurewha_c.proofs.FlatLevels.{counts-more}
use Rattle.yurewha_c.proofs.subtree_flat.write_counts.Goals as goal

pub levels-preserved : goal.levels-preserved
levels-preserved c =
    let levels = c.args.subtree.now.levels in
    let i = c.levels.i in
    let written : Written = record { left = length c.left.result.now; right = length c.right.result.now } in
    let within : i < length c.levels.levels = omega arith in
    let among : i < length levels = omega arith in
    let count : (length c.left.result.now, length c.right.result.now) ≡ (length (left_at levels i), length (right_at levels i)) =
    λ k. (ap length c.left.ensures k, ap length c.right.ensures k) in
    record {
      written = ap counts_of (take_more_set c.levels.levels i written within)
          ∙ map-append (λ (level : Written). (level.left, level.right)) (take i c.levels.levels) (written ∷ [])
          ∙ ap (λ (counts : List (ℕ × ℕ)). counts ++ (length c.left.result.now, length c.right.result.now) ∷ []) c.levels.invariant.written
          ∙ ap (λ (pair : ℕ × ℕ). map count_of (take i levels) ++ pair ∷ []) count
          ∙ sym (ap (λ n. map count_of (take n levels)) (add-one i) ∙ counts-more levels i among);
      rest = drop-set-lt (length levels) c.levels.levels i written among ∙ c.levels.invariant.rest;
      len = length-set c.levels.levels i written ∙ c.levels.invariant.len;
    }
