use Rattle.std.proofs.Common.{◌≡◌, ℕ, ◌+◌, ◌-◌, ◌≤◌, List, [], ◌∷◌, ◌++◌, length, get_or, map, take, drop, sym, ap, ◌∙◌, arith, rules, length-take}
use Rattle.std.proofs.lemmas.List.{drop_more, take_more, take-append-drop, length-drop, map-append}
use Rattle.std.proofs.lemmas.List.Sums.{sum_by-cons}
use Rattle.level_nodes.specs.Level.{Level}
use Rattle.level_nodes.specs.FlatLevels.{count_sum, count_of, flat_nodes}
use Rattle.level_nodes.proofs.FlatOf.{flat_more}
use Rattle.level_nodes.proofs.flat.cut_levels.Goals as goal

pub levels-preserved : goal.levels-preserved
levels-preserved g c =
    let counts = c.args.counts.now in
    let i = c.levels.count-index in
    let rest = c.levels.between.now in
    let levels = c.levels.levels.items in
    let level = c.in_ok-copied.field-0 in
    let count : ℕ × ℕ = get_or counts i (0, 0) in
    let after = c.split_at.result.1.now in
    let inner = c.split_at-in-levels.result.0.now in
    let more = drop (i + 1) counts in
    let tail : drop i counts ≡ count ∷ more = drop_more counts i (0, 0) c.levels-test.true in
    let sum = ap count_sum tail in
    let all = sum_by-cons (λ (c : ℕ × ℕ). c.0 + c.1) count more in
    let adds_up = c.levels.invariant.adds_up in
    let enough : count.0 + count.1 + count_sum more ≤ length rest = omega arith in
    let left : c.split_at.result.0.now ≡ take count.0 rest = search rules in
    let after_is : after ≡ drop count.0 rest = search rules in
    let n = length after - count.1 in
    let inner_is : inner ≡ take n after = search rules in
    let right_is : c.split_at-in-levels.result.1.now ≡ drop n after = search rules in
    let made_left : level.left ≡ take count.0 rest = ap (λ (l : Level). l.left) c.in_ok-copied.ensures ∙ left in
    let made_right : level.right ≡ drop n after = ap (λ (l : Level). l.right) c.in_ok-copied.ensures ∙ right_is in
    let pushed : c.push.new.self.items ≡ levels ++ level ∷ [] = search rules in
    let cut_rest : rest ≡ level.left ++ (inner ++ level.right) =
    sym (take-append-drop count.0 rest)
    ∙ (λ j. sym made_left j ++ (sym after_is ∙ sym (take-append-drop n after) ∙ (λ k. sym inner_is k ++ sym made_right k)) j) in
    let len_after = ap length after_is in
    let len_after_is = length-drop count.0 rest in
    let len_left = ap length made_left in
    let len_left_is = length-take count.0 rest in
    let len_right = ap length made_right in
    let len_right_is = length-drop n after in
    let len_inner = ap length inner_is in
    let len_inner_is = length-take n after in
    let first : count.0 ≡ length level.left = omega arith in
    let second : count.1 ≡ length level.right = omega arith in
    record {
      nodes = flat_more c.args.nodes.now rest levels level inner c.levels.invariant.nodes cut_rest
          ∙ ap (λ (l : List Level). flat_nodes l inner) (sym pushed);
      counts =
          ap (map count_of) pushed ∙ map-append count_of levels (level ∷ [])
          ∙ (λ j. c.levels.invariant.counts j ++ (sym first j, sym second j) ∷ [])
          ∙ sym (take_more counts i (0, 0) c.levels-test.true);
      adds_up = omega arith;
    }
