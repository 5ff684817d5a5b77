use Rattle.std.proofs.Common.{◌≡◌, ℕ, ◌+◌, ◌<◌, ◌≤◌, ◌^◌, Option, None, List, length, sym, ap, subst, inl, inr, arith, rules}
use Rattle.std.proofs.lemmas.Bool.{cases_lt}
use Rattle.std.specs.Prelude.{SomeIff}
use Rattle.subtree_levels.specs.Levels.{Level, node_count}
use Rattle.subtree_levels.proofs.OfLevels.Reading.{node_count-next, node_count-take}
use Rattle.subtree_levels.proofs.levels.count_nodes.Goals as goal

refused : (levels : List Level) (result : Option ℕ) → result ≡ None → 2 ^ 64 ≤ node_count levels → SomeIff result (node_count levels < 2 ^ 64) (node_count levels)
refused levels result none past = subst (λ (r : Option ℕ). SomeIff r (node_count levels < 2 ^ 64) (node_count levels)) (sym none) (λ few. omega arith)

pub returns-in_err-checked_add : goal.returns-in_err-checked_add
returns-in_err-checked_add g c =
    let levels = c.args.levels.now in
    let i = c.levels.level-index in
    let level = c.level-item.result in
    let next = node_count-next levels i level c.levels-test.true in
    let most = node_count-take levels (i + 1) in
    let left = ap (λ (l : Level). length l.left) c.level-item.is in
    let past : 2 ^ 64 ≤ c.levels.count + length level.left = search rules in
    let so_far = c.levels.invariant.0 in
    refused levels c.from_residual.result (search rules) (omega arith)

pub returns-in_err-count : goal.returns-in_err-count
returns-in_err-count g c =
    let levels = c.args.levels.now in
    let i = c.levels.level-index in
    let level = c.level-item.result in
    let next = node_count-next levels i level c.levels-test.true in
    let most = node_count-take levels (i + 1) in
    let left = ap (λ (l : Level). length l.left) c.level-item.is in
    let right = ap (λ (l : Level). length l.right) c.level-item.is in
    let len_left = ap length c.left.ensures in
    let len_right = ap length c.right.ensures in
    let sum : c.in_ok-checked_add.field-0 ≡ c.levels.count + length c.left.result.now = search rules in
    let past : 2 ^ 64 ≤ (c.levels.count + length level.left) + length level.right = elim (cases_lt (c.in_ok-checked_add.field-0 + length c.right.result.now) (2 ^ 64)) [
      | inl few ↦ absurd (c.in_err-count.ensures few)
      | inr past ↦ omega (arith, sum, len_left, len_right, past)
    ] in
    let so_far = c.levels.invariant.0 in
    refused levels c.from_residual-in_err-count.result (search rules) (omega arith)

pub levels-preserved : goal.levels-preserved
levels-preserved g c =
    let levels = c.args.levels.now in
    let i = c.levels.level-index in
    let level = c.level-item.result in
    let next = node_count-next levels i level c.levels-test.true in
    let left = ap (λ (l : Level). length l.left) c.level-item.is in
    let right = ap (λ (l : Level). length l.right) c.level-item.is in
    let len_left = ap length c.left.ensures in
    let len_right = ap length c.right.ensures in
    let sum : c.in_ok-checked_add.field-0 ≡ c.levels.count + length c.left.result.now = search rules in
    let sum_of_all : c.in_ok-count.count ≡ c.in_ok-checked_add.field-0 + length c.right.result.now = search rules in
    let count : c.in_ok-count.count ≡ (c.levels.count + length level.left) + length level.right = omega (arith, sum, sum_of_all, len_left, len_right) in
    let few : c.in_ok-count.count < 2 ^ 64 = search rules in
    let so_far = c.levels.invariant.0 in
    (omega arith, few)
