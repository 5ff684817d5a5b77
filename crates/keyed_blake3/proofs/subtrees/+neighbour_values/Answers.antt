use Rattle.std.proofs.Common.{◌≡◌, ℕ, ◌+◌, ◌*◌, ◌/◌, ◌^◌, ◌<◌, ◌≤◌, arith, get_or, length, refl, rules, ap, ◌∙◌, sym}
use Rattle.std.proofs.Math.Nat.{mul-add, mul-le-mul_left, mul_assoc, mul_comm, one-mul}
use Rattle.keyed_blake3.specs.Steps.Lanes.{beside, lane}
use Rattle.keyed_blake3.specs.Steps.Tree.{subtree_at}
use Rattle.keyed_blake3.proofs.Blake3.Subtrees.{both_beside, both_within, chunk_apart, end_within, halves_apart, two_halves}
use Rattle.keyed_blake3.proofs.subtrees.+neighbour_values.Goals as goal

pub returns-clause-lanes : goal.returns-clause-lanes
returns-clause-lanes g t c = λ k j m size h is.
    let key = c.args.key.now in
    let first : ℕ = c.args.first in
    let place : ℕ = c.args.place in
    let half : ℕ = c.args.size / 2 in
    let p : ℕ = place + c.args.size * j in
    let left = c.neighbour_values-left.result in
    let right = c.neighbour_values-right.result in
    let twice : 2 * half ≡ c.args.size = two_halves k c.args.size size (omega arith) in
    let even : half * (2 * j) ≡ c.args.size * j = sym (mul_assoc half 2 j) ∙ ap (λ (n : ℕ). n * j) (mul_comm half 2 ∙ twice) in
    let odd : half * (2 * j + 1) ≡ half * (2 * j) + half = mul-add half (2 * j) 1 ∙ omega arith in
    let within : c.args.size * (j + 1) ≤ c.args.size * g.row.L = mul-le-mul_left c.args.size (omega (arith, h)) in
    let next : c.args.size * (j + 1) ≡ c.args.size * j + c.args.size = mul-add c.args.size j 1 ∙ omega arith in
    let each : (i n : ℕ) → half ≡ 2 ^ n → i < 2 * g.row.L → lane i (beside left right) ≡ subtree_at key n (first + (place + half * i)) m =
    λ i n e l. both_beside g.row.L key first place half n m left right c.parent_values.ensures.sizes.0 c.parent_values.ensures.sizes.1 c.neighbour_values-left.ensures.full
    (λ a b. c.neighbour_values-left.ensures.lanes n a m e b is) (λ a b. c.neighbour_values-right.ensures.lanes n a m e b is) i l in
    c.parent_values.ensures.lanes j h
    ∙ halves_apart key (first + p) k c.args.size half m (lane (2 * j) (beside left right)) (lane (2 * j + 1) (beside left right))
    size (omega arith) refl (omega (arith, end_within first (p + c.args.size) m c.args.chunks.now (omega (arith, c.requires.chunks, within, next)) is (omega arith)))
    (λ i e. each (2 * j) i e (omega (arith, h)) ∙ ap (λ (n : ℕ). subtree_at key i n m) (omega (arith, even)))
    (λ i e. each (2 * j + 1) i e (omega (arith, h)) ∙ ap (λ (n : ℕ). subtree_at key i n m) (omega (arith, even, odd)))

pub returns-then-size-eq1-clause-lanes : goal.returns-then-size-eq1-clause-lanes
returns-then-size-eq1-clause-lanes g t c = λ k j m size h is.
    let p : ℕ = get_or c.moved.result j 0 in
    let one : c.args.size * j ≡ j = ap (λ (n : ℕ). n * j) (omega arith) ∙ one-mul j in
    let all : c.args.size * g.row.L ≡ g.row.L = ap (λ (n : ℕ). n * g.row.L) (omega arith) ∙ one-mul g.row.L in
    let neighbour : get_or c.neighbours.result j 0 ≡ j = (c.neighbours.ensures j h).1 (omega (arith, h)) in
    let reached : p ≡ c.args.place + c.args.size * j = omega (arith, c.moved.ensures j h, neighbour, one) in
    chunk_apart c.args.key.now c.args.first p k m c.args.chunks.now (lane j c.chunk_values.result)
    (omega (arith, size)) (omega (arith, c.requires.chunks, reached, one, all, h)) is (c.chunk_values.ensures.lanes j h)
    ∙ ap (λ (n : ℕ). subtree_at c.args.key.now k (c.args.first + n) m) reached

pub neighbour_values-right-requires : goal.neighbour_values-right-requires
neighbour_values-right-requires g t c κs within =
    let few = g.met.W.Width.lanes in
    let both : 1024 * (c.args.place + c.args.size / 2 * g.row.L + c.args.size / 2 * g.row.L) ≤ length c.args.chunks.now =
    omega (arith, c.requires.chunks, both_within c.args.size g.row.L) in
    (omega arith, (search rules, (search rules, (search rules, (omega (arith, few), (omega (arith, few), (omega arith, (c.requires.counter, both))))))))
