use Rattle.std.proofs.Common.{◌≡◌, ℕ, ◌+◌, ◌*◌, ◌/◌, ◌^◌, ◌<◌, ◌≤◌, arith, get_or, length, subst, sym, ap, ◌∙◌}
use Rattle.std.proofs.Math.Nat.{one-mul}
use Rattle.keyed_blake3.specs.Steps.Lanes.{lane}
use Rattle.keyed_blake3.specs.Steps.Tree.{subtree_at}
use Rattle.keyed_blake3.proofs.Blake3.Subtrees.{chunk_values_at, is_chunk, lanes_full, len_of}
use Rattle.keyed_blake3.proofs.subtrees.subtree_values.Goals as goal
use Rattle.keyed_blake3.proofs.subtrees.subtree_values.Goals.{then-this-lt-WIDEST-2-via-else-this-lt-WIDEST-2+then-chunks-2, then-this-lt-WIDEST-2-via-then-this-lt-WIDEST-2}

pub returns-then-chunks-clause-lanes : goal.returns-then-chunks-clause-lanes
returns-then-chunks-clause-lanes g c = λ k n j m size few all is h.
    let none : k ≡ 0 = is_chunk g.row.L k n (length c.args.chunks.now) (omega (arith, g.met.W.Width.lanes.0)) size (omega (arith, c.if-chunks.true, g.met.W.Width.lanes.0)) all in
    let chunks : length c.args.chunks.now ≡ 1024 * (2 ^ 0 * n) = size ∙ ap (λ (i : ℕ). 1024 * (2 ^ i * n)) none in
    let two : n ≡ 2 = omega (arith, chunks, one-mul n) in
    subst (λ (i : ℕ). lane j c.values_of_two.result ≡ subtree_at c.args.key.now i (c.args.first + 2 ^ i * j) m) (sym none)
    (chunk_values_at c.args.key.now c.args.first n j m c.args.chunks.now (lane j c.values_of_two.result) chunks is h (c.values_of_two.ensures.lanes j (omega (arith, h, two))))

pub returns-then-this-lt-WIDEST-clause-lanes : goal.returns-then-this-lt-WIDEST-clause-lanes
returns-then-this-lt-WIDEST-clause-lanes g c = λ k n j m size few all is h.
    let none : k ≡ 0 = is_chunk g.row.L k n (length c.args.chunks.now) (omega (arith, g.met.W.Width.lanes.0)) size (omega (arith, c.requires.narrow c.if-this-lt-WIDEST.true, g.met.W.Width.lanes.0)) all in
    let chunks : length c.args.chunks.now ≡ 1024 * (2 ^ 0 * n) = size ∙ ap (λ (i : ℕ). 1024 * (2 ^ i * n)) none in
    let value = c.values_of_four.ensures.lanes j (omega (arith, chunks, one-mul n, h)) in
    subst (λ (i : ℕ). lane j c.values_of_four.result ≡ subtree_at c.args.key.now i (c.args.first + 2 ^ i * j) m) (sym none)
    (chunk_values_at c.args.key.now c.args.first n j m c.args.chunks.now (lane j c.values_of_four.result) chunks is h value)

pub returns-then-this-lt-WIDEST-2-clause-lanes : goal.returns-then-this-lt-WIDEST-2-clause-lanes
returns-then-this-lt-WIDEST-2-clause-lanes g c = λ k n j m size few all is h.
    let few_bytes : length c.args.chunks.now ≤ 1024 * g.row.L = elim c.then-this-lt-WIDEST-2.branch [
      | then-this-lt-WIDEST-2-via-then-this-lt-WIDEST-2 w ↦ c.requires.narrow w.if-this-lt-WIDEST-2.true
      | then-this-lt-WIDEST-2-via-else-this-lt-WIDEST-2+then-chunks-2 w ↦ w.if-chunks-2.true
    ] in
    let none : k ≡ 0 = is_chunk g.row.L k n (length c.args.chunks.now) (omega (arith, g.met.W.Width.lanes.0)) size few_bytes all in
    let chunks : length c.args.chunks.now ≡ 1024 * (2 ^ 0 * n) = size ∙ ap (λ (i : ℕ). 1024 * (2 ^ i * n)) none in
    let within : j < g.row.L = omega (arith, h, few) in
    let same : get_or c.neighbours-places.result j 0 ≡ j = (c.neighbours-places.ensures j within).1 (omega (arith, chunks, one-mul n, h)) in
    let value = rw same at (c.chunk_values.ensures.lanes j within) in
    subst (λ (i : ℕ). lane j c.chunk_values.result ≡ subtree_at c.args.key.now i (c.args.first + 2 ^ i * j) m) (sym none)
    (chunk_values_at c.args.key.now c.args.first n j m c.args.chunks.now (lane j c.chunk_values.result) chunks is h value)

pub returns-clause-lanes : goal.returns-clause-lanes
returns-clause-lanes g c = λ k n j m size few all is h.
    let full : n ≡ g.row.L = lanes_full g.row.L k n (length c.args.chunks.now) size c.if-chunks-2.false few all in
    let whole : length c.args.chunks.now ≡ 1024 * (2 ^ k * g.row.L) = size ∙ ap (λ (i : ℕ). 1024 * (2 ^ k * i)) full in
    let len : length c.args.chunks.now / (1024 * g.row.L) ≡ 2 ^ k = len_of g.row.L (2 ^ k) (length c.args.chunks.now) (omega (arith, g.met.W.Width.lanes.0)) whole in
    let within : j < g.row.L = omega (arith, h, few) in
    let place : length c.args.chunks.now / (1024 * g.row.L) * j ≡ 2 ^ k * j = ap (λ (x : ℕ). x * j) len in
    c.neighbour_values.ensures.lanes k j m len within is
    ∙ ap (λ (x : ℕ). subtree_at c.args.key.now k (c.args.first + x) m) (omega (arith, place))
