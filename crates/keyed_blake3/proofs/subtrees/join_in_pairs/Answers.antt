use Rattle.std.proofs.Common.{◌≡◌, suc, ◌+◌, ◌*◌, ◌/◌, ◌^◌, ◌≤◌, ℕ, length, arith, ap, ◌∙◌}
use Rattle.std.proofs.Math.Nat.{mul-le-mul_left}
use Rattle.keyed_blake3.proofs.Blake3.Subtrees.{parents_at}
use Rattle.keyed_blake3.proofs.Blake3.Waiting.{double}
use Rattle.keyed_blake3.proofs.subtrees.join_in_pairs.Goals as goal

pub levels-preserved : goal.levels-preserved
levels-preserved g c =
    let i = c.levels.invariant in
    let number : ℕ = c.levels.number / 2 in
    let count : ℕ = c.levels.count / 2 in
    let even_number : c.levels.number ≡ 2 * number = omega arith in
    let even_count : c.levels.count ≡ 2 * count = omega arith in
    let twice : (k q : ℕ) → 2 ^ k * (2 * q) ≡ 2 ^ suc k * q = λ k q. omega (arith, double k q) in
    record {
      some = omega arith;
      count = omega arith;
      number = omega arith;
      full = c.joined_values.ensures.full;
      lanes = λ k first m whole long are.
          let was = i.lanes k first m whole long are in
          let level : ℕ = was.0 in
          let all : 2 ^ k * c.args.count ≡ 2 ^ suc level * count = was.2 ∙ ap (λ (n : ℕ). 2 ^ level * n) even_count ∙ twice level count in (
            suc level,
            was.1 ∙ ap (λ (n : ℕ). 2 ^ level * n) even_number ∙ twice level number,
            all,
            λ j h.
                let within : 2 ^ suc level * (j + 1) ≤ 2 ^ suc level * count = mul-le-mul_left (2 ^ suc level) (omega (arith, h)) in
                let end : 1024 * (first + 2 ^ suc level * (j + 1)) ≤ length m = omega (arith, within, all, long) in
                c.joined_values.ensures.lanes j (omega (arith, h))
                ∙ parents_at c.args.key.now first level j m _ _ (was.3 (2 * j) (omega (arith, h))) (was.3 (2 * j + 1) (omega (arith, h))) end,
          );
    }
