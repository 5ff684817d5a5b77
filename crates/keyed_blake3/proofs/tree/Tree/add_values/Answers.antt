use Rattle.std.proofs.Common.{◌≡◌, ℕ, ◌+◌, ◌*◌, ◌^◌, ◌≤◌, arith, refl, ◌∙◌}
use Rattle.std.proofs.Math.Nat.{mul-add, mul-le-mul_left}
use Rattle.keyed_blake3.proofs.tree.Tree.add_values.Goals as goal

pub values-preserved : goal.values-preserved
values-preserved g c = record {
  key = c.values.invariant.key;
  chaining_value = c.values.invariant.chaining_value;
  waits = λ k first m whole waits small long are.
      let j : ℕ = c.values.j in
      let here : ℕ = first + 2 ^ k * j in
      let place : here ≡ 2 ^ k * (c.args.number + j) = omega (arith, mul-add (2 ^ k) c.args.number j, whole) in
      let next : here + 2 ^ k ≡ first + 2 ^ k * (j + 1) = omega (arith, mul-add (2 ^ k) j 1) in
      let within : 2 ^ k * (j + 1) ≤ 2 ^ k * c.args.count = mul-le-mul_left (2 ^ k) (omega (arith, c.values-test.true)) in
      rw next at ((rw c.values.invariant.key at c.add_subtree_value.ensures.joined) refl k here m place
      (c.values.invariant.waits k first m whole waits small long are)
      (c.lane-value.ensures ∙ are j c.values-test.true) (omega arith) (omega arith));
}
