use Rattle.std.proofs.Common.{◌≡◌, ℕ, ◌+◌, ◌-◌, ◌*◌, ◌/◌, ◌%◌, ◌^◌, ◌<◌, ◌≤◌, List, arith, drop, length, take, sym, ap, ◌∙◌}
use Rattle.std.proofs.Math.Nat.{div-add-mod, mul-add}
use Rattle.std.proofs.lemmas.Nat.{pow_below}
use Rattle.keyed_blake3.specs.Blake3.{after_blocks}
use Rattle.keyed_blake3.specs.Steps.Lanes.{lane}
use Rattle.keyed_blake3.specs.Steps.Tree.{IsWaiting, subtree_at}
use Rattle.keyed_blake3.proofs.tree.Tree.absorb_subtrees.Goals as goal

pub returns : goal.returns
unfolding after_blocks
returns g c =
    let s = c.args.self.now in
    let first : ℕ = c.args.first in
    let count : ℕ = c.args.count in
    let k : ℕ = c.requires.len.0 in
    let power : c.args.len ≡ 2 ^ k = c.requires.len.1 in
    let size : ℕ = c.args.len * count in
    let same : size ≡ 2 ^ k * count = ap (λ (n : ℕ). n * count) power in
    let full : 0 < k → count ≡ g.row.L = λ more. c.requires.all (omega (arith, power, pow_below 0 k more)) in
    let whole : first ≡ 2 ^ k * (first / c.args.len) =
    sym (ap (λ (n : ℕ). n * (first / c.args.len)) (sym power) ∙ omega (arith, div-add-mod first c.args.len, c.requires.first)) in
    let values : (m : List ℕ) → c.args.chunks.now ≡ take (1024 * size) (drop (1024 * first) m)
    → (j : ℕ) → j < count → lane j c.subtree_values-values.result ≡ subtree_at s.key k (first + 2 ^ k * j) m =
    λ m is j h. c.subtree_values-values.ensures.lanes k count j m (c.requires.chunks ∙ ap (λ (n : ℕ). 1024 * n) same) c.requires.count full
    (is ∙ ap (λ (n : ℕ). take n (drop (1024 * first) m)) (sym c.requires.chunks)) h in
    let pairs = c.join_in_pairs-number.result in
    let number : ℕ = pairs.0 in
    let last : ℕ = pairs.1 - 1 in
    let all : last + 1 ≡ pairs.1 = omega (arith, c.join_in_pairs-number.ensures.some) in
    let joined : (m : List ℕ) → 1024 * (first + size) ≤ length m → c.args.chunks.now ≡ take (1024 * size) (drop (1024 * first) m)
    → (level : ℕ) × (first ≡ 2 ^ level * number) × (first + 2 ^ level * last ≡ 2 ^ level * (number + last))
    × (first + 2 ^ level * last + 2 ^ level ≡ first + size)
    × ((j : ℕ) → j < pairs.1 → lane j c.join_in_pairs-number.new.values ≡ subtree_at s.key level (first + 2 ^ level * j) m) =
    λ m long is.
    let r = c.join_in_pairs-number.ensures.lanes k first m whole (omega (arith, same, long)) (values m is) in
    let level : ℕ = r.0 in
    let split : 2 ^ level * (last + 1) ≡ 2 ^ level * last + 2 ^ level * 1 = mul-add (2 ^ level) last 1 in (
      level,
      r.1,
      omega (arith, mul-add (2 ^ level) number last, r.1),
      omega (arith, rw all at split, same, r.2),
      r.3,
    ) in
    let here : 16 * first / 16 ≡ first = omega arith in
    let before : 16 * first % 16 ≡ 0 = omega arith in
    let next : 16 * (first + size) / 16 ≡ first + size = omega arith in
    let start : 16 * (first + size) % 16 ≡ 0 = omega arith in
    let waits : (m : List ℕ) (held : IsWaiting s.key s.cv_stack first m) (long : 1024 * (first + size) ≤ length m)
    (is : c.args.chunks.now ≡ take (1024 * size) (drop (1024 * first) m))
    → IsWaiting s.key c.add_values.new.self.cv_stack (first + 2 ^ (joined m long is).0 * last) m =
    λ m held long is.
    let r = joined m long is in
    c.add_values.ensures.waits r.0 first m r.1 held (omega (arith, r.3, c.requires.end)) (omega (arith, r.3, long)) (λ j h. r.4 j (omega arith)) in
    record {
      absorbed = λ none key m held long is.
          let r = joined m long is in
          let added = (rw c.add_values.ensures.key at c.add_subtree_value.ensures.joined) none r.0 (first + 2 ^ r.0 * last) m r.2
          (waits m (rw held.0 (rw here at held.2)) long is) (c.lane-value.ensures ∙ r.4 last (omega (arith, all))) (omega (arith, r.3, c.requires.end)) (omega (arith, r.3, long)) in (
            c.add_values.ensures.key ∙ held.0,
            rw start (c.add_values.ensures.chaining_value ∙ (rw before at held.1)),
            rw (next, ← held.0) (rw r.3 at added),
          );
      ended = λ one key m held long is.
          let r = joined m long is in
          let added = (rw c.add_values.ensures.key at c.add_subtree_value.ensures.kept) one (omega arith) r.0 (first + 2 ^ r.0 * last) m r.2
          (waits m (rw held.0 (rw here at held.2)) long is) (c.lane-value.ensures ∙ r.4 last (omega (arith, all))) (omega (arith, r.3, c.requires.end)) (omega (arith, r.3, long)) in (
            c.add_values.ensures.key ∙ held.0,
            c.add_values.ensures.chaining_value ∙ (rw before at held.1),
            rw (← held.0) (rw r.3 at added),
          );
    }
