use Rattle.std.proofs.Common.{◌≡◌, ℕ, ◌-◌, ◌*◌, ◌/◌, ◌%◌, ◌<◌, [], length, drop, arith, refl, subst}
use Rattle.std.proofs.lemmas.List.{drop_all}
use Rattle.keyed_blake3.specs.Blake3.{blocks_before_last, words_at}
use Rattle.keyed_blake3.specs.Blake3Hasher.{Holds, IsTaken}
use Rattle.keyed_blake3.specs.Steps.Tree.{IsAbsorbed, IsEnded}
use Rattle.keyed_blake3.proofs.hasher.Hasher.resume.Goals as goal

pub returns-then-ends_with_chunk-clause-message : goal.returns-then-ends_with_chunk-clause-message
unfolding Holds IsTaken
returns-then-ends_with_chunk-clause-message c = λ key m holds.
    let s = c.args.self.now in
    let e = c.ends_with_chunk.ensures.ended c.if-ends_with_chunk.true in
    let several : 1024 < s.count = e.0 in
    let whole : s.count % 1024 ≡ 0 = e.1 in
    let total : s.count ≡ length m = holds.0 in
    let same : length m / 1024 ≡ s.count / 1024 = omega arith in
    let ended = subst (λ (k : ℕ). IsEnded (words_at 8 key) s.tree k m) same (holds.2 (omega arith) (omega arith)) in
    let done = c.join_halves.ensures (words_at 8 key) m ended (omega arith) in
    let number : 16 * (s.count / 1024) ≡ s.count / 64 = omega arith in
    let none : length m - 64 * (s.count / 64) ≡ 0 = omega arith in
    let past : drop (64 * (s.count / 64)) m ≡ [] = drop_all (64 * (s.count / 64)) m (omega arith) in (
      total,
      subst (λ (k : ℕ). IsAbsorbed (words_at 8 key) c.join_halves.new.self k m) number done,
      rw (none, past) refl,
    )

pub returns-clause-message : goal.returns-clause-message
unfolding Holds
returns-clause-message c = λ key m holds.
    let s = c.args.self.now in
    let goes_on = c.ends_with_chunk.ensures.goes_on c.if-ends_with_chunk.false in
    let total : s.count ≡ length m = holds.0 in
    let same : blocks_before_last m ≡ c.blocks_before_last.result = omega (arith, c.blocks_before_last.ensures) in
    subst (λ (k : ℕ). IsTaken key s k m) same (holds.1 (λ several. omega (arith, goes_on (omega (arith, several)))))
