use Rattle.std.proofs.Common.{◌≡◌, ℕ, ◌+◌, ◌-◌, ◌*◌, ◌/◌, ◌%◌, ◌<◌, length, take, drop, arith, subst, sym, ap, ◌∙◌, length-drop}
use Rattle.std.proofs.lemmas.List.{take_all}
use Rattle.keyed_blake3.specs.Blake3.{blocks_before_last, words_at}
use Rattle.keyed_blake3.specs.Blake3Hasher.{Holds, IsTaken}
use Rattle.keyed_blake3.specs.Steps.Tree.{IsAbsorbed, IsEnded}
use Rattle.keyed_blake3.proofs.hasher.Hasher.close.Goals as goal

pub returns-then-ends_with_chunk-clause-message : goal.returns-then-ends_with_chunk-clause-message
unfolding Holds IsTaken
returns-then-ends_with_chunk-clause-message c = λ key m held.
    let s = c.args.self.now in
    let e = c.ends_with_chunk.ensures.ended c.if-ends_with_chunk.true in
    let several : 1024 < s.count = e.0 in
    let whole : s.count % 1024 ≡ 0 = e.1 in
    let total : s.count ≡ length m = held.0 in
    let i : ℕ = s.count / 1024 - 1 in
    let number : blocks_before_last m ≡ 16 * i + 15 = omega arith in
    let all : length m - 64 * blocks_before_last m ≡ 64 = omega arith in
    let place : 64 * blocks_before_last m ≡ 1024 * i + 960 = omega arith in
    let rest : length (drop (64 * blocks_before_last m) m) ≡ length m - 64 * blocks_before_last m = length-drop (64 * blocks_before_last m) m in
    let bytes : s.block ≡ take 64 (drop (1024 * i + 960) m) =
    sym (take_all 64 s.block (omega arith)) ∙ (rw all at held.2) ∙ sym (take_all 64 (drop (64 * blocks_before_last m) m) (omega arith))
    ∙ ap (λ (k : ℕ). take 64 (drop k m)) place in
    let done = c.end_with_block.ensures (words_at 8 key) m (subst (λ (k : ℕ). IsAbsorbed (words_at 8 key) s.tree k m) number held.1) (omega arith) bytes in
    let here : i + 1 ≡ length m / 1024 = omega arith in (
      total,
      λ one. absurd (omega (arith, one (omega arith))),
      λ _ _. subst (λ (k : ℕ). IsEnded (words_at 8 key) c.end_with_block.new.self k m) here done,
    )

pub returns-else-ends_with_chunk-clause-message : goal.returns-else-ends_with_chunk-clause-message
unfolding Holds IsTaken
returns-else-ends_with_chunk-clause-message c = λ key m held.
    let goes_on = c.ends_with_chunk.ensures.goes_on c.if-ends_with_chunk.false in
    let total = held.0 in
    (total, λ _. held, λ several whole. absurd (omega (arith, goes_on (omega (arith, several)))))
