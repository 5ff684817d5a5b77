use Rattle.std.proofs.Common.{◌≡◌, ℕ, ◌+◌, ◌-◌, ◌*◌, ◌/◌, ◌%◌, ◌<◌, List, length, take, arith, refl, subst}
use Rattle.keyed_blake3.specs.Blake3.{block, blocks_before_last, chunk_end_flag, compress, keyed_hash_flag, start_flag, words_at}
use Rattle.keyed_blake3.specs.Blake3Hasher.{Holds, IsTaken}
use Rattle.keyed_blake3.specs.Steps.Tree.{IsEnded}
use Rattle.keyed_blake3.proofs.Blake3.Finishing.{IsTaken_key, ended_value, root_flag-some, root_value}
use Rattle.keyed_blake3.proofs.Blake3.Merging.{ones_below}
use Rattle.keyed_blake3.proofs.hasher.Hasher.rightmost.Goals as goal

pub bounds-self-used : goal.bounds-self-used
bounds-self-used c = omega (arith, ones_below (c.args.self.now.count / 1024) (omega arith))

pub returns-then-ends_with_chunk-clause-used : goal.returns-then-ends_with_chunk-clause-used
returns-then-ends_with_chunk-clause-used c = omega (arith, ones_below (c.args.self.now.count / 1024) (omega arith))

pub returns-then-ends_with_chunk-clause-joined : goal.returns-then-ends_with_chunk-clause-joined
unfolding Holds
returns-then-ends_with_chunk-clause-joined c = λ key m holds.
    let s = c.args.self.now in
    let e = c.ends_with_chunk.ensures.ended c.if-ends_with_chunk.true in
    let several : 1024 < s.count = e.0 in
    let whole : s.count % 1024 ≡ 0 = e.1 in
    let total : s.count ≡ length m = holds.0 in
    let chunks : ℕ = s.count / 1024 in
    let same : length m / 1024 ≡ chunks = omega arith in
    let ended = subst (λ (k : ℕ). IsEnded (words_at 8 key) s.tree k m) same (holds.2 (omega arith) (omega arith)) in
    let value = ended_value (words_at 8 key) s.tree chunks (c.max.result - 1) m ended (omega arith) (omega arith) (λ few. omega arith) (λ more. omega arith) in (
      value.1,
      ended.0,
      rw (root_flag-some (c.max.result - 1) value.0) value.2,
      value.3,
    )

pub returns-clause-used : goal.returns-clause-used
returns-clause-used c = ones_below (c.blocks_before_last-number.result / 16) (omega (arith, c.blocks_before_last-number.ensures))

pub returns-clause-joined : goal.returns-clause-joined
unfolding Holds
returns-clause-joined c = λ key m holds.
    let s = c.args.self.now in
    let goes_on = c.ends_with_chunk.ensures.goes_on c.if-ends_with_chunk.false in
    let total : s.count ≡ length m = holds.0 in
    let number = c.blocks_before_last-number.result in
    let held : ℕ = s.count - 64 * number in
    let rest : List ℕ = take held s.block in
    let same : blocks_before_last m ≡ number = omega (arith, c.blocks_before_last-number.ensures) in
    let taken = subst (λ (k : ℕ). IsTaken key s k m) same (holds.1 (λ several. omega (arith, goes_on (omega (arith, several))))) in (
      λ f. compress s.tree.chaining_value (words_at 16 (block rest 0)) (number / 16) (length rest) (keyed_hash_flag + start_flag (number % 16) + chunk_end_flag + f),
      IsTaken_key key s number m taken,
      rw c.root_flag.ensures at c.last_value-value.ensures,
      root_value key s m rest number held taken (omega arith) c.blocks_before_last-number.ensures refl refl,
    )
