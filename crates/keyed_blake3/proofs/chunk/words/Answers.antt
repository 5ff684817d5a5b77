use Rattle.std.proofs.Common.{◌*◌, drop, ℕ, arith}
use Rattle.std.proofs.lemmas.List.FromFn.{fill_by_all}
use Rattle.std.specs.Int.{from_le_bytes, w32}
use Rattle.keyed_blake3.specs.Blake3.{words_at}
use Rattle.keyed_blake3.proofs.chunk.words.Goals as goal

pub returns : goal.returns
unfolding words_at
returns g c =
    fill_by_all (λ (k : ℕ). from_le_bytes w32 (drop (4 * k) c.args.bytes.now)) c.words.words g.row.N 0 c.words.invariant.0 (λ k h. c.words.invariant.1 k (omega arith))
