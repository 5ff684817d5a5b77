use Rattle.std.proofs.Common.{[], arith, refl, sym}
use Rattle.std.specs.Int.RustNames.{count_ones}
use Rattle.keyed_blake3.specs.Blake3.{after_blocks, words_at}
use Rattle.keyed_blake3.specs.Blake3Hasher.{Holds, IsTaken, count_of}
use Rattle.keyed_blake3.proofs.Blake3.Waiting.{waiting-none}
use Rattle.keyed_blake3.proofs.hasher.Hasher.set_key.Goals as goal

pub returns-clause-message : goal.returns-clause-message
unfolding Holds IsTaken after_blocks count_of count_ones
returns-clause-message c = (
  c.requires,
  λ one. (c.requires, (c.words-key.ensures, c.words-key.ensures, sym (waiting-none (words_at 8 c.args.key.now) 54 0 [])), refl),
  λ several whole. absurd (omega (arith, several)),
)

pub returns-clause-count : goal.returns-clause-count
unfolding count_of
returns-clause-count c = c.requires
