use Rattle.std.proofs.Common.{ap, ◌∙◌}
use Rattle.std.specs.Int.{w32, to_le_bytes}
use Rattle.std.specs.List.{flat_map}
use Rattle.keyed_blake3.specs.Blake3.{keyed_hash}
use Rattle.keyed_blake3.proofs.hasher.Hasher.finalize.Goals as goal

pub returns : goal.returns
unfolding keyed_hash
returns c = λ key m holds.
    let j = c.rightmost-used.ensures.joined key m holds in
    c.output.ensures ∙ ap (flat_map (to_le_bytes w32)) ((rw j.1 at (c.joined.ensures j.0 j.2)) ∙ j.3)
