use Rattle.std.proofs.Common.{◌≡◌, ◌*◌, length, take}
use Rattle.std.specs.Int.{to_le_bytes, w32}
use Rattle.std.specs.List.{flat_map}
use Rattle.keyed_blake3.proofs.tree.output.Given as goal

abbrev pub invariant-words : goal.invariant-words
invariant-words l = (length l.bytes ≡ 32) × (take (4 * l.i) l.bytes ≡ flat_map (to_le_bytes w32) (take l.i l.value))
