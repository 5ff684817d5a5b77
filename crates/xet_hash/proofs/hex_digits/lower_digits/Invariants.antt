use Rattle.std.proofs.Common.{◌≡◌, ◌*◌, ◌++◌, length, take, drop}
use Rattle.hex.specs.Hex.{encode_lower}
use Rattle.xet_hash.proofs.hex_digits.lower_digits.Given as goal

-- the digits of the bytes so far are written, and those of the others follow
abbrev pub invariant-bytes : goal.invariant-bytes
invariant-bytes l =
    (length l.digits ≡ 64) × (take (2 * l.i) l.digits ++ encode_lower (drop l.i l.bytes) ≡ encode_lower l.bytes)
