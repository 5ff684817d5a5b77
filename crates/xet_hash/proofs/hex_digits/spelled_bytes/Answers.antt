use Rattle.std.proofs.Common.{◌*◌, ◌+◌, arith, length-set, slice_index, ◌∙◌}
use Rattle.hex.proofs.Pairs.{decode_done, decode_sized-pairs, decode_step}
use Rattle.xet_hash.proofs.Hash.HexDigits.{digit_at, pair_spelled}
use Rattle.xet_hash.proofs.hex_digits.spelled_bytes.Goals as goal

pub bytes-preserved : goal.bytes-preserved
bytes-preserved c =
    let i = c.bytes.i in
    let digits = c.args.digits.now in
    let high = c.digit_value.ensures.value (digit_at digits (2 * i) c.requires (omega arith)) in
    let low = c.digit_value-in-bytes.ensures.value (digit_at digits (2 * i + 1) c.requires (omega arith)) in (
      length-set _ _ _ ∙ c.bytes.invariant.0,
      decode_step digits c.bytes.bytes i _ (omega (arith, c.requires.0)) (omega (arith, c.bytes.invariant.0)) (pair_spelled (slice_index digits (2 * i)) (slice_index digits (2 * i + 1)) (2 * i) _ _ high low)
          c.bytes.invariant.1,
    )

pub returns : goal.returns
returns c =
    let size = c.requires.0 in
    decode_sized-pairs c.args.digits.now 32 (omega (arith, size)) (omega (arith, size))
    ∙ decode_done c.args.digits.now c.bytes.bytes c.bytes.i (omega (arith, c.bytes.invariant.0)) (omega (arith, size)) c.bytes.invariant.1
