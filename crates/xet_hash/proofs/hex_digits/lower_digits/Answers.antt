use Rattle.std.proofs.Common.{◌∙◌, arith, length-set}
use Rattle.hex.proofs.Pairs.{encode_step, encode_done}
use Rattle.xet_hash.proofs.hex_digits.lower_digits.Goals as goal

pub bytes-preserved : goal.bytes-preserved
bytes-preserved c = (
  length-set _ _ _ ∙ length-set _ _ _ ∙ c.bytes.invariant.0,
  encode_step _ _ _ c.bytes.i _ _ (omega arith) (omega (arith, c.bytes.invariant.0)) c.lower_digit.ensures c.lower_digit-in-bytes.ensures c.bytes.invariant.1,
)

pub returns : goal.returns
returns c = encode_done _ _ _ c.bytes.i (omega arith) (omega (arith, c.bytes.invariant.0)) c.bytes.invariant.1
