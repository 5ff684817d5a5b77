use Rattle.std.proofs.Common.{◌∙◌}
use Rattle.xet_hash.proofs.Hash.HexDigits.{IsHexText-decoded}
use Rattle.xet_hash.proofs.data_hash.DataHash.from_hex_digits.Goals as goal

pub returns-clause-value : goal.returns-clause-value
returns-clause-value c =
    c.from_text_bytes.ensures.text ∙ (IsHexText-decoded c.args.digits.now c.spelled_bytes.result c.spelled_bytes.ensures).1
