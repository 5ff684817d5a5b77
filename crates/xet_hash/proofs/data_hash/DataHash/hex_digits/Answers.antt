use Rattle.xet_hash.proofs.Hash.HexText.{IsAscii-encode_lower}
use Rattle.xet_hash.proofs.data_hash.DataHash.hex_digits.Goals as goal

pub returns-clause-ascii : goal.returns-clause-ascii
returns-clause-ascii c = rw c.lower_digits.ensures (IsAscii-encode_lower c.text_bytes.result)
