use Rattle.std.proofs.Common.{rules}
use Rattle.xet_hash.specs.HashForms.{base64_text}
use Rattle.xet_hash.proofs.data_hash.DataHash.base64_characters.Goals as goal

pub returns : goal.returns
unfolding base64_text
returns c = search rules
