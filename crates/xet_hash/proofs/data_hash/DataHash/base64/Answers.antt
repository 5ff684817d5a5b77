use Rattle.std.proofs.Common.{rules}
use Rattle.xet_hash.proofs.data_hash.DataHash.base64.Goals as goal

pub returns : goal.returns
unfolding Rattle.xet_hash.specs.HashForms.base64_text
returns g c = search rules
