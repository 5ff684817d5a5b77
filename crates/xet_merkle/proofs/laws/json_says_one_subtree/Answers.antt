use Rattle.xet_merkle.proofs.Json.OneMeaning.{one_subtree}
use Rattle.xet_merkle.proofs.laws.json_says_one_subtree.Goals as goal

pub returns : goal.returns
returns c = one_subtree c.hex_text_tells_hashes_apart.ensures
