use Rattle.range_proof.proofs.JsonOf.{one_proof}
use Rattle.range_proof.proofs.laws.json_says_one_range_proof.Goals as goal

pub returns : goal.returns
returns c = one_proof c.hex_text_tells_hashes_apart.ensures
