use Rattle.xet_hash.proofs.Hash.Laws.{hex_text-injective}
use Rattle.xet_hash.proofs.laws.hex_text_tells_hashes_apart.Goals as goal

pub returns : goal.returns
returns c = hex_text-injective
