use Rattle.xet_hash.proofs.Hash.Base64.{base64_text-injective, length-base64_text}
use Rattle.xet_hash.proofs.laws.hash_reads_back_from_base64_text.Goals as goal

pub returns-clause-characters : goal.returns-clause-characters
returns-clause-characters c = length-base64_text

pub returns-clause-back : goal.returns-clause-back
returns-clause-back c = λ words answer h ha e. base64_text-injective answer words ha h e
