use Rattle.range_proof.proofs.Soundness.Reading.{sound_read, sound_read_for_root}
use Rattle.range_proof.proofs.laws.bytes_that_are_read_are_those_of_the_file.Goals as goal

pub returns-clause-file_hash : goal.returns-clause-file_hash
returns-clause-file_hash c = sound_read

pub returns-clause-root : goal.returns-clause-root
returns-clause-root c = sound_read_for_root
