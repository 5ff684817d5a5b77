use Rattle.range_proof.proofs.Soundness.Shown.{sound_for_file}
use Rattle.range_proof.proofs.laws.range_proofs_of_file_hashes_are_sound.Goals as goal

pub returns : goal.returns
returns c = sound_for_file
