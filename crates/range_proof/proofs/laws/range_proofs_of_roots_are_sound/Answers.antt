use Rattle.range_proof.proofs.Soundness.Shown.{sound_for_root}
use Rattle.range_proof.proofs.laws.range_proofs_of_roots_are_sound.Goals as goal

pub returns : goal.returns
returns c = sound_for_root
