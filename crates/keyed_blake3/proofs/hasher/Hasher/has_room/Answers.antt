use Rattle.std.proofs.Common.{rules}
use Rattle.keyed_blake3.proofs.hasher.Hasher.has_room.Goals as goal

pub returns-clause-room : goal.returns-clause-room
unfolding Rattle.keyed_blake3.specs.Blake3Hasher.Holds Rattle.keyed_blake3.specs.Blake3Hasher.count_of
returns-clause-room g = search rules

pub returns-clause-message : goal.returns-clause-message
unfolding Rattle.keyed_blake3.specs.Blake3Hasher.Holds Rattle.keyed_blake3.specs.Blake3Hasher.count_of
returns-clause-message g c = search rules
