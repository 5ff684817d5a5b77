use Rattle.std.proofs.Common.{sym}
use Rattle.std.specs.Hash.{le_bytes}
use Rattle.passthrough_map.proofs.Hasher.Overwriting.{overwrite_low-all}
use Rattle.passthrough_map.proofs.passthrough_hasher.U64DirectHasherHasher.write_u64.Goals as goal

pub returns-clause-written : goal.returns-clause-written
unfolding le_bytes
returns-clause-written g c = sym (overwrite_low-all c.args.self.now c.args.number c.ranges.number.fits)
