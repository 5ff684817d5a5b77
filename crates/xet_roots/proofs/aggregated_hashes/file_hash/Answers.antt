use Rattle.std.proofs.Common.{rules}
use Rattle.xet_roots.proofs.aggregated_hashes.file_hash.Goals as goal

pub returns-clause-file : goal.returns-clause-file
returns-clause-file g c = search rules
