use Rattle.std.proofs.Common.{rules}
use Rattle.chunk_ranges.proofs.open_range.hashes_of_open.Goals as goal

pub returns-clause-file : goal.returns-clause-file
returns-clause-file g c = search rules

pub returns-clause-salted : goal.returns-clause-salted
returns-clause-salted g c = search rules
