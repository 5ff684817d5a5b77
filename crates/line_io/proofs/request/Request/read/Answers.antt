use Rattle.std.proofs.Common.{rules}
use Rattle.line_io.proofs.request.Request.read.Goals as goal

pub returns-clause-words : goal.returns-clause-words
returns-clause-words g = search rules
