use Rattle.std.proofs.Common.{◌↔◌, drop}
use Rattle.yurewha_c.specs.Pieces.{Rise}
use Rattle.yurewha_c.proofs.data_hashes.rise.Given as goal

abbrev pub invariant-offsets : goal.invariant-offsets
invariant-offsets l = Rise 0 l.offsets l.end ↔ Rise l.from (drop l.offset-index l.offsets) l.end
