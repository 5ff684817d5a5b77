use Rattle.std.proofs.Common.{ℕ, ◌^◌, ◌<◌, ◌≤◌, length, arith}
use Rattle.std.specs.Fmt.{decimal}
use Rattle.std.proofs.lemmas.Fmt.{length-decimal-le}
use Rattle.xet_roots.proofs.groups.write_line.Goals as goal

-- a size has at most 20 digits
length-size : (size : ℕ) → size < 2 ^ 64 → length (decimal size) ≤ 20
length-size size fits = length-decimal-le 20 size (omega arith) (omega arith) fits

pub write_bytes-requires : goal.write_bytes-requires
write_bytes-requires c = omega (arith, length-size)

pub returns-clause-end : goal.returns-clause-end
returns-clause-end c = omega (arith, length-size)
