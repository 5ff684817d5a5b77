use Rattle.std.proofs.Common.{Err, inl, inr, ap, arith}
use Rattle.xet_roots.specs.Roots.{total_size}
use Rattle.xet_roots.proofs.Results.{passed_on}
use Rattle.chunk_ranges.proofs.plain_range.PlainRangeChunkRange.root.Goals as goal

pub returns-in_err-xorb_hash-clause-errors : goal.returns-in_err-xorb_hash-clause-errors
returns-in_err-xorb_hash-clause-errors g c = passed_on _ c.from_residual-in_err-xorb_hash.result c.in_err-xorb_hash.field-0.0 c.from_residual-in_err-xorb_hash.ensures.1
    (elim c.in_err-xorb_hash.ensures.errors [
      | inl overflow ↦ absurd (
          let past = c.in_err-xorb_hash.ensures.overflow.0 (ap Err overflow) in
          let fits = c.self.invariant.1 in
          let same = ap total_size c.deref.ensures.value in
          omega arith)
      | inr memory ↦ memory
    ])
