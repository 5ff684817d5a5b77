use Rattle.std.proofs.Common.{◌++◌, ℕ, List, take}
use Rattle.std.proofs.KnownBytes.{Consumes-trans}
use Rattle.std.proofs.lemmas.Result.{err_from_is_err_and}
use Rattle.line_io.specs.Faults.{HasFault, IfLine}
use Rattle.line_io.proofs.Inputs.{IfSome-consumed}
use Rattle.line_io.proofs.reading.read_lines.Goals as goal

pub pieces-preserved : goal.pieces-preserved
pieces-preserved g c =
    let inv = c.pieces.invariant in
    let piece = take c.in-Ok.n c.read.new.buffer in (
      inv.0 ++ piece,
      c.in_ok-take.ensures.taken inv.0 inv.1,
      Consumes-trans _ _ _ inv.0 piece inv.2 c.in-Ok.ensures.bytes,
    )

pub returns-in_err-take-clause-fault : goal.returns-in_err-take-clause-fault
returns-in_err-take-clause-fault g c =
    let p = err_from_is_err_and c.from_residual.result c.from_residual.ensures.1 in
    let inv = c.pieces.invariant in
    let piece = take c.in-Ok.n c.read.new.buffer in
    let fault = c.in_err-take.field-0.0 in
    rw (p.1, p.2) (IfSome-consumed _ _ (inv.0 ++ piece) (λ (text : List ℕ). IfLine fault (HasFault g.L.TakeLines.is_fault text))
    (Consumes-trans _ _ _ inv.0 piece inv.2 c.in-Ok.ensures.bytes)
    (λ rest. c.in_err-take.ensures.fault inv.0 rest inv.1))
