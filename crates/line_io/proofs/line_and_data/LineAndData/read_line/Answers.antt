use Rattle.std.proofs.Common.{◌≡◌, ◌++◌, ℕ, List, [], ◌∷◌, take, sym, ap, subst, ◌∙◌, arith, append-nil, append_assoc}
use Rattle.std.specs.Io.KnownBytes.{Consumes}
use Rattle.std.proofs.KnownBytes.{Consumes-trans}
use Rattle.std.proofs.lemmas.Bool.Decides.{nat_tests}
use Rattle.std.proofs.lemmas.Result.{err_from_is_err_and}
use Rattle.line_io.specs.Lines.{newline}
use Rattle.line_io.proofs.Lines.{NoNewline-append}
use Rattle.line_io.proofs.LineAndData.{HasRead-whole, HasRead-ended, long_fault}
use Rattle.line_io.proofs.line_and_data.LineAndData.read_line.Goals as goal

pub returns-then-n-eq0-clause-read : goal.returns-then-n-eq0-clause-read
returns-then-n-eq0-clause-read g c =
    let inv = c.pieces.invariant in
    let line = c.pieces.line.items in
    let none : c.in-Ok.n ≡ 0 = grind (arith, nat_tests, c.if-n-eq0.true) in
    let consumed = Consumes-trans _ _ _ line (take c.in-Ok.n c.read.new.buffer) inv.3 c.in-Ok.ensures.bytes in
    let whole : Consumes (g.R.Read.remaining c.args.r.now) (g.R.Read.remaining c.read.new.r) line =
    subst (λ (l : List ℕ). Consumes (g.R.Read.remaining c.args.r.now) (g.R.Read.remaining c.read.new.r) l) (ap (λ (n : ℕ). line ++ take n c.read.new.buffer) none ∙ append-nil line) consumed in
    rw inv.2 (HasRead-ended _ _ line inv.0 whole (c.in-Ok.ensures.end none (omega arith)))

pub returns-in_err-extend_line-clause-fault : goal.returns-in_err-extend_line-clause-fault
returns-in_err-extend_line-clause-fault g c =
    let p = err_from_is_err_and c.from_residual-in_err-extend_line.result c.from_residual-in_err-extend_line.ensures.1 in
    let inv = c.pieces.invariant in
    let piece = take c.in-Ok.n c.read.new.buffer in
    rw (p.1, p.2) (long_fault _ _ c.pieces.line.items piece piece [] c.in_err-extend_line.field-0.0 inv.0 c.in_default-split_line.ensures.none
    (sym (append-nil piece)) (Consumes-trans _ _ _ c.pieces.line.items piece inv.3 c.in-Ok.ensures.bytes) c.in_err-extend_line.ensures.fault)

pub pieces-preserved : goal.pieces-preserved
pieces-preserved g c =
    let inv = c.pieces.invariant in
    let piece = take c.in-Ok.n c.read.new.buffer in
    let extended = c.in_ok-extend_line.ensures.extended in (
      rw extended (NoNewline-append c.pieces.line.items piece inv.0 c.in_default-split_line.ensures.none),
      c.in_ok-extend_line.ensures.within,
      inv.2,
      rw extended (Consumes-trans _ _ _ c.pieces.line.items piece inv.3 c.in-Ok.ensures.bytes),
    )

pub returns-in_err-extend_line-2-clause-fault : goal.returns-in_err-extend_line-2-clause-fault
returns-in_err-extend_line-2-clause-fault g c =
    let p = err_from_is_err_and c.from_residual-in_err-extend_line-2.result c.from_residual-in_err-extend_line-2.ensures.1 in
    let inv = c.pieces.invariant in
    let piece = take c.in-Ok.n c.read.new.buffer in
    rw (p.1, p.2) (long_fault _ _ c.pieces.line.items piece c.in-Some.begun.now (newline ∷ c.in-Some.after.now) c.in_err-extend_line-2.field-0.0
    inv.0 c.in-Some.ensures.found.1 c.in-Some.ensures.found.0
    (Consumes-trans _ _ _ c.pieces.line.items piece inv.3 c.in-Ok.ensures.bytes) c.in_err-extend_line-2.ensures.fault)

pub returns-in-pieces-clause-read : goal.returns-in-pieces-clause-read
returns-in-pieces-clause-read g c =
    let inv = c.pieces.invariant in
    let line = c.pieces.line.items in
    let begun = c.in-Some.begun.now in
    let after = c.in-Some.after.now in
    let piece = take c.in-Ok.n c.read.new.buffer in
    let parts : line ++ piece ≡ (line ++ begun) ++ newline ∷ after =
    ap (λ (l : List ℕ). line ++ l) c.in-Some.ensures.found.0 ∙ sym (append_assoc line begun (newline ∷ after)) in
    let consumed : Consumes (g.R.Read.remaining c.args.r.now) (g.R.Read.remaining c.read.new.r) ((line ++ begun) ++ newline ∷ after) =
    subst (λ (l : List ℕ). Consumes (g.R.Read.remaining c.args.r.now) (g.R.Read.remaining c.read.new.r) l) parts
    (Consumes-trans _ _ _ line piece inv.3 c.in-Ok.ensures.bytes) in
    let read = HasRead-whole _ _ (line ++ begun) after (NoNewline-append line begun inv.0 c.in-Some.ensures.found.1) consumed in
    rw (c.in_ok-extend_line-2.ensures.extended, c.in_ok-extend_from_slice.ensures.items, inv.2) read
