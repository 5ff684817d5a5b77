use Rattle.std.proofs.Common.{refl, append-nil, ◌≡◌, ◌+◌, ◌≤◌, ◌∷◌, [], ◌++◌, ℕ, List, length, sym, ap, subst, ◌∙◌, arith, append_assoc, length-append}
use Rattle.std.proofs.lemmas.Result.{err_from_is_err_and, on_ok_weaker, IfErr-weaker}
use Rattle.line_io.specs.Lines.{byte_limit, newline}
use Rattle.line_io.specs.Faults.{HasFault, IfLine}
use Rattle.line_io.specs.Steps.Taken.{IsTaken}
use Rattle.line_io.proofs.Pieces.{regrouped, piece_more}
use Rattle.line_io.proofs.reading.Reading.take_within.Goals as goal

pub returns-in_err-extend_line-clause-fault : goal.returns-in_err-extend_line-clause-fault
returns-in_err-extend_line-clause-fault g c =
    let p = err_from_is_err_and c.from_residual.result c.from_residual.ensures.1 in
    rw (p.1, p.2) (λ text rest within taken.
    let inv = c.lines.invariant in
    let begun = c.in-Some.begun.now in
    let after = c.in-Some.after.now in
    let len_piece = ap length inv.1 in
    let len_rest = ap length c.in-Some.ensures.found.0 in
    let len = length-append inv.0 c.lines.rest.now in
    let len_text = length-append text inv.0 in
    let len_begun = length-append begun (newline ∷ after) in
    let room : length (text ++ inv.0) + length begun ≤ byte_limit = omega arith in
    subst (λ (l : List ℕ). IfLine c.in_err-extend_line.field-0.0 (HasFault g.L.TakeLines.is_fault l))
    (regrouped text c.args.piece.now rest inv.0 c.lines.rest.now begun after newline inv.1 c.in-Some.ensures.found.0)
    (c.in_err-extend_line.ensures.fault (text ++ inv.0) (newline ∷ (after ++ rest)) room (inv.2 text within taken)))

pub returns-in_err-end_line-clause-fault : goal.returns-in_err-end_line-clause-fault
returns-in_err-end_line-clause-fault g c =
    let p = err_from_is_err_and c.from_residual-in_err-end_line.result c.from_residual-in_err-end_line.ensures.1 in
    rw (p.1, p.2) (λ text rest within taken.
    let inv = c.lines.invariant in
    let begun = c.in-Some.begun.now in
    let len_piece = ap length inv.1 in
    let len_rest = ap length c.in-Some.ensures.found.0 in
    let len = length-append inv.0 c.lines.rest.now in
    let len_text = length-append text inv.0 in
    let len_begun = length-append begun (newline ∷ c.in-Some.after.now) in
    let extended = c.in_ok-extend_line.ensures.taken (text ++ inv.0) (omega arith) (inv.2 text within taken) in
    subst (λ (l : List ℕ). IfLine c.in_err-end_line.field-0.0 (HasFault g.L.TakeLines.is_fault l))
    (regrouped text c.args.piece.now rest inv.0 c.lines.rest.now begun c.in-Some.after.now newline inv.1 c.in-Some.ensures.found.0)
    (c.in_err-end_line.ensures.fault ((text ++ inv.0) ++ begun) (c.in-Some.after.now ++ rest) (omega (arith, length-append (text ++ inv.0) begun)) extended))

pub lines-preserved : goal.lines-preserved
lines-preserved g c =
    let inv = c.lines.invariant in
    let begun = c.in-Some.begun.now in
    let after = c.in-Some.after.now in
    let len_piece = ap length inv.1 in
    let len_rest = ap length c.in-Some.ensures.found.0 in
    let len = length-append inv.0 c.lines.rest.now in
    let len_begun = length-append begun (newline ∷ after) in (
      inv.0 ++ (begun ++ newline ∷ []),
      piece_more c.args.piece.now inv.0 c.lines.rest.now begun after newline inv.1 c.in-Some.ensures.found.0,
      λ text within taken.
          let len_text = length-append text inv.0 in
          let extended = c.in_ok-extend_line.ensures.taken (text ++ inv.0) (omega arith) (inv.2 text within taken) in
          let ended = c.in_ok-end_line.ensures.taken ((text ++ inv.0) ++ begun) (omega (arith, length-append (text ++ inv.0) begun)) extended in
          let same : ((text ++ inv.0) ++ begun) ++ newline ∷ [] ≡ text ++ (inv.0 ++ (begun ++ newline ∷ [])) = simp append_assoc in
          subst (IsTaken g.L.TakeLines.has_taken c.end_line.new.self) same ended,
    )

pub returns-clause-taken : goal.returns-clause-taken
returns-clause-taken g c =
    let inv = c.lines.invariant in
    let rest = c.lines.rest.now in
    on_ok_weaker c.extend_line-2.result (λ extend text within taken.
    let len_piece = ap length inv.1 in
    let len = length-append inv.0 rest in
    let extended = extend (text ++ inv.0) (omega (arith, length-append text inv.0)) (inv.2 text within taken) in
    let same : (text ++ inv.0) ++ rest ≡ text ++ c.args.piece.now = append_assoc text inv.0 rest ∙ ap (λ (l : List ℕ). text ++ l) (sym inv.1) in
    subst (IsTaken g.L.TakeLines.has_taken c.extend_line-2.new.self) same extended)
    c.extend_line-2.ensures.taken

pub returns-clause-fault : goal.returns-clause-fault
returns-clause-fault g c =
    let inv = c.lines.invariant in
    let left = c.lines.rest.now in
    IfErr-weaker c.extend_line-2.result _ _ (λ fault faulty text rest within taken.
    let same : ((text ++ inv.0) ++ left) ++ rest ≡ text ++ c.args.piece.now ++ rest =
    ap (λ (l : List ℕ). l ++ rest) (append_assoc text inv.0 left ∙ ap (λ (l : List ℕ). text ++ l) (sym inv.1)) in
    subst (λ (l : List ℕ). IfLine fault (HasFault g.L.TakeLines.is_fault l)) same (faulty (text ++ inv.0) rest (omega (arith, length-append text inv.0, length-append inv.0 left, ap length inv.1)) (inv.2 text within taken)))
    c.extend_line-2.ensures.fault

pub lines-init : goal.lines-init
lines-init g c = ([], refl, λ text within taken. subst (IsTaken g.L.TakeLines.has_taken c.args.self.now) (sym (append-nil text)) taken)
