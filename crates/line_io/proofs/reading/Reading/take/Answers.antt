use Rattle.std.proofs.Common.{◌≡◌, ◌+◌, ◌++◌, ℕ, List, take, drop, sym, ap, subst, ◌∙◌, arith, append_assoc, length-append, length-take, get_or}
use Rattle.std.proofs.lemmas.List.{take-append-drop}
use Rattle.std.proofs.lemmas.Result.{err_from_is_err_and}
use Rattle.line_io.specs.Faults.{HasFault, IfLine}
use Rattle.line_io.proofs.Pieces.{HasFault-limit, piece_past}
use Rattle.line_io.proofs.reading.Reading.take.Goals as goal

pub returns-in_err-take_within-clause-fault : goal.returns-in_err-take_within-clause-fault
returns-in_err-take_within-clause-fault g c =
    let p = err_from_is_err_and c.from_residual.result c.from_residual.ensures.1 in
    rw (p.1, p.2) (λ text rest taken.
    let piece = c.args.piece.now in
    let room = c.saturating_sub-room.result in
    let is = taken.count_is in
    let within = taken.within in
    let same : (text ++ take room piece) ++ (drop room piece ++ rest) ≡ text ++ piece ++ rest =
    append_assoc text (take room piece) (drop room piece ++ rest)
    ∙ ap (λ (l : List ℕ). text ++ l) (sym (append_assoc (take room piece) (drop room piece) rest) ∙ ap (λ (l : List ℕ). l ++ rest) (take-append-drop room piece))
    ∙ sym (append_assoc text piece rest) in
    subst (λ (l : List ℕ). IfLine c.in_err-take_within.field-0.0 (HasFault g.L.TakeLines.is_fault l)) same
    (c.in_err-take_within.ensures.fault text (drop room piece ++ rest) (omega (arith, length-take room piece)) taken))

pub returns-clause-fault : goal.returns-clause-fault
returns-clause-fault g c = λ text rest taken.
    let piece = c.args.piece.now in
    let room = c.saturating_sub-room.result in
    let is = taken.count_is in
    let within = taken.within in
    let past = c.if-piece-room.false in
    let len = length-take room piece in
    let all = c.in_ok-take_within.ensures.taken text (omega arith) taken in
    subst (λ (l : List ℕ). HasFault g.L.TakeLines.is_fault l c.take_within-2.new.self.number c.past_limit.result) (piece_past text piece rest room past)
    (HasFault-limit (text ++ take room piece) all.before _ all.line all.stands_at g.L.TakeLines.is_fault _ (get_or piece room 0) (drop (room + 1) piece ++ rest)
    (omega (arith, length-append text (take room piece)))
    (λ more far. c.past_limit.ensures all.before all.line more far all.taken))
