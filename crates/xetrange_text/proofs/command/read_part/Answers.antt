use Rattle.std.proofs.Common.{◌≡◌, [], ◌∷◌, decimal, sym, ◌∙◌}
use Rattle.line_io.specs.Requests.{words_left}
use Rattle.xetrange_text.proofs.command.read_part.Goals as goal

pub returns-in_err-to-clause-none : goal.returns-in_err-to-clause-none
returns-in_err-to-clause-none c = rw c.from_residual-in_err-to.ensures (λ digits file_hash from to hex low_from low_to is.
    let after_hash : words_left c.next_hash.new.rest ≡ decimal from ∷ decimal to ∷ [] = cc (sym c.in_ok-file_hash.ensures.some.1 ∙ is) in
    let after_from : words_left c.next_number.new.rest ≡ decimal to ∷ [] = cc (sym c.in_ok-from.ensures.some ∙ after_hash) in
    c.in_err-to.ensures.none to [] low_to after_from)
