use Rattle.std.proofs.Common.{List, ℕ, [], ◌∷◌, ◌++◌, drop, take, refl, sym, ap, ◌∙◌}
use Rattle.std.proofs.lemmas.List.{take-append-drop}
use Rattle.std.proofs.lemmas.Slice.Eq.{bytes_eq-Decides}
use Rattle.pair_text.proofs.LineMeaning.{no_pair}
use Rattle.pair_text.proofs.line.parse.Goals as goal

pub returns-in_err-parse_decimal-clause-no_pair : goal.returns-in_err-parse_decimal-clause-no_pair
returns-in_err-parse_decimal-clause-no_pair c =
    rw c.from_residual.ensures (λ node pair.
    let line = c.args.line.now in
    let begins = (bytes_eq-Decides (take 1 line) (64 ∷ [])).0 c.in-Some.ensures.cases.0 in
    let is = sym (take-append-drop 1 line) ∙ ap (λ (l : List ℕ). l ++ drop 1 line) begins in
    no_pair line (drop 1 line) 64 node is refl pair)
