use Rattle.std.proofs.Common.{◌≡◌, ℕ, List, [], ◌∷◌, ◌++◌, decimal, take, drop, sym, ap, subst, ◌∙◌, arith, refl}
use Rattle.std.proofs.lemmas.Bool.{false≢true}
use Rattle.std.proofs.lemmas.List.{take-append-drop}
use Rattle.std.proofs.lemmas.Slice.Eq.{bytes_eq-Decides}
use Rattle.std.specs.Str.{str_to_ascii_lowercase}
use Rattle.xet_hash.specs.Hash.{IsHexText}
use Rattle.pair_text.proofs.PairLines.{IsPairLine-digits, IsPairLine-rest, IsPairLine-made}
use Rattle.pair_text.proofs.line.parse_pair.Goals as goal

pub returns-in_default-clause-none : goal.returns-in_default-clause-none
returns-in_default-clause-none c = λ node says.
    let digits = c.in_ok-digits.ensures.cases.1 in
    let refused = c.in_default.ensures.accepted in
    let is_digits = IsPairLine-digits c.args.line.now node says in
    false≢true (refused.1 (subst IsHexText (sym digits) is_digits))

pub returns-in_err-strip_prefix-clause-none : goal.returns-in_err-strip_prefix-clause-none
returns-in_err-strip_prefix-clause-none c = rw c.from_residual-in_err-strip_prefix.ensures (λ node says.
    let rest = c.in_ok-digits.ensures.cases.2 ∙ IsPairLine-rest c.args.line.now node says in
    let space : take 1 c.in_ok-digits.rest.now ≡ 32 ∷ [] = ap (take 1) rest in
    false≢true (sym c.in_err-strip_prefix.ensures.cases ∙ (bytes_eq-Decides (take 1 c.in_ok-digits.rest.now) (32 ∷ [])).1 space))

pub returns-in_err-size-clause-none : goal.returns-in_err-size-clause-none
returns-in_err-size-clause-none c = rw c.from_residual-in_err-size.ensures (λ node says.
    let rest = c.in_ok-digits.ensures.cases.2 ∙ IsPairLine-rest c.args.line.now node says in
    c.in_err-size.ensures.none node.1 says.is_size (c.in_ok-strip_prefix.ensures.cases.1 ∙ ap (drop 1) rest))

pub returns-clause-pair : goal.returns-clause-pair
returns-clause-pair c =
    let line = c.args.line.now in
    let rest = c.in_ok-digits.rest.now in
    let digits = c.in_ok-digits.ensures.cases.1 in
    let read = c.in-Ok.ensures in
    let stripped = c.in_ok-strip_prefix.ensures.cases in
    let space = (bytes_eq-Decides (take 1 rest) (32 ∷ [])).0 stripped.0 in
    let parts : rest ≡ 32 ∷ decimal c.in_ok-size.size =
    sym (take-append-drop 1 rest) ∙ ap (λ (l : List ℕ). l ++ drop 1 rest) space
    ∙ ap (λ (l : List ℕ). 32 ∷ l) (sym stripped.1 ∙ c.in_ok-size.ensures.number) in
    IsPairLine-made line c.in-Ok.hash c.in_ok-size.size (subst IsHexText digits (read.accepted.0 refl))
    (read.value ∙ ap str_to_ascii_lowercase digits) read.is_hash (sym c.in_ok-digits.ensures.cases.2 ∙ parts) (omega arith)
