use Rattle.std.proofs.Common.{◌≡◌, sym, ◌∙◌, ap, subst, not, true≢false}
use Rattle.std.proofs.lemmas.Slice.Eq.{bytes_eq-Decides}
use Rattle.std.specs.Prelude.{IsUtf8, decimal}
use Rattle.std.proofs.lemmas.Str.{IsUtf8-from_ascii}
use Rattle.std.proofs.lemmas.Fmt.{IsAscii-decimal, parse-decimal}
use Rattle.pair_text.proofs.line.parse_decimal.Goals as goal

pub returns-in_default-clause-none : goal.returns-in_default-clause-none
returns-in_default-clause-none c = λ size fits e.
    c.in_default.ensures.cases.0 (subst IsUtf8 (sym e) (IsUtf8-from_ascii (decimal size) (IsAscii-decimal size fits)))

pub returns-in_default-parse-clause-none : goal.returns-in_default-parse-clause-none
returns-in_default-parse-clause-none c = λ size fits e.
    let text = c.in-Ok.ensures.cases.0 in
    let parsed = parse-decimal 64 size c.in-Ok.text.now _ fits fits (text ∙ e) c.parse.ensures.value.0 in
    c.in_default-parse.not-Ok size parsed

pub returns-then-ne-clause-none : goal.returns-then-ne-clause-none
returns-then-ne-clause-none c = λ size fits e.
    let text = c.in-Ok.ensures.cases.0 in
    let parsed = parse-decimal 64 size c.in-Ok.text.now _ fits fits (text ∙ e) c.parse.ensures.value.0 in
    let same : c.in-Ok-parse.number ≡ size = cc in
    let written : c.as_bytes.result.now ≡ c.args.digits.now =
    c.as_bytes.ensures.value ∙ c.format.ensures.text ∙ ap decimal same ∙ sym e in
    let equal = (bytes_eq-Decides c.as_bytes.result.now c.args.digits.now).1 written in
    true≢false (c.if-ne.ensures ∙ ap not equal)
