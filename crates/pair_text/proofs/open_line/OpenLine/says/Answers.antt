use Rattle.std.proofs.Common.{ℕ, List, Option, None, Some, sym, subst, ◌∙◌, inl, inr}
use Rattle.std.specs.Prelude.{IfNone}
use Rattle.pair_text.specs.Lines.{IsSeparator, IsPositionLine, IsPairLine}
use Rattle.pair_text.proofs.LongLines.{NoPlus-no_chunk}
use Rattle.pair_text.proofs.open_line.OpenLine.says.Goals as goal

-- two facts of no answer
IfNone-both : {A P Q R : Type 0} (o : Option A) → IfNone o P → IfNone o Q → (P → Q → R) → IfNone o R
IfNone-both None p q h = h p q
IfNone-both (Some x) p q h = tt

pub returns-in-Text-clause-nothing : goal.returns-in-Text-clause-nothing
returns-in-Text-clause-nothing c =
    IfNone-both c.parse.result
    (IfNone-both c.parse.result c.parse.ensures.no_separator c.parse.ensures.no_position (λ no_separator no_position. (no_separator, no_position)))
    c.parse.ensures.no_pair
    (λ (no_separator, no_position) no_pair line held.
    let text = rw c.in-Text.is at held in
    let is = sym (c.as_slice.ensures.value ∙ text.0) in (
      λ separator. no_separator (subst IsSeparator is separator),
      λ position named. no_position position (subst (λ (l : List ℕ). IsPositionLine l position) is named),
      λ node says. elim says [
        | inl pair ↦ no_pair node (subst (λ (l : List ℕ). IsPairLine l node) is pair)
        | inr chunk ↦ NoPlus-no_chunk line node text.1 chunk
      ],
    ))
