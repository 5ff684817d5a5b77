-- A line that is too long says nothing.
use Rattle.std.proofs.Common.{ℕ, ◌≡◌, ◌<◌, List, [], ◌∷◌, ◌++◌, length, ap, inl, inr, arith, length-append, codes, decimal}
use Rattle.std.proofs.lemmas.Fmt.{length-decimal-le}
use Rattle.xet_roots.specs.Groups.{Node}
use Rattle.line_io.specs.Lines.{NoNewline, content}
use Rattle.line_io.proofs.Lines.{not_newline, length-content}
use Rattle.pair_text.specs.Lines.{IsChunkLine}
use Rattle.pair_text.specs.LineSays.{SaysNothing}
use Rattle.pair_text.specs.Steps.Open.{NoPlus}

NoPlus-content : (line more : List ℕ) → NoNewline line → 0 < length line → NoPlus line → NoPlus (content (line ++ more))
NoPlus-content [] more h some plus = absurd (omega arith)
NoPlus-content (b ∷ []) [] h some plus = rw (not_newline b h.0) plus
NoPlus-content (b ∷ []) (c ∷ more) h some plus = plus
NoPlus-content (b ∷ c ∷ line) more h some plus = plus

-- a line that doesn't begin with a plus sign says no chunk
pub NoPlus-no_chunk : (line : List ℕ) (node : Node) → NoPlus line → ¬ (IsChunkLine line node)
NoPlus-no_chunk [] node plus chunk = let clash : ⊥ = cc (chunk.1) in clash
NoPlus-no_chunk (byte ∷ bytes) node plus chunk = let is : byte ≡ 43 = cc (chunk.1) in plus is

-- a line of more than 85 bytes that doesn't begin with a plus sign says nothing
pub SaysNothing-long : (line more : List ℕ) → NoNewline line → NoPlus line → 85 < length line → SaysNothing (line ++ more)
SaysNothing-long line more h plus long =
    let len = length-content line more h in (
      λ separator. let two = ap length separator in omega arith,
      λ position named.
          let whole = ap length named.0 in
          let low = named.1 in
          let decimals = length-decimal-le 20 position (omega arith) (omega arith) named.1 in
          omega (arith, length-append (codes "@") (decimal position)),
      λ node says. elim says [
        | inl pair ↦
            let parts = ap length pair.parts in
            let digits = pair.are_digits.0 in
            let size = pair.is_size in
            let decimals = length-decimal-le 20 node.1 (omega arith) (omega arith) pair.is_size in
            omega (arith, length-append (pair.digits ++ codes " ") (decimal node.1), length-append pair.digits (codes " "))
        | inr chunk ↦ NoPlus-no_chunk (content (line ++ more)) node (NoPlus-content line more h (omega arith) plus) chunk
      ],
    )
