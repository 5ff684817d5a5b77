-- The first line of an input, and the data after it, from the part that was read.
use Rattle.std.proofs.Common.{◌≡◌, ◌≢◌, ◌+◌, ◌<◌, ℕ, List, [], ◌∷◌, ◌++◌, length, refl, sym, ap, ◌∙◌, arith, append-nil, append_assoc, length-append, subst, Option, Some, None, IfSome}
use Rattle.std.specs.Io.KnownBytes.{Consumes, IsAtEnd}
use Rattle.line_io.specs.Lines.{newline, NoNewline, byte_limit}
use Rattle.line_io.specs.LineAndData.{first_line, after_line, HasRead}
use Rattle.line_io.specs.Faults.{IfLine}
use Rattle.line_io.specs.declared.fault.InputFault.{InputFault}
use Rattle.line_io.specs.declared.fault.InputFault.TheVariants.{Line, Memory, Read}
use Rattle.line_io.specs.declared.line_and_data.LongLine.{LongLine}
use Rattle.line_io.proofs.Inputs.{IfSome-consumed}
use Rattle.line_io.proofs.Lines.{not_newline, NoNewline-append}

first_line-byte : (byte : ℕ) (text : List ℕ) → byte ≢ newline → first_line (byte ∷ text) ≡ byte ∷ first_line text
first_line-byte byte text h = rw (not_newline byte h) refl

after_line-byte : (byte : ℕ) (text : List ℕ) → byte ≢ newline → after_line (byte ∷ text) ≡ after_line text
after_line-byte byte text h = rw (not_newline byte h) refl

-- an open line, and whatever follows
first_line-open : (line rest : List ℕ) → NoNewline line → first_line (line ++ rest) ≡ line ++ first_line rest
first_line-open [] rest h = refl
first_line-open (byte ∷ line) rest h = first_line-byte byte (line ++ rest) h.0 ∙ ap (λ (l : List ℕ). byte ∷ l) (first_line-open line rest h.1)

after_line-open : (line rest : List ℕ) → NoNewline line → after_line (line ++ rest) ≡ after_line rest
after_line-open [] rest h = refl
after_line-open (byte ∷ line) rest h = after_line-byte byte (line ++ rest) h.0 ∙ after_line-open line rest h.1

-- the line is whole
pub HasRead-whole : (old new : Option (List ℕ)) (line bytes : List ℕ) → NoNewline line → Consumes old new (line ++ newline ∷ bytes) → HasRead line bytes old new
HasRead-whole None new line bytes plain consumed = tt
HasRead-whole (Some text) None line bytes plain consumed = absurd consumed
HasRead-whole (Some text) (Some rest) line bytes plain consumed =
    let parts : text ≡ line ++ newline ∷ (bytes ++ rest) = consumed ∙ append_assoc line (newline ∷ bytes) rest in (
      rest,
      refl,
      ap first_line parts ∙ first_line-open line (newline ∷ (bytes ++ rest)) plain ∙ append-nil line,
      ap after_line parts ∙ after_line-open line (newline ∷ (bytes ++ rest)) plain,
    )

-- the input ended without a newline
pub HasRead-ended : (old new : Option (List ℕ)) (line : List ℕ) → NoNewline line → Consumes old new line → IsAtEnd new → HasRead line [] old new
HasRead-ended None new line plain consumed ended = tt
HasRead-ended (Some text) None line plain consumed ended = absurd consumed
HasRead-ended (Some text) (Some rest) line plain consumed ended = (
  rest,
  refl,
  ap first_line consumed ∙ first_line-open line rest plain ∙ ap (λ (l : List ℕ). line ++ first_line l) ended ∙ append-nil line,
  ap after_line consumed ∙ after_line-open line rest plain ∙ ap after_line ended ∙ sym ended,
)

-- more data was read
pub HasRead-more : (input mid left : Option (List ℕ)) (line bytes more : List ℕ) → HasRead line bytes input mid → Consumes mid left more
    → HasRead line (bytes ++ more) input left
HasRead-more None mid left line bytes more held consumed = tt
HasRead-more (Some text) None left line bytes more (rest, is, first, after) consumed = let clash : ⊥ = cc is in absurd clash
HasRead-more (Some text) (Some known) None line bytes more held consumed = absurd consumed
HasRead-more (Some text) (Some known) (Some rest) line bytes more (before, is, first, after) consumed =
    let same : known ≡ before = cc is in (
      rest,
      refl,
      first,
      after ∙ ap (λ (l : List ℕ). bytes ++ l) (sym same ∙ consumed) ∙ sym (append_assoc bytes more rest),
    )

-- all data was read
pub HasRead-all : (input left : Option (List ℕ)) (line bytes : List ℕ) → HasRead line bytes input left → IsAtEnd left
    → IfSome input (λ text. (first_line text ≡ line) × (after_line text ≡ bytes))
HasRead-all None left line bytes held ended = tt
HasRead-all (Some text) None line bytes (rest, is, first, after) ended = let clash : ⊥ = cc is in absurd clash
HasRead-all (Some text) (Some known) line bytes (rest, is, first, after) ended =
    let same : known ≡ rest = cc is in
    (first, after ∙ ap (λ (l : List ℕ). bytes ++ l) (sym same ∙ ended) ∙ append-nil bytes)

-- the first line is longer than the bytes of it that were read
pub long_line : (old new : Option (List ℕ)) (line begun after : List ℕ) → NoNewline line → NoNewline begun → Consumes old new (line ++ (begun ++ after))
    → byte_limit < length line + length begun → IfSome old (λ text. byte_limit < length (first_line text))
long_line old new line begun after plain begun_plain consumed past =
    IfSome-consumed old new (line ++ (begun ++ after)) (λ (text : List ℕ). byte_limit < length (first_line text)) consumed (λ rest.
    let whole : (line ++ (begun ++ after)) ++ rest ≡ (line ++ begun) ++ (after ++ rest) = simp append_assoc in
    let first = ap length (ap first_line whole ∙ first_line-open (line ++ begun) (after ++ rest) (NoNewline-append line begun plain begun_plain)) in
    omega (arith, past, first, length-append (line ++ begun) (first_line (after ++ rest)), length-append line begun))

-- so its line is the fault
pub long_fault : (old new : Option (List ℕ)) (line piece begun after : List ℕ) (fault : InputFault LongLine) → NoNewline line → NoNewline begun
    → piece ≡ begun ++ after → Consumes old new (line ++ piece) → IfLine fault (λ number _. (number ≡ 1) × (byte_limit < length line + length begun))
    → IfSome old (λ text. IfLine fault (λ number _. (number ≡ 1) × (byte_limit < length (first_line text))))
long_fault None new line piece begun after fault plain begun_plain is consumed faulty = tt
long_fault (Some text) new line piece begun after (Line number long) plain begun_plain is consumed (one, past) = (
  one,
  long_line (Some text) new line begun after plain begun_plain (subst (λ (l : List ℕ). Consumes (Some text) new (line ++ l)) is consumed) past,
)
long_fault (Some text) new line piece begun after Memory plain begun_plain is consumed faulty = tt
long_fault (Some text) new line piece begun after Read plain begun_plain is consumed faulty = tt
