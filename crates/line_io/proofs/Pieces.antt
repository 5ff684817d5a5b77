-- How far a reading has come after each piece of the input, and what its faults mean for the whole input.
use Rattle.std.proofs.Common.{◌≡◌, ℕ, ◌+◌, ◌<◌, ◌≤◌, List, [], ◌∷◌, ◌++◌, length, refl, sym, ap, subst, ◌∙◌, arith, append_assoc, append-nil, length-append}
use Rattle.std.proofs.Common.{get_or, take, drop}
use Rattle.std.proofs.lemmas.List.{take-append-drop, drop_more}
use Rattle.std.specs.List.{concat}
use Rattle.line_io.specs.Lines.{newline, NoNewline, lines_of, byte_limit}
use Rattle.line_io.specs.Faults.{HasFault, IfFaulty, IfLine}
use Rattle.line_io.specs.declared.fault.Refusal.{Refusal}
use Rattle.line_io.specs.declared.fault.Refusal.TheVariants.{Faulty, Memory}
use Rattle.line_io.specs.declared.fault.InputFault.{InputFault}
use Rattle.line_io.specs.Steps.Taken.{StandsAt, fault_at}
use Rattle.line_io.proofs.Lines.{concat-push, lines_of-whole, lines_of-last, FirstLine-next, FirstLine-open, NoNewline-append}

-- ---- where a reading stands

pub StandsAt-start : StandsAt [] [] 1 []
StandsAt-start = record { lines = λ rest. refl; bytes = refl; few = omega arith; number_is = refl; is_open = tt }

module _ (text : List ℕ) (before : List (List ℕ)) (number : ℕ) (line : List ℕ) (h : StandsAt text before number line) where
  pub StandsAt-extend : (bytes : List ℕ) → NoNewline bytes → StandsAt (text ++ bytes) before number (line ++ bytes)
  StandsAt-extend bytes open_bytes = record {
    lines = λ rest. ap lines_of (append_assoc text bytes rest) ∙ h.lines (bytes ++ rest)
        ∙ ap (λ (l : List ℕ). before ++ lines_of l) (sym (append_assoc line bytes rest));
    bytes = omega (arith, h.bytes, length-append text bytes, length-append line bytes);
    few = omega (arith, h.few, length-append text bytes);
    number_is = h.number_is;
    is_open = NoNewline-append line bytes h.is_open open_bytes;
  }

  -- the lines of a text that ends a line
  lines_of-ended : (rest : List ℕ) → lines_of (text ++ newline ∷ rest) ≡ before ++ (line ++ newline ∷ []) ∷ lines_of rest
  lines_of-ended rest = h.lines (newline ∷ rest) ∙ ap (λ (l : List (List ℕ)). before ++ l) (lines_of-whole line rest h.is_open)

  pub StandsAt-end : StandsAt (text ++ newline ∷ []) (before ++ (line ++ newline ∷ []) ∷ []) (number + 1) []
  StandsAt-end =
      let ended = line ++ newline ∷ [] in
      let bytes = length-append text (newline ∷ []) in
      let one = length-append before (ended ∷ []) in record {
        lines = λ rest. ap lines_of (append_assoc text (newline ∷ []) rest) ∙ lines_of-ended rest
            ∙ sym (append_assoc before (ended ∷ []) (lines_of rest));
        bytes = omega (arith, h.bytes, bytes, concat-push before ended, length-append line (newline ∷ []));
        few = omega (arith, h.few, bytes, one);
        number_is = omega (arith, h.number_is, one);
        is_open = tt;
      }

  -- ---- the end of the input

  lines_of-all : lines_of text ≡ before ++ lines_of line
  lines_of-all = ap lines_of (sym (append-nil text)) ∙ h.lines [] ∙ ap (λ (l : List ℕ). before ++ lines_of l) (append-nil line)

  pub lines_of-closed : length line ≡ 0 → lines_of text ≡ before
  lines_of-closed none = lines_of-all ∙ ap (λ (l : List (List ℕ)). before ++ l) (empty line none) ∙ append-nil before
    where
      empty : (line : List ℕ) → length line ≡ 0 → lines_of line ≡ []
      empty [] none = refl
      empty (byte ∷ line) none = absurd (omega (arith, none))

  pub lines_of-open : 0 < length line → lines_of text ≡ before ++ line ∷ []
  lines_of-open some = lines_of-all ∙ ap (λ (l : List (List ℕ)). before ++ l) (last line h.is_open some)
    where
      last : (line : List ℕ) → NoNewline line → 0 < length line → lines_of line ≡ line ∷ []
      last [] is some = absurd (omega (arith, some))
      last (byte ∷ line) is some = lines_of-last byte line is

  -- ---- faults

  module _ {F : Type 0} (is_fault : List (List ℕ) → List ℕ → F → Type 0) (fault : F) where
    -- of an open line, whatever follows
    pub HasFault-open : (rest : List ℕ) → 0 < length line → ((more : List ℕ) → is_fault before (line ++ more) fault) → HasFault is_fault (text ++ rest) number fault
    HasFault-open rest some faulty =
        let first = FirstLine-open line rest h.is_open some in
        (before, line ++ first.0, first.1, h.lines rest ∙ ap (λ (l : List (List ℕ)). before ++ l) first.2, h.number_is, faulty first.0)

    -- of a line that ends
    pub HasFault-ended : (rest : List ℕ) → is_fault before (line ++ newline ∷ []) fault → HasFault is_fault (text ++ newline ∷ rest) number fault
    HasFault-ended rest faulty = (before, line ++ newline ∷ [], lines_of rest, lines_of-ended rest, h.number_is, faulty)

    -- of the last line, without a newline
    pub HasFault-last : 0 < length line → is_fault before line fault → HasFault is_fault text number fault
    HasFault-last some faulty = (before, line, [], lines_of-open some, h.number_is, faulty)

    -- of the line in which the first byte past the limit stands
    pub HasFault-limit : (byte : ℕ) (rest : List ℕ) → byte_limit ≤ length text
        → ((more : List ℕ) → byte_limit < length (concat before) + length (line ++ more) → is_fault before (line ++ more) fault)
        → HasFault is_fault (text ++ byte ∷ rest) number fault
    HasFault-limit byte rest past faulty =
        let first = FirstLine-next line byte rest h.is_open in
        let more = byte ∷ first.0 in
        let whole = line ++ more in
        let same : (line ++ byte ∷ []) ++ first.0 ≡ whole = append_assoc line (byte ∷ []) first.0 in (
          before,
          whole,
          first.1,
          h.lines (byte ∷ rest) ∙ ap (λ (l : List (List ℕ)). before ++ l) (first.2 ∙ ap (λ (l : List ℕ). l ∷ first.1) same),
          h.number_is,
          faulty more (omega (arith, past, h.bytes, length-append line more)),
        )

-- ---- pieces

-- a piece that reaches past the limit
pub piece_past : (text piece rest : List ℕ) (n : ℕ) → n < length piece
    → (text ++ take n piece) ++ get_or piece n 0 ∷ (drop (n + 1) piece ++ rest) ≡ text ++ piece ++ rest
piece_past text piece rest n within =
    let byte = get_or piece n 0 in
    let more = drop (n + 1) piece in
    let parts : piece ≡ take n piece ++ byte ∷ more =
    sym (take-append-drop n piece) ∙ ap (λ (l : List ℕ). take n piece ++ l) (drop_more piece n 0 within) in
    append_assoc text (take n piece) (byte ∷ (more ++ rest))
    ∙ ap (λ (l : List ℕ). text ++ l) (sym (append_assoc (take n piece) (byte ∷ more) rest) ∙ ap (λ (l : List ℕ). l ++ rest) (sym parts))
    ∙ sym (append_assoc text piece rest)

-- a piece is what was taken of it, a line's bytes, a newline and what is left
pub regrouped : (text piece rest done left begun after : List ℕ) (byte : ℕ) → piece ≡ done ++ left → left ≡ begun ++ byte ∷ after →
    ((text ++ done) ++ begun) ++ byte ∷ (after ++ rest) ≡ text ++ piece ++ rest
regrouped text piece rest done left begun after byte whole parts =
    rw (whole, parts) (simp append_assoc)

pub piece_more : (piece done left begun after : List ℕ) (byte : ℕ) → piece ≡ done ++ left → left ≡ begun ++ byte ∷ after →
    piece ≡ (done ++ (begun ++ byte ∷ [])) ++ after
piece_more piece done left begun after byte whole parts = rw (whole, parts) (simp append_assoc)

-- ---- faults with their numbers

-- the fault of a line that is refused, whatever is after it
pub IfLine-at : {F X : Type 0} (number : ℕ) (refusal : Refusal F) (P : X → F → Type 0) (Q : ℕ → F → Type 0) (fault : InputFault F) → fault ≡ fault_at number refusal
    → ((x : X) → IfFaulty refusal (P x)) → ((of : F) → ((x : X) → P x of) → Q number of) → IfLine fault Q
IfLine-at number (Faulty of) P Q fault is faulty h = subst (λ f. IfLine f Q) (sym is) (h of faulty)
IfLine-at number Memory P Q fault is faulty h = subst (λ f. IfLine f Q) (sym is) tt
