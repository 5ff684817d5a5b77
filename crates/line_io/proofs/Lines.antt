-- Where the lines of a text begin and end.
use Rattle.std.proofs.Common.{◌≡◌, ◌≢◌, ◌==◌, if◌then◌else◌, ℕ, Bool, ◌+◌, ◌<◌, ◌≤◌, true, false, List, [], ◌∷◌, ◌++◌, length, refl, sym, ap, subst, ◌∙◌, inl, inr, arith, append-nil, length-append, suc, get_or, take, drop, length-take}
use Rattle.std.specs.List.{concat}
use Rattle.std.proofs.lemmas.List.{take-append-drop, drop_more, get_or-take}
use Rattle.std.proofs.lemmas.List.Folds.{concat-append}
use Rattle.std.proofs.lemmas.Bool.{cases_eq}
use Rattle.std.proofs.lemmas.Bool.Decides.{nat_tests}
use Rattle.line_io.specs.Lines.{newline, NoNewline, onto_first, lines_of, content}

-- the first line of a text whose first bytes are known
abbrev FirstLine : List ℕ → List ℕ → Type 0
FirstLine text begun = (more : List ℕ) × (after : List (List ℕ)) × (lines_of text ≡ (begun ++ more) ∷ after)

pub not_newline : (byte : ℕ) → byte ≢ newline → (byte == newline) ≡ false
not_newline byte h = grind (arith, nat_tests)

lines_of-byte : (byte : ℕ) (text : List ℕ) → byte ≢ newline → lines_of (byte ∷ text) ≡ onto_first byte (lines_of text)
lines_of-byte byte text h = rw (not_newline byte h) refl

-- a whole line
pub lines_of-whole : (line rest : List ℕ) → NoNewline line → lines_of (line ++ newline ∷ rest) ≡ (line ++ newline ∷ []) ∷ lines_of rest
lines_of-whole [] rest h = refl
lines_of-whole (byte ∷ line) rest h =
    lines_of-byte byte (line ++ newline ∷ rest) h.0 ∙ ap (onto_first byte) (lines_of-whole line rest h.1)

-- the last line, without a newline
pub lines_of-last : (byte : ℕ) (line : List ℕ) → NoNewline (byte ∷ line) → lines_of (byte ∷ line) ≡ (byte ∷ line) ∷ []
lines_of-last byte [] h = lines_of-byte byte [] h.0
lines_of-last byte (next ∷ line) h = lines_of-byte byte (next ∷ line) h.0 ∙ ap (onto_first byte) (lines_of-last next line h.1)

onto_first-line : (byte : ℕ) (lines : List (List ℕ)) → (more : List ℕ) × (after : List (List ℕ)) × (onto_first byte lines ≡ (byte ∷ more) ∷ after)
onto_first-line byte [] = ([], [], refl)
onto_first-line byte (line ∷ lines) = (line, lines, refl)

FirstLine-byte : (byte : ℕ) (text : List ℕ) → FirstLine (byte ∷ text) (byte ∷ [])
FirstLine-byte byte text = elim (cases_eq byte newline) [
  | inl e ↦ subst (λ (b : ℕ). FirstLine (b ∷ text) (b ∷ [])) (sym e) ([], lines_of text, refl)
  | inr ne ↦ let first = onto_first-line byte (lines_of text) in (first.0, first.1, lines_of-byte byte text ne ∙ first.2)
]

-- an open line and a next byte, whatever it is
pub FirstLine-next : (line : List ℕ) (byte : ℕ) (text : List ℕ) → NoNewline line → FirstLine (line ++ byte ∷ text) (line ++ byte ∷ [])
FirstLine-next [] byte text h = FirstLine-byte byte text
FirstLine-next (b ∷ line) byte text h =
    let rest = FirstLine-next line byte text h.1 in
    (rest.0, rest.1, lines_of-byte b (line ++ byte ∷ text) h.0 ∙ ap (onto_first b) rest.2)

-- an open line with a byte, and whatever follows
pub FirstLine-open : (line text : List ℕ) → NoNewline line → 0 < length line → FirstLine (line ++ text) line
FirstLine-open [] text h some = absurd (omega arith)
FirstLine-open (b ∷ []) [] h some = ([], [], lines_of-last b [] h)
FirstLine-open (b ∷ []) (c ∷ text) h some =
    let rest = FirstLine-byte c text in
    (c ∷ rest.0, rest.1, lines_of-byte b (c ∷ text) h.0 ∙ ap (onto_first b) rest.2)
FirstLine-open (b ∷ c ∷ line) text h some =
    let rest = FirstLine-open (c ∷ line) text h.1 (omega arith) in
    (rest.0, rest.1, lines_of-byte b (c ∷ line ++ text) h.0 ∙ ap (onto_first b) rest.2)

pub NoNewline-append : (line bytes : List ℕ) → NoNewline line → NoNewline bytes → NoNewline (line ++ bytes)
NoNewline-append [] bytes h k = k
NoNewline-append (b ∷ line) bytes h k = (h.0, NoNewline-append line bytes h.1 k)

pub content-open : (line : List ℕ) → NoNewline line → content line ≡ line
content-open [] h = refl
content-open (b ∷ []) h = rw (not_newline b h.0) refl
content-open (b ∷ c ∷ line) h = ap (λ (l : List ℕ). b ∷ l) (content-open (c ∷ line) h.1)

pub content-whole : (line : List ℕ) → content (line ++ newline ∷ []) ≡ line
content-whole [] = refl
content-whole (b ∷ []) = refl
content-whole (b ∷ c ∷ line) = ap (λ (l : List ℕ). b ∷ l) (content-whole (c ∷ line))

pub length-content : (line more : List ℕ) → NoNewline line → length line ≤ length (content (line ++ more))
length-content [] more h = omega arith
length-content (b ∷ []) [] h = rw (not_newline b h.0) (omega arith)
length-content (b ∷ []) (c ∷ more) h = omega arith
length-content (b ∷ c ∷ line) more h = let rest = length-content (c ∷ line) more h.1 in omega arith

-- the first newline by its index
pub NoNewline-none : (bytes : List ℕ) → ((k : ℕ) → k < length bytes → get_or bytes k 0 ≢ newline) → NoNewline bytes
NoNewline-none [] h = tt
NoNewline-none (byte ∷ bytes) h = (h 0 (omega arith), NoNewline-none bytes (λ k below. h (suc k) (omega arith)))

pub NoNewline-before : (bytes : List ℕ) (end : ℕ) → end ≤ length bytes → ((k : ℕ) → k < end → get_or bytes k 0 ≢ newline) → NoNewline (take end bytes)
NoNewline-before bytes end within h =
    NoNewline-none (take end bytes) (λ k below.
    let under : k < end = omega (arith, length-take end bytes) in
    rw (get_or-take end bytes k 0 under) (h k under))

pub split_at_newline : (bytes : List ℕ) (end : ℕ) → end < length bytes → get_or bytes end 0 ≡ newline → bytes ≡ take end bytes ++ newline ∷ drop (end + 1) bytes
split_at_newline bytes end within is =
    sym (take-append-drop end bytes)
    ∙ ap (λ (l : List ℕ). take end bytes ++ l) (drop_more bytes end 0 within ∙ ap (λ (b : ℕ). b ∷ drop (end + 1) bytes) is)

-- the lines of a text have its bytes
pub concat-lines_of : (text : List ℕ) → concat (lines_of text) ≡ text
concat-lines_of [] = refl
concat-lines_of (byte ∷ text) = choose (byte == newline) ∙ ap (λ l. byte ∷ l) (concat-lines_of text)
  where
    joined : (lines : List (List ℕ)) → concat (onto_first byte lines) ≡ byte ∷ concat lines
    joined [] = refl
    joined (line ∷ lines) = refl

    choose : (b : Bool) → concat (if b then (byte ∷ []) ∷ lines_of text else onto_first byte (lines_of text)) ≡ byte ∷ concat (lines_of text)
    choose true = refl
    choose false = joined (lines_of text)

pub concat-push : (before : List (List ℕ)) (line : List ℕ) → length (concat (before ++ line ∷ [])) ≡ length (concat before) + length line
concat-push before line =
    ap length (concat-append before (line ∷ [])) ∙ length-append (concat before) (line ++ [])
    ∙ ap (λ (l : List ℕ). length (concat before) + length l) (append-nil line)
