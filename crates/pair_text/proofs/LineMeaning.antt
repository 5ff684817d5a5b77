-- A line says one thing, or nothing.
use Rattle.std.proofs.Common.{arith, ◌≡◌, ◌≢◌, ◌⊎◌, inl, inr, ◌^◌, ◌<◌, ◌≤◌, ℕ, Bool, true, false, Decides, List, [], ◌∷◌, ◌++◌, codes, decimal, append_assoc, bytes_eq, take, drop, length, refl, sym, ap, ◌∙◌}
use Rattle.std.specs.Char.{is_ascii_hexdigit}
use Rattle.std.specs.List.{AllPass}
use Rattle.std.specs.Str.{str_to_ascii_lowercase}
use Rattle.std.specs.Str.Parse.{digits_value}
use Rattle.std.proofs.lemmas.Bool.{false≢true, cases_Bool, cases_eq, cases_lt}
use Rattle.std.proofs.lemmas.List.{take_at}
use Rattle.std.proofs.lemmas.Slice.Eq.{bytes_eq-Decides}
use Rattle.std.proofs.lemmas.List.Elements.{All-nil, All-cons, All-head, All-tail}
use Rattle.std.proofs.lemmas.Fmt.{decimal_injective, decimal_is_IsNumeral}
use Rattle.xet_hash.specs.Blake3.{keyed_hash}
use Rattle.xet_hash.specs.Hash.{IsHexText, data_key, hash_of}
use Rattle.xet_hash.proofs.Hash.Laws.{hash_of_digits, hex_text-injective}
use Rattle.xet_roots.specs.Groups.{Node}
use Rattle.pair_text.specs.declared.line.Line.{Line}
use Rattle.pair_text.specs.declared.line.Line.TheVariants.{Separator, Position, Pair}
use Rattle.pair_text.specs.Lines.{IsSeparator, IsPositionLine, IsPairLine, SaysPair}
use Rattle.pair_text.specs.LineSays.{Says}
use Rattle.pair_text.proofs.PairLines.{IsPairLine-digits, IsPairLine-rest, IsPairLine-made}

-- ---- one thing

first_byte : List ℕ → ℕ
first_byte [] = 0
first_byte (byte ∷ bytes) = byte

first_digit : (digits rest : List ℕ) → 0 < length digits → AllPass is_ascii_hexdigit digits → is_ascii_hexdigit (first_byte (digits ++ rest)) ≡ true
unfolding first_byte
first_digit [] rest some all = absurd (omega arith)
first_digit (digit ∷ digits) rest some all = All-head (λ c. is_ascii_hexdigit c ≡ true) digit digits all

-- a pair line begins with a hex digit
pair_first : (line : List ℕ) (node : Node) → IsPairLine line node → is_ascii_hexdigit (first_byte line) ≡ true
pair_first line node pair =
    ap (λ l. is_ascii_hexdigit (first_byte l)) (pair.parts ∙ append_assoc pair.digits (codes " ") (decimal node.1))
    ∙ first_digit pair.digits (codes " " ++ decimal node.1) (let (long, _) = pair.are_digits in omega (arith, long)) pair.are_digits.1

pub no_pair : (line rest : List ℕ) (byte : ℕ) (node : Node) → line ≡ byte ∷ rest → is_ascii_hexdigit byte ≡ false → IsPairLine line node → ⊥
unfolding first_byte
no_pair line rest byte node is none pair =
    false≢true (sym none ∙ ap (λ l. is_ascii_hexdigit (first_byte l)) (sym is) ∙ pair_first line node pair)

other_first : (line a b : List ℕ) (byte other : ℕ) → line ≡ byte ∷ a → line ≡ other ∷ b → byte ≢ other → ⊥
unfolding first_byte
other_first line a b byte other is also differ = differ (ap first_byte (sym is ∙ also))

same_pair : (line : List ℕ) (a b : Node) → IsPairLine line a → IsPairLine line b → a ≡ b
same_pair line (hash, size) (other, size2) first second =
    let digits = sym (digits_of line (hash, size) first) ∙ digits_of line (other, size2) second in
    let text = first.reads ∙ ap str_to_ascii_lowercase digits ∙ sym second.reads in
    let sizes = ap (drop 1) (sym (IsPairLine-rest line (hash, size) first) ∙ IsPairLine-rest line (other, size2) second) in
    both (hex_text-injective hash other first.is_hash second.is_hash text) (decimal_injective size size2 first.is_size second.is_size sizes)
  where
    both : {a b : List ℕ} {m n : ℕ} → a ≡ b → m ≡ n → ◌≡◌ {A = Node} (a, m) (b, n)
    both p q = cc

    digits_of : (line : List ℕ) (node : Node) (pair : IsPairLine line node) → take 64 line ≡ pair.digits
    digits_of line node pair =
        ap (take 64) (pair.parts ∙ append_assoc pair.digits (codes " ") (decimal node.1))
        ∙ take_at pair.digits (codes " " ++ decimal node.1) 64 pair.are_digits.0

pub Says-unique : (line : List ℕ) (a b : Line) → Says line a → Says line b → a ≡ b
Says-unique line Separator Separator is also = refl
Says-unique line Separator (Position n) is also = absurd (other_first line (codes "-") (decimal n) 45 64 is also.0 (omega arith))
Says-unique line Separator (Pair node) is (inl pair) = absurd (no_pair line (codes "-") 45 node is refl pair)
Says-unique line Separator (Pair node) is (inr chunk) = absurd (other_first line (codes "-") chunk.0 45 43 is chunk.1 (omega arith))
Says-unique line (Position n) Separator is also = absurd (other_first line (codes "-") (decimal n) 45 64 also is.0 (omega arith))
Says-unique line (Position n) (Position m) is also =
    ap Position (decimal_injective n m is.1 also.1 (ap (drop 1) (sym is.0 ∙ also.0)))
Says-unique line (Position n) (Pair node) is (inl pair) = absurd (no_pair line (decimal n) 64 node is.0 refl pair)
Says-unique line (Position n) (Pair node) is (inr chunk) = absurd (other_first line (decimal n) chunk.0 64 43 is.0 chunk.1 (omega arith))
Says-unique line (Pair node) Separator (inl pair) also = absurd (no_pair line (codes "-") 45 node also refl pair)
Says-unique line (Pair node) Separator (inr chunk) also = absurd (other_first line (codes "-") chunk.0 45 43 also chunk.1 (omega arith))
Says-unique line (Pair node) (Position n) (inl pair) also = absurd (no_pair line (decimal n) 64 node also.0 refl pair)
Says-unique line (Pair node) (Position n) (inr chunk) also = absurd (other_first line (decimal n) chunk.0 64 43 also.0 chunk.1 (omega arith))
Says-unique line (Pair a) (Pair b) (inl first) (inl second) = ap Pair (same_pair line a b first second)
Says-unique line (Pair a) (Pair b) (inl first) (inr second) = absurd (no_pair line second.0 43 a second.1 refl first)
Says-unique line (Pair a) (Pair b) (inr first) (inl second) = absurd (no_pair line first.0 43 b first.1 refl second)
Says-unique line (Pair a) (Pair b) (inr first) (inr second) =
    let same = ap (drop 1) (sym first.1 ∙ second.1) in
    ap Pair (first.2 ∙ ap (λ bytes. (hash_of (keyed_hash data_key bytes), length bytes)) same ∙ sym second.2)

-- ---- or nothing

decided : {P : Type 0} (b : Bool) → Decides b P → P ⊎ ¬ P
decided true d = inl (d.0 refl)
decided false d = inr (λ p. false≢true (d.1 p))

same_or_not : (xs ys : List ℕ) → (xs ≡ ys) ⊎ ¬ (xs ≡ ys)
same_or_not xs ys = decided (bytes_eq xs ys) (bytes_eq-Decides xs ys)

decimal_or_not : (digits : List ℕ) → ((n : ℕ) × (digits ≡ decimal n) × (n < 2 ^ 64)) ⊎ ((n : ℕ) → n < 2 ^ 64 → ¬ (digits ≡ decimal n))
decimal_or_not digits = choose (same_or_not digits (decimal (digits_value 10 digits))) (cases_lt (digits_value 10 digits) (2 ^ 64))
  where
    value : (n : ℕ) → n < 2 ^ 64 → digits ≡ decimal n → digits_value 10 digits ≡ n
    value n low is = ap (digits_value 10) is ∙ (decimal_is_IsNumeral n low).1

    choose : (digits ≡ decimal (digits_value 10 digits)) ⊎ ¬ (digits ≡ decimal (digits_value 10 digits))
        → (digits_value 10 digits < 2 ^ 64) ⊎ (2 ^ 64 ≤ digits_value 10 digits)
        → ((n : ℕ) × (digits ≡ decimal n) × (n < 2 ^ 64)) ⊎ ((n : ℕ) → n < 2 ^ 64 → ¬ (digits ≡ decimal n))
    choose (inl is) (inl low) = inl (digits_value 10 digits, is, low)
    choose (inl is) (inr high) = inr (λ n low also. omega (arith, value n low also, low, high))
    choose (inr other) _ = inr (λ n low also. other (also ∙ ap decimal (sym (value n low also))))

pass_or_not : (p : ℕ → Bool) (xs : List ℕ) → AllPass p xs ⊎ ¬ (AllPass p xs)
pass_or_not p [] = inl (All-nil (λ c. p c ≡ true))
pass_or_not p (x ∷ xs) = choose (cases_Bool (p x)) (pass_or_not p xs)
  where
    choose : (p x ≡ true) ⊎ (p x ≡ false) → AllPass p xs ⊎ ¬ (AllPass p xs) → AllPass p (x ∷ xs) ⊎ ¬ (AllPass p (x ∷ xs))
    choose (inl passes) (inl all) = inl (All-cons (λ c. p c ≡ true) x xs passes all)
    choose (inl passes) (inr none) = inr (λ all. none (All-tail (λ c. p c ≡ true) x xs all))
    choose (inr fails) _ = inr (λ all. false≢true (sym fails ∙ All-head (λ c. p c ≡ true) x xs all))

hex_or_not : (text : List ℕ) → IsHexText text ⊎ ¬ (IsHexText text)
hex_or_not text = choose (cases_eq (length text) 64) (pass_or_not is_ascii_hexdigit text)
  where
    choose : (length text ≡ 64) ⊎ (length text ≢ 64) → AllPass is_ascii_hexdigit text ⊎ ¬ (AllPass is_ascii_hexdigit text) → IsHexText text ⊎ ¬ (IsHexText text)
    choose (inl long) (inl all) = inl (long, all)
    choose (inl long) (inr none) = inr (λ h. none h.1)
    choose (inr other) _ = inr (λ h. other h.0)

pair_or_not : (line : List ℕ) → ((node : Node) × IsPairLine line node) ⊎ ((node : Node) → ¬ (IsPairLine line node))
pair_or_not line = choose (hex_or_not (take 64 line)) (same_or_not (drop 64 line) (32 ∷ drop 1 (drop 64 line))) (decimal_or_not (drop 1 (drop 64 line)))
  where
    choose : IsHexText (take 64 line) ⊎ ¬ (IsHexText (take 64 line))
        → (drop 64 line ≡ 32 ∷ drop 1 (drop 64 line)) ⊎ ¬ (drop 64 line ≡ 32 ∷ drop 1 (drop 64 line))
        → ((n : ℕ) × (drop 1 (drop 64 line) ≡ decimal n) × (n < 2 ^ 64)) ⊎ ((n : ℕ) → n < 2 ^ 64 → ¬ (drop 1 (drop 64 line) ≡ decimal n))
        → ((node : Node) × IsPairLine line node) ⊎ ((node : Node) → ¬ (IsPairLine line node))
    choose (inr none) _ _ = inr (λ node pair. none (IsPairLine-digits line node pair))
    choose (inl digits) (inr none) _ = inr (λ node pair.
        let rest = IsPairLine-rest line node pair in none (rest ∙ ap (λ l. 32 ∷ drop 1 l) (sym rest)))
    choose (inl digits) (inl space) (inr none) = inr (λ node pair. none node.1 pair.is_size (ap (drop 1) (IsPairLine-rest line node pair)))
    choose (inl digits) (inl space) (inl (size, is, low)) =
        let (hash, is_hash, reads) = hash_of_digits (take 64 line) digits in
        inl ((hash, size), IsPairLine-made line hash size digits reads is_hash (space ∙ ap (λ l. 32 ∷ l) is) low)

-- what a line without a separator or a position says
says_pair_or_not : (line : List ℕ) → ((node : Node) × SaysPair line node) ⊎ ((node : Node) → ¬ (SaysPair line node))
says_pair_or_not line = choose (pair_or_not line) (same_or_not line (43 ∷ drop 1 line))
  where
    choose : ((node : Node) × IsPairLine line node) ⊎ ((node : Node) → ¬ (IsPairLine line node))
        → (line ≡ 43 ∷ drop 1 line) ⊎ ¬ (line ≡ 43 ∷ drop 1 line)
        → ((node : Node) × SaysPair line node) ⊎ ((node : Node) → ¬ (SaysPair line node))
    choose (inl (node, pair)) _ = inl (node, inl pair)
    choose (inr none) (inl plus) =
        inl ((hash_of (keyed_hash data_key (drop 1 line)), length (drop 1 line)), inr (drop 1 line, plus, refl))
    choose (inr none) (inr other) = inr (λ node says. elim says [
      | inl pair ↦ none node pair
      | inr chunk ↦ other (chunk.1 ∙ ap (λ l. 43 ∷ drop 1 l) (sym chunk.1))
    ])

-- a line says a thing or nothing
abbrev pub Meaning : List ℕ → Type 0
Meaning line =
    ((said : Line) × Says line said)
    ⊎ (¬ (IsSeparator line) × ((position : ℕ) → ¬ (IsPositionLine line position)) × ((node : Node) → ¬ (SaysPair line node)))

pub Says-decided : (line : List ℕ) → Meaning line
Says-decided line = choose (same_or_not line (codes "--")) (same_or_not line (64 ∷ drop 1 line)) (decimal_or_not (drop 1 line)) (says_pair_or_not line)
  where
    rest : ¬ (IsSeparator line) → ((position : ℕ) → ¬ (IsPositionLine line position))
        → ((node : Node) × SaysPair line node) ⊎ ((node : Node) → ¬ (SaysPair line node)) → Meaning line
    rest no_separator no_position (inl (node, says)) = inl (Pair node, says)
    rest no_separator no_position (inr none) = inr (no_separator, no_position, none)

    choose : (line ≡ codes "--") ⊎ ¬ (line ≡ codes "--") → (line ≡ 64 ∷ drop 1 line) ⊎ ¬ (line ≡ 64 ∷ drop 1 line)
        → ((n : ℕ) × (drop 1 line ≡ decimal n) × (n < 2 ^ 64)) ⊎ ((n : ℕ) → n < 2 ^ 64 → ¬ (drop 1 line ≡ decimal n))
        → ((node : Node) × SaysPair line node) ⊎ ((node : Node) → ¬ (SaysPair line node)) → Meaning line
    choose (inl is) _ _ _ = inl (Separator, is)
    choose (inr other) (inl at) (inl (n, is, low)) _ = inl (Position n, (at ∙ ap (λ l. 64 ∷ l) is, low))
    choose (inr other) (inl at) (inr none) says =
        rest other (λ position named. none position named.1 (ap (drop 1) named.0)) says
    choose (inr other) (inr not_at) _ says =
        rest other (λ position named. not_at (named.0 ∙ ap (λ l. 64 ∷ drop 1 l) (sym named.0))) says
