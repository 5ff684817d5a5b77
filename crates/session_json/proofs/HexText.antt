-- The hex text of a hash stands in a JSON string as it is, and is UTF-8.
use Rattle.std.proofs.Common.{arith, ◌≡◌, ℕ, ◌+◌, ◌<◌, ◌/◌, ◌%◌, ◌-◌, ◌^◌, ◌≤◌, cond, ltb, List, [], ◌∷◌, ◌++◌, map, slice_index, IsUtf8, nat_lt, true, lt-ltb, refl, ap, subst, sym, ◌∙◌}
use Rattle.std.specs.List.{range_with_len}
use Rattle.std.proofs.lemmas.Bool.Decides.{nat_tests}
use Rattle.json.specs.Print.{escape, escape_byte}
use Rattle.json.proofs.Printed.Strings.{escape_byte_plain}
use Rattle.json.proofs.Printed.Utf8.{are_ascii, IsUtf8-are_ascii}
use Rattle.xet_hash.specs.Hash.{hex_digit, hex_character, hex_text}
use Rattle.xet_hash.proofs.Hash.HexDigits.{lower_digit}

-- a digit is no control character, no quote and no backslash
digit_least : (n : ℕ) → n < 16 → 48 ≤ hex_digit n
digit_least n small = subst (λ d. 48 ≤ d) (sym (lower_digit n small)) (grind (arith, nat_tests))

digit_other : (n : ℕ) → n < 16 → hex_digit n ≡ 92 → ⊥
digit_other n small is =
    let same : cond (ltb n 10) (48 + n) (87 + n) ≡ 92 = sym (lower_digit n small) ∙ is in
    grind (arith, nat_tests)

plain_digit : (n : ℕ) → n < 16 → escape_byte (hex_digit n) ≡ hex_digit n ∷ []
plain_digit n small =
    let least = digit_least n small in
    escape_byte_plain (hex_digit n) (λ is. omega (arith, is, least)) (digit_other n small) (omega (arith, least))

escape-map : (f : ℕ → ℕ) → ((i : ℕ) → escape_byte (f i) ≡ f i ∷ []) → (places : List ℕ) → escape (map f places) ≡ map f places
escape-map f plain [] = refl
escape-map f plain (i ∷ places) =
    ap (λ (s : List ℕ). s ++ escape (map f places)) (plain i) ∙ ap (λ (s : List ℕ). f i ∷ s) (escape-map f plain places)

pub escape-hex_text : (words : List ℕ) → escape (hex_text words) ≡ hex_text words
unfolding hex_text
escape-hex_text words =
    escape-map (hex_character words) (λ i. plain_digit (slice_index words (i / 16) / 16 ^ (15 - i % 16) % 16) (omega arith)) (range_with_len 0 64)

ascii_digit : (n : ℕ) → n < 16 → nat_lt (hex_digit n) 128 ≡ true
ascii_digit n small = lt-ltb (hex_digit n) 128 (subst (λ d. d < 128) (sym (lower_digit n small)) (grind (arith, nat_tests)))

are_ascii-map : (f : ℕ → ℕ) → ((i : ℕ) → nat_lt (f i) 128 ≡ true) → (places : List ℕ) → are_ascii (map f places) ≡ true
are_ascii-map f ascii [] = refl
are_ascii-map f ascii (i ∷ places) = rw (ascii i) (are_ascii-map f ascii places)

pub IsUtf8-hex_text : (words : List ℕ) → IsUtf8 (hex_text words)
unfolding hex_text
IsUtf8-hex_text words =
    IsUtf8-are_ascii _ (are_ascii-map (hex_character words) (λ i. ascii_digit (slice_index words (i / 16) / 16 ^ (15 - i % 16) % 16) (omega arith)) (range_with_len 0 64))
