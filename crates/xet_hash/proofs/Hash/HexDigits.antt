-- Reading hex digits of either case: what decodes is the lower-case text of its bytes.
use Rattle.std.proofs.Common.{◌≡◌, ℕ, ◌+◌, ◌*◌, ◌/◌, ◌%◌, ◌<◌, true, cond, ltb, List, [], ◌∷◌, slice_index, refl, sym, ap, ◌∙◌, arith, Option, Some, None, Result, Ok, Err}
use Rattle.std.specs.Char.{is_ascii_hexdigit, to_ascii_lowercase}
use Rattle.std.specs.Result.{result_unwrap_or}
use Rattle.std.specs.Str.{str_to_ascii_lowercase}
use Rattle.std.proofs.lemmas.Bool.Decides.{nat_tests}
use Rattle.std.proofs.lemmas.List.FromFn.{get_or-map-range_with_len}
use Rattle.std.proofs.lemmas.List.Elements.{All-get_or, All-weaker}
use Rattle.hex.proofs.HexLemmas.{IsOk-decode_sized, decode_pairs-ok, decode_sized-ok}
use Rattle.hex.proofs.Pairs.{decode_sized-pairs}
use Rattle.xet_hash.specs.Hash.{IsHexText}
use Rattle.hex.specs.Hex.{decode_pairs, decode_sized, digit_or_error, encode_with, encode_lower, hex_digit_value, is_hex_digit, lower_digits, pair_value, value_at, ◌>>=◌}
use Rattle.hex.specs.declared.error.FromHexError.{FromHexError}

-- the crate hex and std agree on what a hex digit is
same_digit : (c : ℕ) → is_hex_digit c ≡ is_ascii_hexdigit c
same_digit c = grind (arith, nat_tests)

-- the lower-case digit of v
pub lower_digit : (v : ℕ) → v < 16 → slice_index lower_digits v ≡ cond (ltb v 10) (48 + v) (87 + v)
lower_digit v small =
    get_or-map-range_with_len (λ k. cond (ltb k 10) (48 + k) (87 + k)) 0 16 v v 0 small (omega arith)

-- the value of a digit, and the lower-case digit of that value
digit_small : (c v : ℕ) → hex_digit_value c ≡ Some v → v < 16
digit_small c v h = grind arith

digit_text : (c v : ℕ) → hex_digit_value c ≡ Some v → slice_index lower_digits v ≡ to_ascii_lowercase c
digit_text c v h =
    let turned : cond (ltb v 10) (48 + v) (87 + v) ≡ to_ascii_lowercase c = grind (arith, nat_tests) in
    lower_digit v (digit_small c v h) ∙ turned

-- what an `Ok` after `>>=` shows
bind_ok : {A B : Type 0} (r : Result A FromHexError) (f : A → Result B FromHexError) (y : B)
    → (r >>= f) ≡ Ok y → (x : A) × (r ≡ Ok x) × (f x ≡ Ok y)
bind_ok (Ok x) f y h = (x, refl, h)
bind_ok (Err e) f y h = cc h

-- the value of a digit that read
digit_read : (c i : ℕ) (o : Option ℕ) (v : ℕ) → digit_or_error c i o ≡ Ok v → o ≡ Some v
digit_read c i (Some w) v h = ap Some (ap (λ (r : Result ℕ FromHexError). result_unwrap_or r 0) h)
digit_read c i None v h = cc h

-- the text of the bytes of pairs of digits is the digits in lower case
pub encode_lower-decode_pairs : (i : ℕ) (s bytes : List ℕ) → decode_pairs i s ≡ Ok bytes
    → encode_lower bytes ≡ str_to_ascii_lowercase s
unfolding decode_pairs encode_with
encode_lower-decode_pairs i [] bytes h =
    let e : [] ≡ bytes = ap (λ (r : Result (List ℕ) FromHexError). result_unwrap_or r []) h in
    rw (← e)
encode_lower-decode_pairs i (a ∷ []) bytes h = cc h
encode_lower-decode_pairs i (a ∷ b ∷ rest) bytes h =
    let pair = bind_ok (pair_value a b i) _ bytes h in
    let high = bind_ok (value_at a i) _ pair.0 pair.1 in
    let low = bind_ok (value_at b (i + 1)) _ pair.0 high.2 in
    let tail = bind_ok (decode_pairs (i + 2) rest) _ bytes pair.2 in
    let byte : high.0 * 16 + low.0 ≡ pair.0 = ap (λ (r : Result ℕ FromHexError). result_unwrap_or r 0) low.2 in
    let all : pair.0 ∷ tail.0 ≡ bytes = ap (λ (r : Result (List ℕ) FromHexError). result_unwrap_or r []) tail.2 in
    let digit_a = digit_read a i (hex_digit_value a) high.0 high.1 in
    let digit_b = digit_read b (i + 1) (hex_digit_value b) low.0 low.1 in
    let small_a = digit_small a high.0 digit_a in
    let small_b = digit_small b low.0 digit_b in
    let first : pair.0 / 16 ≡ high.0 = omega arith in
    let second : pair.0 % 16 ≡ low.0 = omega arith in
    let rest_text : encode_lower tail.0 ≡ str_to_ascii_lowercase rest = encode_lower-decode_pairs (i + 2) rest tail.0 tail.1 in
    rw (← all, first, second, digit_text a high.0 digit_a, digit_text b low.0 digit_b, rest_text)

-- the byte that two digits spell
pub pair_spelled : (a b i v w : ℕ) → hex_digit_value a ≡ Some v → hex_digit_value b ≡ Some w → pair_value a b i ≡ Ok (16 * v + w)
pair_spelled a b i v w high low =
    let order : v * 16 + w ≡ 16 * v + w = omega arith in
    rw (high, low) (ap Ok order)

-- ---- What reads as 32 bytes

-- a digit of a text that reads
pub digit_at : (text : List ℕ) (i : ℕ) → IsHexText text → i < 64 → is_hex_digit (slice_index text i) ≡ true
digit_at text i h fits =
    same_digit (slice_index text i) ∙ All-get_or (λ c. is_ascii_hexdigit c ≡ true) text i 0 (omega (arith, h.0)) h.1

-- a text that reads is 64 digits, and the text of its bytes is the text in lower case
pub IsHexText-decoded : (text bytes : List ℕ) → decode_sized text 32 ≡ Ok bytes
    → IsHexText text × (encode_lower bytes ≡ str_to_ascii_lowercase text)
IsHexText-decoded text bytes read =
    let len = decode_sized-ok text 32 bytes read in
    let pairs = decode_sized-pairs text 32 (omega arith) (omega arith) in
    let read_pairs : decode_pairs 0 text ≡ Ok bytes = sym pairs ∙ read in
    let digits = (decode_pairs-ok 0 text bytes read_pairs).0 in (
      (len, All-weaker (λ c. is_hex_digit c ≡ true) (λ c. is_ascii_hexdigit c ≡ true) (λ c h. sym (same_digit c) ∙ h) text digits),
      encode_lower-decode_pairs 0 text bytes read_pairs,
    )

-- a text that is refused is not 64 digits
pub IsHexText-refused : (text : List ℕ) (e : FromHexError) → decode_sized text 32 ≡ Err e → IsHexText text → ⊥
IsHexText-refused text e refused h =
    let digits = All-weaker (λ c. is_ascii_hexdigit c ≡ true) (λ c. is_hex_digit c ≡ true) (λ c d. same_digit c ∙ d) text h.1 in
    let read = (IsOk-decode_sized text 32).1 (h.0, digits) in
    cc (rw refused at read)
