-- The hex text of a hash by index, and as the hex digits of the bytes of its words, high byte first.
use Rattle.std.proofs.Common.{◌≡◌, ℕ, ◌*◌, ◌-◌, ◌/◌, ◌%◌, ◌<◌, ◌^◌, true, ltb, List, [], ◌∷◌, ◌++◌, length, map, drop, slice_index, refl, sym, ap, ◌∙◌, arith}
use Rattle.std.specs.Int.{w64, to_be_bytes, from_be_bytes}
use Rattle.std.specs.List.{flat_map, range_with_len}
use Rattle.std.proofs.Math.Nat.{div-div-eq-div-mul}
use Rattle.std.specs.Str.{IsAscii}
use Rattle.std.proofs.lemmas.Bool.{ltb-true}
use Rattle.std.proofs.lemmas.List.Elements.{All-weaker}
use Rattle.std.proofs.lemmas.List.Sums.{AllPass-from_list_all}
use Rattle.std.proofs.lemmas.Str.Ascii.{IsAscii-from_all}
use Rattle.hex.proofs.HexLemmas.{IsAscii-encode_with}
use Rattle.hex.specs.Hex.{encode_with, encode_lower, lower_digits}
use Rattle.xet_hash.specs.Hash.{hex_digit, hex_text}
use Rattle.xet_hash.proofs.Hash.Lemmas.{be_words_written, four_words}

-- the bytes of a hash in the order of its text: each word big-endian
unfoldable pub text_bytes : List ℕ → List ℕ
text_bytes words = flat_map (to_be_bytes w64) words

-- the high digit of the byte of w that is worth p, and the low digit of the lowest byte
high_digit : (w p q : ℕ) → p * 16 ≡ q → w / p % 256 / 16 ≡ w / q % 16
high_digit w p q e =
    let d : w / p / 16 ≡ w / q = div-div-eq-div-mul w p 16 ∙ ap (λ k. w / k) e in
    omega (arith, d)

low_digit : (n : ℕ) → n % 256 % 16 ≡ n % 16
low_digit n = omega arith

-- the 16 digits of a word
abbrev pub word_text : ℕ → List ℕ
word_text w = map (λ j. hex_digit (w / 16 ^ (15 - j) % 16)) (range_with_len 0 16)

-- the text of the bytes of a word
encode_word : (w : ℕ) → encode_lower (to_be_bytes w64 w) ≡ word_text w
unfolding encode_with
encode_word w =
    let last : w % 256 / 16 ≡ w / 16 % 16 = omega arith in
    let one : w / 1 ≡ w = omega arith in
    rw (
      high_digit w (256 ^ 7) (16 ^ 15) refl,
      high_digit w (256 ^ 6) (16 ^ 13) refl,
      high_digit w (256 ^ 5) (16 ^ 11) refl,
      high_digit w (256 ^ 4) (16 ^ 9) refl,
      high_digit w (256 ^ 3) (16 ^ 7) refl,
      high_digit w (256 ^ 2) (16 ^ 5) refl,
      high_digit w 256 (16 ^ 3) refl,
      last,
      one,
    ) (simp low_digit)

-- the digits of two runs of bytes
encode_with-append : (t xs ys : List ℕ) → encode_with t (xs ++ ys) ≡ encode_with t xs ++ encode_with t ys
unfolding encode_with
encode_with-append t [] ys = refl
encode_with-append t (x ∷ xs) ys =
    ap (λ (l : List ℕ). slice_index t (x / 16) ∷ slice_index t (x % 16) ∷ l) (encode_with-append t xs ys)

-- the text of the bytes of any words, word by word
encode_words : (words : List ℕ) → encode_lower (text_bytes words) ≡ flat_map word_text words
unfolding text_bytes encode_with
encode_words [] = refl
encode_words (w ∷ ws) =
    let rest : encode_lower (flat_map (to_be_bytes w64) ws) ≡ flat_map word_text ws = encode_words ws in
    encode_with-append lower_digits (to_be_bytes w64 w) (flat_map (to_be_bytes w64) ws)
    ∙ ap (λ (l : List ℕ). l ++ encode_lower (flat_map (to_be_bytes w64) ws)) (encode_word w)
    ∙ ap (λ (l : List ℕ). word_text w ++ l) rest

-- the hex text by position, word by word
pub hex_text-four : (words : List ℕ) → length words ≡ 4 → hex_text words ≡ flat_map word_text words
unfolding hex_text
hex_text-four words h = rw (four_words words h)

-- the hex text by position is the text of the bytes
pub encode_lower-text_bytes : (words : List ℕ) → length words ≡ 4 → encode_lower (text_bytes words) ≡ hex_text words
encode_lower-text_bytes words h = encode_words words ∙ sym (hex_text-four words h)

-- the bytes in the order of the text, word by word
pub text_bytes-four : (words : List ℕ) → length words ≡ 4
    → text_bytes words
    ≡ to_be_bytes w64 (slice_index words 0) ++ (to_be_bytes w64 (slice_index words 1)
    ++ (to_be_bytes w64 (slice_index words 2) ++ to_be_bytes w64 (slice_index words 3)))
unfolding text_bytes
text_bytes-four words h = ap text_bytes (four_words words h)

-- the words of 32 bytes in the order of the text
unfoldable pub be_words : List ℕ → List ℕ
be_words bytes = map (λ k. from_be_bytes w64 (drop (8 * k) bytes)) (0 ∷ 1 ∷ 2 ∷ 3 ∷ [])

-- the text of such words is the text of the bytes
pub hex_text-be_words : (bytes : List ℕ) → length bytes ≡ 32 → ((i : ℕ) → slice_index bytes i < 256)
    → hex_text (be_words bytes) ≡ encode_lower bytes
unfolding text_bytes be_words
hex_text-be_words bytes len fits =
    sym (encode_lower-text_bytes (be_words bytes) refl)
    ∙ ap encode_lower (be_words_written bytes len fits)

-- the hex text of some bytes is ASCII
pub IsAscii-encode_lower : (bytes : List ℕ) → IsAscii (encode_lower bytes)
IsAscii-encode_lower bytes =
    let small = AllPass-from_list_all (λ d. ltb d 128) lower_digits refl in
    IsAscii-encode_with lower_digits bytes
    (IsAscii-from_all lower_digits (All-weaker (λ d. ltb d 128 ≡ true) (λ d. d < 128) (λ d h. ltb-true d 128 h) lower_digits small))
