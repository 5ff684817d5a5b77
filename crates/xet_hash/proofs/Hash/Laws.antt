-- The laws of a hash's bytes and of its hex text: both read back.
use Rattle.std.proofs.Common.{◌≡◌, ℕ, zero, suc, ◌*◌, ◌<◌, ◌^◌, All, List, [], ◌∷◌, length, drop, slice_index, slice_index_or, inl, inr, refl, sym, ap, ◌∙◌, arith, lit<, Result, Ok, Err}
use Rattle.std.specs.Int.{w64, to_le_bytes, from_le_bytes, to_be_bytes, from_be_bytes, byte_at, bytes_low_first, bytes_high_first}
use Rattle.std.specs.List.{flat_map}
use Rattle.std.specs.Str.{str_to_ascii_lowercase}
use Rattle.std.proofs.lemmas.List.Elements.{All-append, All-cons, All-get_or, All-map, All-nil}
use Rattle.std.proofs.lemmas.Bool.{cases_lt}
use Rattle.std.proofs.lemmas.List.{get_or_past}
use Rattle.std.proofs.lemmas.Nat.{from_be_bytes-to_be_bytes_8, from_le_bytes-to_le_bytes_8}
use Rattle.hex.specs.Hex.{IsBytes, decode_of, decode_sized, encode_lower}
use Rattle.hex.specs.declared.error.FromHexError.{FromHexError}
use Rattle.hex.proofs.HexLemmas.{decode_of-encode_lower, decode_of-same, decode_pairs-ok, decode_sized-encode_lower, decode_sized-ok}
use Rattle.hex.proofs.Pairs.{decode_sized-pairs}
use Rattle.xet_hash.specs.Hash.{bytes_of, hash_of, hex_text, IsHash, IsHashBytes, IsHexText}
use Rattle.xet_hash.proofs.Hash.Lemmas.{bytes_of-four, four_words, le_words_written, rest_fits, same_four}
use Rattle.xet_hash.proofs.Hash.HexText.{be_words, encode_lower-text_bytes, hex_text-be_words, text_bytes, text_bytes-four}
use Rattle.xet_hash.proofs.Hash.HexDigits.{IsHexText-decoded, IsHexText-refused}

-- ---- Bytes are below 256

-- what holds of each byte
abbrev IsByte : ℕ → Type 0
IsByte byte = byte < 256

-- byte number i of n, and runs of them from either end
IsByte-byte_at : (i n : ℕ) → IsByte (byte_at i n)
IsByte-byte_at zero n = omega arith
IsByte-byte_at (suc i) n = omega arith

All-bytes_low_first : (i k n : ℕ) → All IsByte (bytes_low_first i k n)
All-bytes_low_first i zero n = All-nil IsByte
All-bytes_low_first i (suc k) n =
    All-cons IsByte (byte_at i n) (bytes_low_first (suc i) k n) (IsByte-byte_at i n) (All-bytes_low_first (suc i) k n)

All-bytes_high_first : (k n : ℕ) → All IsByte (bytes_high_first k n)
All-bytes_high_first zero n = All-nil IsByte
All-bytes_high_first (suc k) n =
    All-cons IsByte (byte_at k n) (bytes_high_first k n) (IsByte-byte_at k n) (All-bytes_high_first k n)

-- the bytes of some pieces
All-flat_map : (f : ℕ → List ℕ) → ((x : ℕ) → All IsByte (f x)) → (xs : List ℕ) → All IsByte (flat_map f xs)
All-flat_map f h [] = All-nil IsByte
All-flat_map f h (x ∷ xs) = All-append IsByte (f x) (flat_map f xs) (h x) (All-flat_map f h xs)

-- the bytes of any words, in either order
All-bytes_of : (words : List ℕ) → All IsByte (bytes_of words)
unfolding bytes_of
All-bytes_of words = All-flat_map (to_le_bytes w64) (λ w. All-bytes_low_first 0 8 w) words

All-text_bytes : (words : List ℕ) → All IsByte (text_bytes words)
unfolding text_bytes
All-text_bytes words = All-flat_map (to_be_bytes w64) (λ w. All-bytes_high_first 8 w) words

-- ---- Words from bytes and back

-- the bound of a word of a hash
pub word_fits : (words : List ℕ) (k : ℕ) → IsHash words → k < 4 → slice_index words k < 2 ^ 64
word_fits words k h small = All-get_or (λ w. w < 2 ^ 64) words k 0 (omega (arith, h.0)) h.1

-- a function of a hash that gives back each hash of four words
back_from_four : (f : List ℕ → List ℕ)
    → ((a b c d : ℕ) → a < 2 ^ 64 → b < 2 ^ 64 → c < 2 ^ 64 → d < 2 ^ 64
    → f (a ∷ b ∷ c ∷ d ∷ []) ≡ a ∷ b ∷ c ∷ d ∷ [])
    → (words : List ℕ) → IsHash words → f words ≡ words
back_from_four f back words h =
    let four = four_words words h.0 in
    ap f four
    ∙ back _ _ _ _ (word_fits words 0 h (lit< tt)) (word_fits words 1 h (lit< tt)) (word_fits words 2 h (lit< tt)) (word_fits words 3 h (lit< tt))
    ∙ sym four

-- a hash from its bytes
pub hash_of-bytes_of : (words : List ℕ) → IsHash words → hash_of (bytes_of words) ≡ words
unfolding bytes_of hash_of
hash_of-bytes_of =
    back_from_four (λ l. hash_of (bytes_of l)) (λ a b c d ha hb hc hd.
    same_four _ _ _ _ a b c d (from_le_bytes-to_le_bytes_8 a ha) (from_le_bytes-to_le_bytes_8 b hb)
    (from_le_bytes-to_le_bytes_8 c hc) (from_le_bytes-to_le_bytes_8 d hd))

-- a hash from its bytes in the order of the text
be_words-text_bytes : (words : List ℕ) → IsHash words → be_words (text_bytes words) ≡ words
unfolding text_bytes be_words
be_words-text_bytes =
    back_from_four (λ l. be_words (text_bytes l)) (λ a b c d ha hb hc hd.
    same_four _ _ _ _ a b c d (from_be_bytes-to_be_bytes_8 a ha) (from_be_bytes-to_be_bytes_8 b hb)
    (from_be_bytes-to_be_bytes_8 c hc) (from_be_bytes-to_be_bytes_8 d hd))

-- the bytes of a hash
pub IsHashBytes-bytes_of : (words : List ℕ) → IsHash words → IsHashBytes (bytes_of words)
IsHashBytes-bytes_of words h =
    let len : length (bytes_of words) ≡ 32 = rw (bytes_of-four words h.0) refl in
    (len, All-bytes_of words)

-- a byte at any place, past the end too
pub fits_at : (bytes : List ℕ) → All IsByte bytes → (i : ℕ) → slice_index bytes i < 256
fits_at bytes h i =
    elim (cases_lt i (length bytes)) [
      | inl inside ↦ All-get_or IsByte bytes i 0 inside h
      | inr past ↦ rw (get_or_past bytes i 0 past) (omega arith)
    ]

-- bytes from their hash
pub bytes_of-hash_of : (bytes : List ℕ) → IsHashBytes bytes → bytes_of (hash_of bytes) ≡ bytes
unfolding bytes_of hash_of
bytes_of-hash_of bytes h = le_words_written bytes h.0 (fits_at bytes h.1)

-- the number of some bytes is a word
from_le_bytes-fits : (bytes : List ℕ) → ((i : ℕ) → slice_index bytes i < 256) → from_le_bytes w64 bytes < 2 ^ 64
from_le_bytes-fits bytes fits =
    omega (arith, fits 0, fits 1, fits 2, fits 3, fits 4, fits 5, fits 6, fits 7)

-- the hash of 32 bytes
pub IsHash-hash_of : (bytes : List ℕ) → IsHashBytes bytes → IsHash (hash_of bytes)
unfolding hash_of
IsHash-hash_of bytes h =
    let fits = fits_at bytes h.1 in (
      refl,
      All-map (λ w. w < 2 ^ 64) (λ k. from_le_bytes w64 (drop (8 * k) bytes)) (0 ∷ 1 ∷ 2 ∷ 3 ∷ [])
          (λ k d inside. from_le_bytes-fits (drop (8 * slice_index_or (0 ∷ 1 ∷ 2 ∷ 3 ∷ []) k d) bytes) (rest_fits bytes _ fits)),
    )

-- ---- The text

-- the bytes in the order of the text are bytes
text_bytes-fits : (words : List ℕ) → IsBytes (text_bytes words)
text_bytes-fits words = fits_at (text_bytes words) (All-text_bytes words)

-- the text of a hash is 64 digits in lower case
pub IsHexText-hex_text : (words : List ℕ) → IsHash words
    → IsHexText (hex_text words) × (str_to_ascii_lowercase (hex_text words) ≡ hex_text words)
IsHexText-hex_text words h =
    let text = encode_lower-text_bytes words h.0 in
    let len : length (text_bytes words) ≡ 32 = rw (text_bytes-four words h.0) refl in
    let read = decode_sized-encode_lower (text_bytes words) 32 len (text_bytes-fits words) in
    let digits = IsHexText-decoded (encode_lower (text_bytes words)) (text_bytes words) read in
    (rw text at digits.0, rw text at (sym digits.1))

-- two hashes of one text are one
pub hex_text-injective : (a b : List ℕ) → IsHash a → IsHash b → hex_text a ≡ hex_text b → a ≡ b
hex_text-injective a b ha hb e =
    let texts : encode_lower (text_bytes a) ≡ encode_lower (text_bytes b) = encode_lower-text_bytes a ha.0 ∙ e ∙ sym (encode_lower-text_bytes b hb.0) in
    let back_a = decode_of-encode_lower (text_bytes a) (text_bytes-fits a) in
    let back_b = decode_of-encode_lower (text_bytes b) (text_bytes-fits b) in
    let bytes : text_bytes a ≡ text_bytes b = decode_of-same (encode_lower (text_bytes a)) _ _ back_a (ap decode_of texts ∙ back_b) in
    sym (be_words-text_bytes a ha) ∙ ap be_words bytes ∙ be_words-text_bytes b hb

from_be_bytes-fits : (bytes : List ℕ) → ((i : ℕ) → slice_index bytes i < 256) → from_be_bytes w64 bytes < 2 ^ 64
from_be_bytes-fits bytes fits =
    omega (arith, fits 0, fits 1, fits 2, fits 3, fits 4, fits 5, fits 6, fits 7)

-- 64 hex digits are those of a hash
pub hash_of_digits : (digits : List ℕ) → IsHexText digits → (words : List ℕ) × IsHash words × (hex_text words ≡ str_to_ascii_lowercase digits)
unfolding be_words
hash_of_digits digits h = choose (decode_sized digits 32) refl
  where
    choose : (r : Result (List ℕ) FromHexError) → decode_sized digits 32 ≡ r
        → (words : List ℕ) × IsHash words × (hex_text words ≡ str_to_ascii_lowercase digits)
    choose (Err e) refused = absurd (IsHexText-refused digits e refused h)
    choose (Ok bytes) read =
        let long = decode_sized-ok digits 32 bytes read in
        let pairs = sym (decode_sized-pairs digits 32 (omega (arith, long)) (omega (arith, long))) ∙ read in
        let (_, twice, fits) = decode_pairs-ok 0 digits bytes pairs in
        let len : length bytes ≡ 32 = omega (arith, twice, long) in (
          be_words bytes,
          (
            refl,
            All-map (λ w. w < 2 ^ 64) (λ k. from_be_bytes w64 (drop (8 * k) bytes)) (0 ∷ 1 ∷ 2 ∷ 3 ∷ [])
                (λ k d inside. from_be_bytes-fits (drop (8 * slice_index_or (0 ∷ 1 ∷ 2 ∷ 3 ∷ []) k d) bytes) (rest_fits bytes _ fits)),
          ),
          hex_text-be_words bytes len fits ∙ (IsHexText-decoded digits bytes read).1,
        )
