-- The base64 text of a hash: exactly these texts decode to 32 bytes.
use Rattle.std.proofs.Common.{◌≡◌, ◌≢◌, ℕ, ◌<◌, List, length, refl, sym, ap, ◌∙◌, Ok, Err}
use Rattle.std.proofs.lemmas.List.Elements.{All-from_get_or}
use Rattle.std.proofs.lemmas.List.{append-nil}
use Rattle.base64.specs.Engines.{url_safe_no_pad}
use Rattle.base64.specs.GeneralPurpose.{IsBytes, IsStrict, decode_of, encode_of, engine_symbols}
use Rattle.base64.specs.Rfc4648.{encode_symbols, unpadded_len}
use Rattle.base64.specs.declared.decode.DecodeError.{DecodeError}
use Rattle.base64.proofs.EngineFacts.{decode_of-encode_of}
use Rattle.base64.proofs.RoundTrip.{length-encode_symbols}
use Rattle.xet_hash.specs.Hash.{bytes_of, hash_of, IsHash, IsHashBytes}
use Rattle.xet_hash.specs.HashForms.{base64_text}
use Rattle.xet_hash.proofs.Hash.Laws.{IsHashBytes-bytes_of, bytes_of-hash_of, fits_at, hash_of-bytes_of}

-- the engine takes exactly what it writes
pub strict : IsStrict url_safe_no_pad
strict = (refl, refl)

-- the bytes of a hash by their places
IsBytes-bytes_of : (words : List ℕ) → IsHash words → IsBytes (bytes_of words)
IsBytes-bytes_of words h = fits_at (bytes_of words) (IsHashBytes-bytes_of words h).1

pub IsHashBytes-from_bytes : (bytes : List ℕ) → length bytes ≡ 32 → IsBytes bytes → IsHashBytes bytes
IsHashBytes-from_bytes bytes len fits = (len, All-from_get_or (λ byte. byte < 256) bytes 0 (λ i inside. fits i))

-- the text of a hash decodes to its bytes
pub decode_of-base64_text : (words : List ℕ) → IsHash words
    → decode_of url_safe_no_pad (base64_text words) ≡ Ok (bytes_of words)
unfolding base64_text
decode_of-base64_text words h = decode_of-encode_of url_safe_no_pad (bytes_of words) refl (IsBytes-bytes_of words h)

-- the text of the hash of 32 bytes is their text
pub base64_text-hash_of : (bytes : List ℕ) → IsHashBytes bytes → base64_text (hash_of bytes) ≡ encode_of url_safe_no_pad bytes
unfolding base64_text
base64_text-hash_of bytes h = ap (encode_of url_safe_no_pad) (bytes_of-hash_of bytes h)

-- a text that decodes to some bytes is that of no hash but theirs
pub decoded_is_hash : (text bytes words : List ℕ) → decode_of url_safe_no_pad text ≡ Ok bytes → IsHash words
    → base64_text words ≡ text → bytes ≡ bytes_of words
decoded_is_hash text bytes words decoded h e =
    let back : decode_of url_safe_no_pad text ≡ Ok (bytes_of words) = rw e at (decode_of-base64_text words h) in
    cc (sym decoded ∙ back)

-- a text that does not decode is that of no hash
pub undecoded_is_no_hash : (text words : List ℕ) (error : DecodeError) → decode_of url_safe_no_pad text ≡ Err error
    → IsHash words → base64_text words ≢ text
undecoded_is_no_hash text words error refused h e =
    let back : decode_of url_safe_no_pad text ≡ Ok (bytes_of words) = rw e at (decode_of-base64_text words h) in
    cc (sym refused ∙ back)

-- two hashes of one text are one
pub base64_text-injective : (a b : List ℕ) → IsHash a → IsHash b → base64_text a ≡ base64_text b → a ≡ b
base64_text-injective a b ha hb e =
    let bytes = decoded_is_hash (base64_text b) (bytes_of b) a (decode_of-base64_text b hb) ha e in
    sym (hash_of-bytes_of a ha) ∙ ap hash_of (sym bytes) ∙ hash_of-bytes_of b hb

-- 32 bytes take 43 characters
pub length-base64_text : (words : List ℕ) → IsHash words → length (base64_text words) ≡ 43
unfolding base64_text
length-base64_text words h =
    ap length (append-nil (encode_symbols (engine_symbols url_safe_no_pad) (bytes_of words)))
    ∙ length-encode_symbols (engine_symbols url_safe_no_pad) (bytes_of words)
    ∙ ap unpadded_len (IsHashBytes-bytes_of words h).0
