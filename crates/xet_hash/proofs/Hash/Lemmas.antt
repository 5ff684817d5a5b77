-- A hash word by word: its four words, its 32 bytes, and the way back.
use Rattle.std.proofs.Common.{◌≡◌, ℕ, ◌+◌, ◌*◌, ◌<◌, ◌≤◌, List, [], ◌∷◌, ◌++◌, length, take, drop, slice_index, refl, sym, ap, inl, inr, ◌∙◌, arith, lit<}
use Rattle.std.specs.Int.{w64, to_le_bytes, from_le_bytes, to_be_bytes, from_be_bytes}
use Rattle.std.specs.List.{flat_map}
use Rattle.std.proofs.lemmas.Bool.{cases_lt}
use Rattle.std.proofs.lemmas.List.{drop-drop, drop_all, get_or-drop, get_or-take, get_or_past, length-drop, length-take, length-take-le, take-append-drop}
use Rattle.std.proofs.lemmas.List.FromFn.{fill_by_all}
use Rattle.std.proofs.lemmas.Nat.{be_bytes_8, le_bytes_8}
use Rattle.xet_hash.specs.Hash.{bytes_of}

-- a list of four is its elements
pub four_words : (words : List ℕ) → length words ≡ 4
    → words ≡ slice_index words 0 ∷ slice_index words 1 ∷ slice_index words 2 ∷ slice_index words 3 ∷ []
four_words words h = fill_by_all (λ k. slice_index words k) words 4 0 h (λ k inside. refl)

-- the bytes of a hash, word by word
pub bytes_of-four : (words : List ℕ) → length words ≡ 4
    → bytes_of words
    ≡ to_le_bytes w64 (slice_index words 0) ++ (to_le_bytes w64 (slice_index words 1)
    ++ (to_le_bytes w64 (slice_index words 2) ++ to_le_bytes w64 (slice_index words 3)))
unfolding bytes_of
bytes_of-four words h = ap bytes_of (four_words words h)

-- ---- Bytes from words and back

-- eight bytes from a place on, and what is left
piece : (n : ℕ) (bytes : List ℕ) → take 8 (drop n bytes) ++ drop (n + 8) bytes ≡ drop n bytes
piece n bytes =
    ap (λ (l : List ℕ). take 8 (drop n bytes) ++ l) (sym (drop-drop 8 n bytes)) ∙ take-append-drop 8 (drop n bytes)

-- 32 bytes are four times eight
four_pieces : (bytes : List ℕ) → length bytes ≡ 32
    → flat_map (λ k. take 8 (drop (8 * k) bytes)) (0 ∷ 1 ∷ 2 ∷ 3 ∷ []) ≡ bytes
four_pieces bytes h =
    let end : [] ≡ drop 32 bytes = sym (drop_all 32 bytes (omega arith)) in
    rw (end, piece 24 bytes, piece 16 bytes, piece 8 bytes) (piece 0 bytes)

-- the first eight bytes fit
front_fits : (bytes : List ℕ) → ((i : ℕ) → slice_index bytes i < 256) → (i : ℕ) → slice_index (take 8 bytes) i < 256
front_fits bytes fits i =
    elim (cases_lt i 8) [
      | inl inside ↦ rw (get_or-take 8 bytes i 0 inside) (fits i)
      | inr past ↦
          let end : length (take 8 bytes) ≤ i = omega (arith, length-take 8 bytes) in
          rw (get_or_past (take 8 bytes) i 0 end) (omega arith)
    ]

-- the first eight bytes by their places
front_at : (bytes : List ℕ) (i : ℕ) → i < 8 → slice_index bytes i ≡ slice_index (take 8 bytes) i
front_at bytes i h = sym (get_or-take 8 bytes i 0 h)

-- a word is read from the first eight bytes
from_le_bytes-front : (bytes : List ℕ) → from_le_bytes w64 bytes ≡ from_le_bytes w64 (take 8 bytes)
from_le_bytes-front bytes =
    let at = front_at bytes in
    rw (at 0 (lit< tt), at 1 (lit< tt), at 2 (lit< tt), at 3 (lit< tt), at 4 (lit< tt), at 5 (lit< tt), at 6 (lit< tt), at 7 (lit< tt))

from_be_bytes-front : (bytes : List ℕ) → from_be_bytes w64 bytes ≡ from_be_bytes w64 (take 8 bytes)
from_be_bytes-front bytes =
    let at = front_at bytes in
    rw (at 0 (lit< tt), at 1 (lit< tt), at 2 (lit< tt), at 3 (lit< tt), at 4 (lit< tt), at 5 (lit< tt), at 6 (lit< tt), at 7 (lit< tt))

-- a word that was read from its eight bytes
pub le_word : (bytes eight : List ℕ) (k word : ℕ) → eight ≡ take 8 (drop (8 * k) bytes) → word ≡ from_le_bytes w64 eight
    → word ≡ from_le_bytes w64 (drop (8 * k) bytes)
le_word bytes eight k word piece read = read ∙ ap (from_le_bytes w64) piece ∙ sym (from_le_bytes-front (drop (8 * k) bytes))

pub be_word : (bytes eight : List ℕ) (k word : ℕ) → eight ≡ take 8 (drop (8 * k) bytes) → word ≡ from_be_bytes w64 eight
    → word ≡ from_be_bytes w64 (drop (8 * k) bytes)
be_word bytes eight k word piece read = read ∙ ap (from_be_bytes w64) piece ∙ sym (from_be_bytes-front (drop (8 * k) bytes))

-- four equal words make equal hashes
pub same_four : (a b c d x y z w : ℕ) → a ≡ x → b ≡ y → c ≡ z → d ≡ w → a ∷ b ∷ c ∷ d ∷ [] ≡ x ∷ y ∷ z ∷ w ∷ []
same_four a b c d x y z w p q r s = cc

-- a word that was read and written again
to_le_bytes-front : (bytes : List ℕ) → 8 ≤ length bytes → ((i : ℕ) → slice_index bytes i < 256)
    → to_le_bytes w64 (from_le_bytes w64 bytes) ≡ take 8 bytes
to_le_bytes-front bytes room fits =
    le_bytes_8 (take 8 bytes) (from_le_bytes w64 bytes) (length-take-le 8 bytes room) (front_fits bytes fits) (from_le_bytes-front bytes)

to_be_bytes-front : (bytes : List ℕ) → 8 ≤ length bytes → ((i : ℕ) → slice_index bytes i < 256)
    → to_be_bytes w64 (from_be_bytes w64 bytes) ≡ take 8 bytes
to_be_bytes-front bytes room fits =
    be_bytes_8 (take 8 bytes) (from_be_bytes w64 bytes) (length-take-le 8 bytes room) (front_fits bytes fits) (from_be_bytes-front bytes)

-- two functions that agree below 4
same_on_four : (f g : ℕ → List ℕ) → ((k : ℕ) → k < 4 → f k ≡ g k)
    → flat_map f (0 ∷ 1 ∷ 2 ∷ 3 ∷ []) ≡ flat_map g (0 ∷ 1 ∷ 2 ∷ 3 ∷ [])
same_on_four f g h = rw (h 0 (lit< tt), h 1 (lit< tt), h 2 (lit< tt), h 3 (lit< tt))

-- the bytes from number 8 * k on are enough for a word, and the bytes from any place on fit
rest_room : (bytes : List ℕ) (k : ℕ) → length bytes ≡ 32 → k < 4 → 8 ≤ length (drop (8 * k) bytes)
rest_room bytes k len h = omega (arith, length-drop (8 * k) bytes)

pub rest_fits : (bytes : List ℕ) (n : ℕ) → ((i : ℕ) → slice_index bytes i < 256) → (i : ℕ) → slice_index (drop n bytes) i < 256
rest_fits bytes n fits i = rw (get_or-drop n bytes i 0) (fits (n + i))

-- 32 bytes, read as words and written again, in either order
pub le_words_written : (bytes : List ℕ) → length bytes ≡ 32 → ((i : ℕ) → slice_index bytes i < 256)
    → flat_map (λ k. to_le_bytes w64 (from_le_bytes w64 (drop (8 * k) bytes))) (0 ∷ 1 ∷ 2 ∷ 3 ∷ []) ≡ bytes
le_words_written bytes len fits =
    same_on_four _ _
    (λ k h. to_le_bytes-front (drop (8 * k) bytes) (rest_room bytes k len h) (rest_fits bytes (8 * k) fits))
    ∙ four_pieces bytes len

pub be_words_written : (bytes : List ℕ) → length bytes ≡ 32 → ((i : ℕ) → slice_index bytes i < 256)
    → flat_map (λ k. to_be_bytes w64 (from_be_bytes w64 (drop (8 * k) bytes))) (0 ∷ 1 ∷ 2 ∷ 3 ∷ []) ≡ bytes
be_words_written bytes len fits =
    same_on_four _ _
    (λ k h. to_be_bytes-front (drop (8 * k) bytes) (rest_room bytes k len h) (rest_fits bytes (8 * k) fits))
    ∙ four_pieces bytes len
