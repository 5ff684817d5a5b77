-- Hashes and their numbers, in lists side by side, one more of each.
use Rattle.std.proofs.Common.{arith, ◌≡◌, ◌+◌, ◌<◌, ◌≤◌, ℕ, zero, suc, List, [], ◌∷◌, ◌++◌, length, take, get_or, refl, sym, ap, ◌∙◌, add-one, append_assoc, slice_set}
use Rattle.std.proofs.lemmas.Grind.{take-set_at}
use Rattle.std.proofs.lemmas.List.{append-nil, length-map, length-take, take_all, take_more}
use Rattle.std.proofs.lemmas.Slice.Zip.{length-zip}
use Rattle.hash_numbers.specs.Index.{Entry}
use Rattle.yurewha_c.specs.HashNumbers.{pairs_of}
use Rattle.yurewha_c.specs.Pieces.{words_of}
use Rattle.yurewha_c.specs.declared.hash.Hash.{Hash}

pairs-suc : (hashes : List Hash) (numbers : List ℕ) (i : ℕ) (d : Hash) (n : ℕ) → i < length hashes → i < length numbers
    → take (suc i) (pairs_of hashes numbers) ≡ take i (pairs_of hashes numbers) ++ ((get_or hashes i d).words, get_or numbers i n) ∷ []
pairs-suc [] numbers i d n h k = absurd (omega (arith, h))
pairs-suc (hash ∷ hashes) [] i d n h k = absurd (omega (arith, k))
pairs-suc (hash ∷ hashes) (number ∷ numbers) zero d n h k = refl
pairs-suc (hash ∷ hashes) (number ∷ numbers) (suc i) d n h k =
    ap (λ (rest : List Entry). (hash.words, number) ∷ rest) (pairs-suc hashes numbers i d n (omega (arith, h)) (omega (arith, k)))

-- one more pair
pub pairs-more : (hashes : List Hash) (numbers : List ℕ) (i : ℕ) (d : Hash) (n : ℕ) → i < length hashes → i < length numbers
    → take (i + 1) (pairs_of hashes numbers) ≡ take i (pairs_of hashes numbers) ++ ((get_or hashes i d).words, get_or numbers i n) ∷ []
pairs-more hashes numbers i d n h k = ap (λ (count : ℕ). take count (pairs_of hashes numbers)) (add-one i) ∙ pairs-suc hashes numbers i d n h k

-- all pairs
pub pairs-all : (hashes : List Hash) (numbers : List ℕ) (i : ℕ) → length hashes ≤ i → take i (pairs_of hashes numbers) ≡ pairs_of hashes numbers
pairs-all hashes numbers i past =
    let count : length (pairs_of hashes numbers) ≤ i = omega (arith, length-zip (words_of hashes) numbers, length-map hashes (λ (hash : Hash). hash.words)) in
    take_all i (pairs_of hashes numbers) count

-- one more hash and one more number
pairs-push : (hashes : List Hash) (numbers : List ℕ) (hash : Hash) (number : ℕ) → length numbers ≡ length hashes
    → pairs_of (hashes ++ hash ∷ []) (numbers ++ number ∷ []) ≡ pairs_of hashes numbers ++ (hash.words, number) ∷ []
pairs-push [] [] hash number e = refl
pairs-push [] (first ∷ numbers) hash number e = absurd (omega (arith, e))
pairs-push (first ∷ hashes) [] hash number e = absurd (omega (arith, e))
pairs-push (first ∷ hashes) (one ∷ numbers) hash number e =
    ap (λ (rest : List Entry). (first.words, one) ∷ rest) (pairs-push hashes numbers hash number (omega (arith, e)))

-- one more pair is written, and the rest is left
pub pairs-written : (hashes : List Hash) (numbers : List ℕ) (i : ℕ) (hash : Hash) (number : ℕ) (rest : List Entry) → i < length hashes → i < length numbers
    → pairs_of (take (i + 1) (slice_set hashes i hash)) (take (i + 1) (slice_set numbers i number)) ++ rest
    ≡ pairs_of (take i hashes) (take i numbers) ++ (hash.words, number) ∷ rest
pairs-written hashes numbers i hash number rest h k =
    ap (λ (front : List Hash). pairs_of front (take (i + 1) (slice_set numbers i number)) ++ rest) (take-set_at hashes i (i + 1) hash refl h)
    ∙ ap (λ (front : List ℕ). pairs_of (take i hashes ++ hash ∷ []) front ++ rest) (take-set_at numbers i (i + 1) number refl k)
    ∙ ap (λ (front : List Entry). front ++ rest)
    (pairs-push (take i hashes) (take i numbers) hash number (omega (arith, length-take i hashes, length-take i numbers)))
    ∙ append_assoc (pairs_of (take i hashes) (take i numbers)) ((hash.words, number) ∷ []) rest

-- the first entries are written, and one more is
pub entries-written : (entries : List Entry) (hashes : List Hash) (numbers : List ℕ) (i : ℕ) (entry : Entry) (hash : Hash) → i < length entries → i < length hashes → i < length numbers
    → entry ≡ get_or entries i entry → hash.words ≡ entry.0 → pairs_of (take i hashes) (take i numbers) ≡ take i entries
    → pairs_of (take (i + 1) (slice_set hashes i hash)) (take (i + 1) (slice_set numbers i entry.1)) ≡ take (i + 1) entries
entries-written entries hashes numbers i entry hash inside h k is words written =
    sym (append-nil (pairs_of (take (i + 1) (slice_set hashes i hash)) (take (i + 1) (slice_set numbers i entry.1))))
    ∙ pairs-written hashes numbers i hash entry.1 [] h k
    ∙ ap (λ (w : List ℕ). pairs_of (take i hashes) (take i numbers) ++ (w, entry.1) ∷ []) words
    ∙ ap (λ (front : List Entry). front ++ entry ∷ []) written
    ∙ ap (λ (one : Entry). take i entries ++ one ∷ []) is
    ∙ sym (take_more entries i entry inside)

-- all entries are written
pub entries-all : (entries : List Entry) (hashes : List Hash) (numbers : List ℕ) (i : ℕ) → length entries ≤ i → length hashes ≡ length entries → length numbers ≡ length entries
    → pairs_of (take i hashes) (take i numbers) ≡ take i entries → pairs_of hashes numbers ≡ entries
entries-all entries hashes numbers i past h k written =
    ap (λ (l : List Hash). pairs_of l numbers) (sym (take_all i hashes (omega (arith, past, h))))
    ∙ ap (λ (l : List ℕ). pairs_of (take i hashes) l) (sym (take_all i numbers (omega (arith, past, k))))
    ∙ written
    ∙ take_all i entries past
