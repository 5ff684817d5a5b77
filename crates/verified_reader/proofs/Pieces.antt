-- Bytes of a file in pieces.
use Rattle.std.proofs.Common.{◌≡◌, ℕ, suc, ◌+◌, ◌-◌, ◌<◌, ◌≤◌, List, [], ◌∷◌, ◌++◌, length, take, drop, get_or, sym, ap, subst, ◌∙◌, inl, inr, arith, append_assoc, append-nil, length-append}
use Rattle.std.specs.Prelude.{All, Contains, slice_index}
use Rattle.std.proofs.Math.Seq.{take-add}
use Rattle.std.proofs.lemmas.List.{drop-drop, drop_at, drop_more, take_at, drop-take, length-drop, length-take-le, take-take}
use Rattle.std.proofs.lemmas.List.Concat.{flat_map-append}
use Rattle.std.proofs.lemmas.List.Elements.{All-contains}
use Rattle.range_proof.specs.RangeProof.{Proof, begin_of, file_size_of}
use Rattle.range_proof.specs.Reading.{bytes_of_chunks}
use Rattle.range_proof.specs.Soundness.{HasChunksAt}
use Rattle.verified_reader.specs.Kept.{AreKeptAt, Chunk, HasPlace}
use Rattle.verified_reader.specs.Reader.{AreOfFile, Check, HasBytesAt, IsChecked, IsCheckedBy, IsSizeOfFile}

-- ---- Bytes

pushed : (chunks : List (List ℕ)) (chunk : List ℕ) → bytes_of_chunks (chunks ++ chunk ∷ []) ≡ bytes_of_chunks chunks ++ chunk
pushed [] chunk = append-nil chunk
pushed (first ∷ chunks) chunk =
    ap (λ (l : List ℕ). first ++ l) (pushed chunks chunk) ∙ sym (append_assoc first (bytes_of_chunks chunks) chunk)

-- a file that has a chunk at a place has its bytes there
has_bytes : (file : List (List ℕ)) (proof : Proof) (k : ℕ) (bytes : List ℕ) → HasChunksAt file proof k (bytes ∷ []) →
    HasBytesAt file (begin_of proof k) bytes
has_bytes file proof k bytes found =
    let place = begin_of proof k in
    let rest = bytes_of_chunks found.after in
    let joined : bytes_of_chunks file ≡ bytes_of_chunks found.before ++ (bytes ++ rest) =
    ap bytes_of_chunks found.parts ∙ flat_map-append (λ (b : List ℕ). b) (found.before ++ bytes ∷ []) found.after
    ∙ ap (λ (l : List ℕ). l ++ rest) (pushed found.before bytes) ∙ append_assoc (bytes_of_chunks found.before) bytes rest in
    let dropped : drop place (bytes_of_chunks file) ≡ bytes ++ rest =
    ap (drop place) joined ∙ drop_at (bytes_of_chunks found.before) (bytes ++ rest) place found.place in
    let count : length bytes ≡ (place + length bytes) - place = omega arith in
    sym (ap (take ((place + length bytes) - place)) dropped ∙ take_at bytes rest ((place + length bytes) - place) count)

-- a chunk that was checked is the file's
pub of_checked : (checks : List Check) (hash salt : List ℕ) (chunk : Chunk) → IsChecked checks hash salt chunk → AreOfFile checks hash salt chunk.begin chunk.bytes
of_checked checks hash salt chunk h = λ file is_hash.
    elim (h.checked.sound hash salt file h.checked.shows is_hash) [
      | inl found ↦ inl (subst (λ (p : ℕ). HasBytesAt file p chunk.bytes) (sym h.checked.place) (has_bytes file h.proof h.checked.number chunk.bytes found))
      | inr collision ↦ inr (record { check = record { proof = h.proof; bytes = chunk.bytes }; among = h.among; collision = collision })
    ]

-- a chunk that was checked shows the size of the file
pub of_size : (checks : List Check) (hash salt : List ℕ) (chunk : Chunk) (proof : Proof) → IsCheckedBy proof hash salt chunk →
    Contains checks (record { proof = proof; bytes = chunk.bytes }) → IsSizeOfFile checks hash salt (file_size_of proof)
of_size checks hash salt chunk proof h among = λ file is_hash.
    elim (h.sound hash salt file h.shows is_hash) [
      | inl found ↦ inl found.size
      | inr collision ↦ inr (record { check = record { proof = proof; bytes = chunk.bytes }; among = among; collision = collision })
    ]

-- bytes of the file from one of them on are the file's
pub of_rest : (checks : List Check) (hash salt : List ℕ) (place n : ℕ) (bytes : List ℕ) → n ≤ length bytes → AreOfFile checks hash salt place bytes →
    AreOfFile checks hash salt (place + n) (drop n bytes)
of_rest checks hash salt place n bytes within h = λ file is_hash.
    elim (h file is_hash) [
      | inl found ↦ inl (rest file found)
      | inr collides ↦ inr collides
    ]
  where
    rest : (file : List (List ℕ)) → HasBytesAt file place bytes → HasBytesAt file (place + n) (drop n bytes)
    rest file found =
        let whole = bytes_of_chunks file in
        let m = length bytes - n in
        let all : (place + length bytes) - place ≡ n + m = omega arith in
        let left : ((place + n) + length (drop n bytes)) - (place + n) ≡ m = omega (arith, length-drop n bytes) in
        ap (drop n) (found ∙ ap (λ (k : ℕ). take k (drop place whole)) all)
        ∙ drop-take n m (drop place whole)
        ∙ ap (take m) (drop-drop n place whole)
        ∙ ap (λ (k : ℕ). take k (drop (place + n) whole)) (sym left)

-- bytes of the file, and those after them
pub of_both : (checks : List Check) (hash salt : List ℕ) (place : ℕ) (bytes more : List ℕ) → AreOfFile checks hash salt place bytes →
    AreOfFile checks hash salt (place + length bytes) more → AreOfFile checks hash salt place (bytes ++ more)
of_both checks hash salt place bytes more h then = λ file is_hash.
    elim (h file is_hash) [
      | inl found ↦ elim (then file is_hash) [
        | inl found_too ↦ inl (both file found found_too)
        | inr collides ↦ inr collides
      ]
      | inr collides ↦ inr collides
    ]
  where
    both : (file : List (List ℕ)) → HasBytesAt file place bytes → HasBytesAt file (place + length bytes) more → HasBytesAt file place (bytes ++ more)
    both file found found_too =
        let whole = bytes_of_chunks file in
        let n = length bytes in
        let m = length more in
        let one : (place + n) - place ≡ n = omega arith in
        let two : ((place + n) + m) - (place + n) ≡ m = omega arith in
        let all : (place + length (bytes ++ more)) - place ≡ n + m = omega (arith, length-append bytes more) in
        let first : bytes ≡ take n (drop place whole) = found ∙ ap (λ (k : ℕ). take k (drop place whole)) one in
        let second : more ≡ take m (drop n (drop place whole)) =
        found_too ∙ ap (λ (k : ℕ). take k (drop (place + n) whole)) two ∙ ap (take m) (sym (drop-drop n place whole)) in
        ap (λ (l : List ℕ). l ++ more) first ∙ ap (λ (l : List ℕ). take n (drop place whole) ++ l) second
        ∙ sym (take-add n m (drop place whole)) ∙ ap (λ (k : ℕ). take k (drop place whole)) (sym all)

-- no bytes are every file's
pub of_none : (checks : List Check) (hash salt : List ℕ) (place : ℕ) → AreOfFile checks hash salt place []
of_none checks hash salt place = λ file is_hash.
    let none : (place + 0) - place ≡ 0 = omega arith in
    inl (sym (ap (λ (k : ℕ). take k (drop place (bytes_of_chunks file))) none))

-- the first of some bytes are the file's
pub of_first : (checks : List Check) (hash salt : List ℕ) (place n : ℕ) (bytes : List ℕ) → n ≤ length bytes → AreOfFile checks hash salt place bytes →
    AreOfFile checks hash salt place (take n bytes)
of_first checks hash salt place n bytes within h = λ file is_hash.
    elim (h file is_hash) [
      | inl found ↦ inl (first file found)
      | inr collides ↦ inr collides
    ]
  where
    first : (file : List (List ℕ)) → HasBytesAt file place bytes → HasBytesAt file place (take n bytes)
    first file found =
        let whole = bytes_of_chunks file in
        let most : n ≤ (place + length bytes) - place = omega (arith, within) in
        let left : (place + length (take n bytes)) - place ≡ n = omega (arith, length-take-le n bytes within) in
        ap (take n) found ∙ take-take n ((place + length bytes) - place) (drop place whole) most
        ∙ ap (λ (k : ℕ). take k (drop place whole)) (sym left)

-- ---- Bytes of several chunks

-- bytes that are kept at their places are the file's
pub of_kept : (checks : List Check) (hash salt : List ℕ) (kept : List Chunk) (place : ℕ) (bytes : List ℕ) →
    All (IsChecked checks hash salt) kept → AreKeptAt kept place bytes → AreOfFile checks hash salt place bytes
of_kept checks hash salt kept place [] all are = of_none checks hash salt place
of_kept checks hash salt kept place (byte ∷ bytes) all are =
    of_both checks hash salt place (byte ∷ []) bytes (one (are 0 (omega arith))) (of_kept checks hash salt kept (place + 1) bytes all later)
  where
    later : AreKeptAt kept (place + 1) bytes
    later k within = subst (λ (p : ℕ). (chunk : Chunk) × Contains kept chunk × HasPlace chunk p × (slice_index chunk.bytes (p - chunk.begin) ≡ slice_index bytes k))
        (omega arith) (are (suc k) (omega (arith, within)))

    one : (chunk : Chunk) × Contains kept chunk × HasPlace chunk (place + 0) × (slice_index chunk.bytes ((place + 0) - chunk.begin) ≡ byte) →
        AreOfFile checks hash salt place (byte ∷ [])
    one (chunk, among, has, is) =
        let n = place - chunk.begin in
        let begins = has.begin in
        let ends = has.end in
        let within : n < length chunk.bytes = omega (arith, begins, ends) in
        let here : chunk.begin + n ≡ place = omega (arith, begins) in
        let rest = of_rest checks hash salt chunk.begin n chunk.bytes (omega (arith, within)) (of_checked checks hash salt chunk (All-contains (IsChecked checks hash salt) kept chunk all among)) in
        let split : drop n chunk.bytes ≡ get_or chunk.bytes n 0 ∷ drop (n + 1) chunk.bytes = drop_more chunk.bytes n 0 within in
        let same : get_or chunk.bytes n 0 ≡ byte = ap (λ (k : ℕ). get_or chunk.bytes k 0) (omega (arith, begins)) ∙ is in
        let first : take 1 (drop n chunk.bytes) ≡ byte ∷ [] = ap (take 1) split ∙ ap (λ (b : ℕ). b ∷ []) same in
        subst (λ (l : List ℕ). AreOfFile checks hash salt place l) first
        (of_first checks hash salt place 1 (drop n chunk.bytes) (omega (arith, length-drop n chunk.bytes, within))
        (subst (λ (p : ℕ). AreOfFile checks hash salt p (drop n chunk.bytes)) here rest))
