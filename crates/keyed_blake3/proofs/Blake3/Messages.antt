-- Messages side by side, each in a chunk of its own.
use Rattle.std.proofs.Common.{◌≡◌, ℕ, suc, zero, ◌+◌, ◌-◌, ◌*◌, ◌^◌, ◌<◌, ◌≤◌, List, [], ◌∷◌, ◌++◌, Bool, false, cond, length, map, take, drop, get_or, replicate, eqb, Bor, inl, inr, sym, ap, subst, ◌∙◌, arith, append_assoc, append-nil, length-append, length-drop, w32, ◌⊎◌}
use Rattle.std.proofs.lemmas.Bool.{cases_lt}
use Rattle.std.proofs.lemmas.List.{drop_at, drop-append-le, drop-drop, drop-replicate, get_or-drop, get_or-map, get_or-take, length-map, length-replicate, length-take-le, nil_from_length, replicate-append-replicate, take_at, take-append-le, take-replicate}
use Rattle.std.proofs.Math.Seq.{take-append-add}
use Rattle.std.proofs.lemmas.Simd.{get_or-replicate, get_or-sel_l, get_or-zip2, length-zip2, tops_compared}
use Rattle.std.specs.List.{flat_map}
use Rattle.keyed_blake3.specs.Blake3.{block, blocks_before_last}
use Rattle.keyed_blake3.specs.Steps.Lanes.{chunk_at}
use Rattle.keyed_blake3.specs.Steps.Messages.{AreShort}
use lib.Lanes.{sel_l, top, zip2}
use mir.Val.{bits, hbits}

-- what is read past the last message
abbrev pub none : Bor (List ℕ)
none = record { ref_ptr = (0, 0); now = [] }

pub message_at : (messages : List (Bor (List ℕ))) (j : ℕ) → j < length messages
    → get_or (map (λ m. m.now) messages) j [] ≡ (get_or messages j none).now
message_at messages j fits = get_or-map (λ m. m.now) messages j none [] fits

pub short_at : (messages : List (Bor (List ℕ))) (j : ℕ) → AreShort (map (λ m. m.now) messages) → j < length messages
    → length (get_or messages j none).now ≤ 1024
short_at messages j short fits = rw (message_at messages j fits) at (short j (omega (arith, length-map messages (λ (m : Bor (List ℕ)). m.now))))

-- what holds of the first n messages and of the next holds of one more
pub each_more : (P : List ℕ → Type 0) (messages : List (Bor (List ℕ))) (n : ℕ) → n < length messages
    → ((i : ℕ) → i < n → P (get_or (map (λ m. m.now) messages) i [])) → P (get_or messages n none).now
    → (i : ℕ) → i < n + 1 → P (get_or (map (λ m. m.now) messages) i [])
each_more P messages n fits before next i h = elim (cases_lt i n) [
  | inl less ↦ before i less
  | inr past ↦
      let same : i ≡ n = omega arith in
      subst P (sym (ap (λ (k : ℕ). get_or (map (λ m. m.now) messages) k []) same ∙ message_at messages n fits)) next
]

-- a lane of the words that are chosen where x has the word n
pub chosen_at : (l n j : ℕ) (x is_n not_n result : List ℕ) → length x ≡ l → length is_n ≡ l → length not_n ≡ l
    → result ≡ sel_l (map (top (hbits w32)) (zip2 (λ a b. cond (eqb a b) (2 ^ bits w32 - 1) 0) x (replicate l n))) is_n not_n
    → j < l → get_or result j 0 ≡ cond (eqb (get_or x j 0) n) (get_or is_n j 0) (get_or not_n j 0)
chosen_at l n j x is_n not_n result hx hyes hno is h =
    let masks : List Bool = zip2 eqb x (replicate l n) in
    let size : length masks ≡ l = length-zip2 eqb x (replicate l n) (hx ∙ sym (length-replicate l n)) ∙ hx in
    let mask : get_or masks j false ≡ eqb (get_or x j 0) n =
    get_or-zip2 eqb x (replicate l n) j 0 0 false (rw hx h) (rw (length-replicate l n) h) ∙ ap (eqb (get_or x j 0)) (get_or-replicate l j n 0 h) in
    ap (λ (y : List ℕ). get_or y j 0) (is ∙ ap (λ (ms : List Bool). sel_l ms is_n not_n) (tops_compared w32 eqb x (replicate l n)))
    ∙ get_or-sel_l masks is_n not_n j 0 (rw size h) (rw hyes h) (rw hno h) ∙ ap (λ (b : Bool). cond b (get_or is_n j 0) (get_or not_n j 0)) mask

-- zeros past the 64th byte are left out
padded_alike : (x : List ℕ) (n : ℕ) → 64 ≤ n → take 64 (x ++ replicate n 0) ≡ take 64 (x ++ replicate 64 0)
padded_alike x n more = elim (cases_lt (length x) 64) [
  | inl short ↦
      let size : length x + (64 - length x) ≡ 64 = omega arith in
      let end : (k : ℕ) → 64 ≤ k → take 64 (x ++ replicate k 0) ≡ x ++ replicate (64 - length x) 0 = λ k long.
      rw size at (take-append-add x (replicate k 0) (64 - length x)) ∙ ap (λ (y : List ℕ). x ++ y) (take-replicate (64 - length x) k 0 (omega arith)) in
      end n more ∙ sym (end 64 (omega arith))
  | inr long ↦ take-append-le 64 x (replicate n 0) long ∙ sym (take-append-le 64 x (replicate 64 0) long)
]

-- a message that zeros follow has the blocks of the message
pub block_padded : (m : List ℕ) (n : ℕ) → length m ≤ 1024 → n ≤ blocks_before_last m
    → block (m ++ drop (length m) (replicate 1024 0)) n ≡ block m n
block_padded m n short within =
    let rest : List ℕ = drop (64 * n) m in
    let more : ℕ = 1024 - length m in
    let zeros : drop (length m) (replicate {A = ℕ} 1024 0) ≡ replicate more 0 = drop-replicate (length m) 1024 0 in
    let joined : drop (64 * n) (m ++ replicate more 0) ++ replicate 64 0 ≡ rest ++ replicate (more + 64) 0 =
    ap (λ (x : List ℕ). x ++ replicate 64 0) (drop-append-le (64 * n) m (replicate more 0) (omega arith))
    ∙ append_assoc rest (replicate more 0) (replicate 64 0) ∙ ap (λ (x : List ℕ). rest ++ x) (replicate-append-replicate more 64 0) in
    ap (λ (x : List ℕ). take 64 (drop (64 * n) (m ++ x) ++ replicate 64 0)) zeros ∙ ap (take 64) joined ∙ padded_alike rest (more + 64) (omega arith)

-- nor does it lose them if zeros follow that fill up its last block, or all that is left
pub block_filled : (m rest : List ℕ) (k n : ℕ) → (64 ≤ k) ⊎ (length rest ≡ 0) → n ≤ blocks_before_last m
    → block ((m ++ replicate k 0) ++ rest) n ≡ block m n
block_filled m rest k n enough within =
    let left : List ℕ = drop (64 * n) m in
    let zeros : List ℕ = replicate k 0 in
    let dropped : drop (64 * n) ((m ++ zeros) ++ rest) ≡ left ++ (zeros ++ rest) =
    ap (drop (64 * n)) (append_assoc m zeros rest) ∙ drop-append-le (64 * n) m (zeros ++ rest) (omega arith) in
    ap (λ (x : List ℕ). take 64 (x ++ replicate 64 0)) dropped
    ∙ elim enough [
      | inl long ↦
          let size : 64 ≤ length (left ++ zeros) = omega (arith, length-append left zeros, length-replicate {A = ℕ} k 0) in
          let regrouped : (left ++ (zeros ++ rest)) ++ replicate 64 0 ≡ (left ++ zeros) ++ (rest ++ replicate 64 0) =
          ap (λ (x : List ℕ). x ++ replicate 64 0) (sym (append_assoc left zeros rest)) ∙ append_assoc (left ++ zeros) rest (replicate 64 0) in
          ap (take 64) regrouped ∙ take-append-le 64 (left ++ zeros) (rest ++ replicate 64 0) size ∙ padded_alike left k long
      | inr empty ↦
          let gone : rest ≡ [] = nil_from_length rest empty in
          let regrouped : (left ++ (zeros ++ rest)) ++ replicate 64 0 ≡ left ++ replicate (k + 64) 0 =
          ap (λ (x : List ℕ). (left ++ x) ++ replicate 64 0) (ap (λ (x : List ℕ). zeros ++ x) gone ∙ append-nil zeros)
          ∙ append_assoc left zeros (replicate 64 0) ∙ ap (λ (x : List ℕ). left ++ x) (replicate-append-replicate k 64 0) in
          ap (take 64) regrouped ∙ padded_alike left (k + 64) (omega arith)
    ]

-- the first chunks of rows of 1024 bytes
pub chunk_at_row : (rows : List (List ℕ)) (j : ℕ) → ((i : ℕ) → i < length rows → length (get_or rows i []) ≡ 1024) → j < length rows
    → chunk_at j (flat_map (λ x. x) rows) ≡ get_or rows j []
chunk_at_row [] j sizes h = absurd (omega arith)
chunk_at_row (row ∷ rows) zero sizes h = take_at row (flat_map (λ x. x) rows) 1024 (sizes 0 h)
chunk_at_row (row ∷ rows) (suc j) sizes h =
    let whole : List ℕ = row ++ flat_map (λ x. x) rows in
    let place : 1024 * suc j ≡ 1024 + 1024 * j = omega arith in
    ap (take 1024) (ap (λ (n : ℕ). drop n whole) place ∙ sym (drop-drop (1024 * j) 1024 whole)
    ∙ ap (drop (1024 * j)) (drop_at row (flat_map (λ x. x) rows) 1024 (sizes 0 (omega arith))))
    ∙ chunk_at_row rows j (λ i fits. sizes (suc i) (omega arith)) (omega arith)

-- the messages from one on, up to another
pub message_in : (messages : List (Bor (List ℕ))) (start count j : ℕ) → start + count ≤ length messages → j < count
    → get_or (map (λ m. m.now) (take count (drop start messages))) j [] ≡ get_or (map (λ m. m.now) messages) (start + j) []
message_in messages start count j within h =
    let part : List (Bor (List ℕ)) = take count (drop start messages) in
    let size : length part ≡ count = length-take-le count (drop start messages) (omega (arith, length-drop start messages)) in
    message_at part j (rw size h) ∙ ap (λ (m : Bor (List ℕ)). m.now) (get_or-take count (drop start messages) j none h ∙ get_or-drop start messages j none)
    ∙ sym (message_at messages (start + j) (omega arith))
