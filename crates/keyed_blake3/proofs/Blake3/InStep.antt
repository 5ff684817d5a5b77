-- The round in step, and the ends of a compression.
use Rattle.std.proofs.Common.{◌≡◌, ℕ, ◌/◌, ◌%◌, ◌^◌, ◌<◌, List, [], ◌∷◌, ◌++◌, length, map, get_or, bit_xor, refl, ap, ◌∙◌}
use Rattle.std.proofs.lemmas.List.{get_or-map as get_or-map-at}
use Rattle.std.proofs.lemmas.Simd.{Each1-get_or}
use Rattle.std.specs.Int.{rotate_right, w32}
use Rattle.keyed_blake3.specs.Blake3.{add32, first_state, folded, round}
use Rattle.keyed_blake3.specs.Steps.LaneRows.{row_at}
use Rattle.keyed_blake3.specs.Steps.Lanes.{AreFull, lane}
use Rattle.keyed_blake3.specs.Steps.Rows.{half_columns}
use Rattle.keyed_blake3.specs.declared.compression.lane_rows.Row.{Row}
use Rattle.keyed_blake3.proofs.Blake3.Lanes.{both_at, both_full, lane_at}
use Rattle.keyed_blake3.proofs.Blake3.Rows.{columns, diagonals, folded-rows, half_columns-rows}
use lib.Lanes.{zip2}

-- ---- half of G on each column

-- a row whose words are made of those of two rows, lane by lane
pub both_row : {l : ℕ} → (f : ℕ → ℕ → ℕ) (j : ℕ) (x y : Row l) (w0 w1 w2 w3 : List ℕ) → j < l
    → w0 ≡ zip2 f x.w0 y.w0 → w1 ≡ zip2 f x.w1 y.w1 → w2 ≡ zip2 f x.w2 y.w2 → w3 ≡ zip2 f x.w3 y.w3
    → get_or w0 j 0 ∷ get_or w1 j 0 ∷ get_or w2 j 0 ∷ get_or w3 j 0 ∷ [] ≡ zip2 f (row_at j x) (row_at j y)
both_row f j x y w0 w1 w2 w3 h e0 e1 e2 e3 =
    rw (
      e0,
      e1,
      e2,
      e3,
      both_at f j x.w0 y.w0 h x.full.0 y.full.0,
      both_at f j x.w1 y.w1 h x.full.1 y.full.1,
      both_at f j x.w2 y.w2 h x.full.2 y.full.2,
      both_at f j x.w3 y.w3 h x.full.3 y.full.3,
    ) refl

-- its words have all lanes
pub both_row_full : {l : ℕ} → (f : ℕ → ℕ → ℕ) (x y : Row l) (w0 w1 w2 w3 : List ℕ)
    → w0 ≡ zip2 f x.w0 y.w0 → w1 ≡ zip2 f x.w1 y.w1 → w2 ≡ zip2 f x.w2 y.w2 → w3 ≡ zip2 f x.w3 y.w3
    → (length w0 ≡ l) × (length w1 ≡ l) × (length w2 ≡ l) × (length w3 ≡ l)
both_row_full f x y w0 w1 w2 w3 e0 e1 e2 e3 = (
  ap length e0 ∙ both_full f x.w0 y.w0 x.full.0 y.full.0,
  ap length e1 ∙ both_full f x.w1 y.w1 x.full.1 y.full.1,
  ap length e2 ∙ both_full f x.w2 y.w2 x.full.2 y.full.2,
  ap length e3 ∙ both_full f x.w3 y.w3 x.full.3 y.full.3,
)

-- a lane of a rotated xor
pub rotated_xor_at : {l : ℕ} → (j n : ℕ) (x y z : List ℕ) → j < l → length x ≡ l → length y ≡ l → z ≡ map (λ t. rotate_right w32 t n) (zip2 bit_xor x y)
    → get_or z j 0 ≡ rotate_right w32 (bit_xor (get_or x j 0) (get_or y j 0)) n
rotated_xor_at j n x y z h hx hy is =
    ap (λ (w : List ℕ). get_or w j 0) is
    ∙ get_or-map-at (λ (t : ℕ). rotate_right w32 t n) (zip2 bit_xor x y) j 0 0 (rw (both_full bit_xor x y hx hy) h)
    ∙ ap (λ (t : ℕ). rotate_right w32 t n) (both_at bit_xor j x y h hx hy)

pub half_columns_by_steps : (a b c d x a0 a1 x1 d1 c1 x2 b1 : List ℕ) (r s : ℕ) → length a ≡ 4 → length b ≡ 4 → length c ≡ 4 → length d ≡ 4 → length x ≡ 4
    → a0 ≡ zip2 add32 a b → a1 ≡ zip2 add32 a0 x → x1 ≡ zip2 bit_xor d a1 → d1 ≡ map (λ y. rotate_right w32 y r) x1 → c1 ≡ zip2 add32 c d1
    → x2 ≡ zip2 bit_xor b c1 → b1 ≡ map (λ y. rotate_right w32 y s) x2 → a1 ++ b1 ++ c1 ++ d1 ≡ half_columns (a ++ b ++ c ++ d) x r s
half_columns_by_steps a b c d x a0 a1 x1 d1 c1 x2 b1 r s ha hb hc hd hx e0 e1 e2 e3 e4 e5 e6 =
    rw (e6, e5, e4, e3, e2, e1, e0) (half_columns-rows a b c d x r s ha hb hc hd hx)

-- ---- a round

-- the words of message vectors at a lane
abbrev pub quad : ℕ → List (List ℕ) → ℕ → ℕ → ℕ → ℕ → List ℕ
quad j m i k n p = get_or (get_or m i []) j 0 ∷ get_or (get_or m k []) j 0 ∷ get_or (get_or m n []) j 0 ∷ get_or (get_or m p []) j 0 ∷ []

-- G on the columns and then on the diagonals, with the words of a lane
pub round_in_step : (j : ℕ) (m : List (List ℕ)) (v : List ℕ)
    → diagonals (columns v
    (get_or (get_or m 0 []) j 0 ∷ get_or (get_or m 2 []) j 0 ∷ get_or (get_or m 4 []) j 0 ∷ get_or (get_or m 6 []) j 0 ∷ [])
    (get_or (get_or m 1 []) j 0 ∷ get_or (get_or m 3 []) j 0 ∷ get_or (get_or m 5 []) j 0 ∷ get_or (get_or m 7 []) j 0 ∷ []))
    (get_or (get_or m 8 []) j 0 ∷ get_or (get_or m 10 []) j 0 ∷ get_or (get_or m 12 []) j 0 ∷ get_or (get_or m 14 []) j 0 ∷ [])
    (get_or (get_or m 9 []) j 0 ∷ get_or (get_or m 11 []) j 0 ∷ get_or (get_or m 13 []) j 0 ∷ get_or (get_or m 15 []) j 0 ∷ [])
    ≡ round v (lane j m)
unfolding round columns diagonals
round_in_step j m v =
    let at = lane_at j m in
    rw (at 0, at 1, at 2, at 3, at 4, at 5, at 6, at 7, at 8, at 9, at 10, at 11, at 12, at 13, at 14, at 15) refl

-- ---- the ends of a compression

pub eight_full_of : {l : ℕ} → (a b c d e f g h : List ℕ) → length a ≡ l → length b ≡ l → length c ≡ l → length d ≡ l
    → length e ≡ l → length f ≡ l → length g ≡ l → length h ≡ l → AreFull l (a ∷ b ∷ c ∷ d ∷ e ∷ f ∷ g ∷ h ∷ [])
eight_full_of {l} a b c d e f g h ha hb hc hd he hf hg hh k w fits =
    Each1-get_or (λ (v : List ℕ). length v ≡ l) (a ∷ b ∷ c ∷ d ∷ e ∷ f ∷ g ∷ h ∷ []) k w fits (ha, (hb, (hc, (hd, (he, (hf, (hg, (hh, tt))))))))

pub folded_by_steps : (a b c d x y : List ℕ) → length a ≡ 4 → length b ≡ 4 → length c ≡ 4 → length d ≡ 4 → x ≡ zip2 bit_xor a c → y ≡ zip2 bit_xor b d
    → get_or x 0 0 ∷ get_or x 1 0 ∷ get_or x 2 0 ∷ get_or x 3 0 ∷ get_or y 0 0 ∷ get_or y 1 0 ∷ get_or y 2 0 ∷ get_or y 3 0 ∷ [] ≡ folded (a ++ b ++ c ++ d)
folded_by_steps a b c d x y ha hb hc hd ex ey = rw (ex, ey) (folded-rows a b c d ha hb hc hd)

pub first_state_by_rows : (j : ℕ) (h : List (List ℕ)) (a b c d : List ℕ) (n block_len flags : ℕ)
    → a ≡ get_or (get_or h 0 []) j 0 ∷ get_or (get_or h 1 []) j 0 ∷ get_or (get_or h 2 []) j 0 ∷ get_or (get_or h 3 []) j 0 ∷ []
    → b ≡ get_or (get_or h 4 []) j 0 ∷ get_or (get_or h 5 []) j 0 ∷ get_or (get_or h 6 []) j 0 ∷ get_or (get_or h 7 []) j 0 ∷ []
    → c ≡ 0x6A09E667 ∷ 0xBB67AE85 ∷ 0x3C6EF372 ∷ 0xA54FF53A ∷ [] → d ≡ n % 2 ^ 32 ∷ n / 2 ^ 32 ∷ block_len ∷ flags ∷ []
    → a ++ b ++ c ++ d ≡ first_state (lane j h) n block_len flags
first_state_by_rows j h a b c d n block_len flags ea eb ec ed =
    let at = lane_at j h in
    rw (ea, eb, ec, ed, at 0, at 1, at 2, at 3, at 4, at 5, at 6, at 7) refl
