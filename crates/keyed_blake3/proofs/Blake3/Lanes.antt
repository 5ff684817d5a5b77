-- Compressions side by side: each lane of the vectors is the compression of its own words.
use Rattle.std.proofs.Common.{◌≡◌, ℕ, ◌<◌, List, [], ◌∷◌, length, map, get_or, refl, sym, ap, ◌∙◌, arith}
use Rattle.std.proofs.Math.ListN.{get_or-map}
use Rattle.std.proofs.lemmas.List.{get_or-map as get_or-map-at, length-map}
use Rattle.std.proofs.lemmas.List.Elements.{All-get_or}
use Rattle.std.proofs.lemmas.List.FromFn.{fill_by_all, get_or-map-range_with_len, length-map-range_with_len}
use Rattle.std.proofs.lemmas.Simd.{get_or-zip2, length-zip2}
use Rattle.std.specs.List.{All, range_with_len}
use Rattle.keyed_blake3.specs.Steps.Lanes.{AreFull, lane}
use lib.Lanes.{pick_l, zip2}

-- ---- one vector

-- a lane of vector number i
pub lane_at : (j : ℕ) (v : List (List ℕ)) (i : ℕ) → get_or (get_or v i []) j 0 ≡ get_or (lane j v) i 0
lane_at j v i = sym (get_or-map (λ (w : List ℕ). get_or w j 0) v i [])

pub full_at : {l : ℕ} → (v : List (List ℕ)) (i : ℕ) → AreFull l v → i < length v → length (get_or v i []) ≡ l
full_at {l} v i full h = All-get_or (λ (w : List ℕ). length w ≡ l) v i [] h full

-- a lane of two vectors
pub both_at : {l : ℕ} → (f : ℕ → ℕ → ℕ) (j : ℕ) (x y : List ℕ) → j < l → length x ≡ l → length y ≡ l
    → get_or (zip2 f x y) j 0 ≡ f (get_or x j 0) (get_or y j 0)
both_at f j x y h hx hy = get_or-zip2 f x y j 0 0 0 (rw hx h) (rw hy h)

pub both_full : {l : ℕ} → (f : ℕ → ℕ → ℕ) (x y : List ℕ) → length x ≡ l → length y ≡ l → length (zip2 f x y) ≡ l
both_full f x y hx hy = length-zip2 f x y (hx ∙ sym hy) ∙ hx

-- a lane of words picked from a list
pub picked_at : (place : ℕ → ℕ) (n : ℕ) (x picked : List ℕ) (j : ℕ) → picked ≡ pick_l 0 x (map place (range_with_len 0 n)) → j < n
    → get_or picked j 0 ≡ get_or x (place j) 0
picked_at place n x picked j is h =
    let size : length (map place (range_with_len 0 n)) ≡ n = length-map-range_with_len place 0 n in
    rw (is, get_or-map-at (λ (k : ℕ). get_or x k 0) (map place (range_with_len 0 n)) j 0 0 (rw size h))
    (ap (λ (k : ℕ). get_or x k 0) (get_or-map-range_with_len place 0 n j j 0 h (omega arith)))

-- the words of a square table, row by row
pub words_of_rows : (n : ℕ) (rows : List (List ℕ)) → length rows ≡ n → All (λ row. length row ≡ n) rows
    → map (λ i. map (λ k. get_or (get_or rows i []) k 0) (range_with_len 0 n)) (range_with_len 0 n) ≡ rows
words_of_rows n rows size full =
    sym (fill_by_all (λ (i : ℕ). map (λ k. get_or (get_or rows i []) k 0) (range_with_len 0 n)) rows n [] size
    (λ i fits. fill_by_all (λ (k : ℕ). get_or (get_or rows i []) k 0) (get_or rows i []) n 0
    (All-get_or (λ (row : List ℕ). length row ≡ n) rows i [] (rw size fits) full) (λ k below. refl)))

-- the words at a lane, read one by one
pub lane_read : (j : ℕ) (h : List (List ℕ)) → length h ≡ 8
    → get_or (get_or h 0 []) j 0 ∷ get_or (get_or h 1 []) j 0 ∷ get_or (get_or h 2 []) j 0 ∷ get_or (get_or h 3 []) j 0
    ∷ get_or (get_or h 4 []) j 0 ∷ get_or (get_or h 5 []) j 0 ∷ get_or (get_or h 6 []) j 0 ∷ get_or (get_or h 7 []) j 0 ∷ [] ≡ lane j h
lane_read j h size =
    let eight : lane j h ≡ map (λ k. get_or (lane j h) k 0) (range_with_len 0 8) =
    fill_by_all (λ (k : ℕ). get_or (lane j h) k 0) (lane j h) 8 0 (length-map _ _ ∙ size) (λ k below. refl) in
    let at = lane_at j h in
    rw (at 0, at 1, at 2, at 3, at 4, at 5, at 6, at 7) (sym eight)
