-- Rows that states share.
use Rattle.std.proofs.Common.{◌≡◌, ℕ, ◌+◌, ◌*◌, ◌/◌, ◌<◌, List, ◌++◌, length, map, get_or, refl, ap, ◌∙◌, arith}
use Rattle.std.proofs.lemmas.List.{get_or-map as get_or-map-at, length-map}
use Rattle.keyed_blake3.specs.Steps.Rows.{quad_at}
use Rattle.keyed_blake3.proofs.Blake3.Lanes.{both_at, both_full}
use lib.Lanes.{zip2}

-- the lanes of one vector, or of two, in a quad
quad-zip2 : {n : ℕ} → (f : ℕ → ℕ → ℕ) (j : ℕ) (x y : List ℕ) → j < n / 4 → length x ≡ n → length y ≡ n
    → quad_at j (zip2 f x y) ≡ zip2 f (quad_at j x) (quad_at j y)
quad-zip2 f j x y h hx hy =
    let at : (k : ℕ) → k < 4 → get_or (zip2 f x y) (4 * j + k) 0 ≡ f (get_or x (4 * j + k) 0) (get_or y (4 * j + k) 0) =
    λ k below. both_at f (4 * j + k) x y (omega arith) hx hy in
    rw (at 0 (omega arith), at 1 (omega arith), at 2 (omega arith), at 3 (omega arith)) refl

quad-map : {n : ℕ} → (f : ℕ → ℕ) (j : ℕ) (x : List ℕ) → j < n / 4 → length x ≡ n → quad_at j (map f x) ≡ map f (quad_at j x)
quad-map f j x h hx =
    let at : (k : ℕ) → k < 4 → get_or (map f x) (4 * j + k) 0 ≡ f (get_or x (4 * j + k) 0) =
    λ k below. get_or-map-at f x (4 * j + k) 0 0 (rw hx (omega arith)) in
    rw (at 0 (omega arith), at 1 (omega arith), at 2 (omega arith), at 3 (omega arith)) refl

-- a vector made of one vector's lanes, or of two
pub length-both : {n : ℕ} → (f : ℕ → ℕ → ℕ) (x y z : List ℕ) → length x ≡ n → length y ≡ n → z ≡ zip2 f x y → length z ≡ n
length-both f x y z hx hy is = ap length is ∙ both_full f x y hx hy

pub quads-both : {n : ℕ} → (f : ℕ → ℕ → ℕ) (j : ℕ) (x y z : List ℕ) → j < n / 4 → length x ≡ n → length y ≡ n → z ≡ zip2 f x y
    → quad_at j z ≡ zip2 f (quad_at j x) (quad_at j y)
quads-both f j x y z h hx hy is = ap (quad_at j) is ∙ quad-zip2 f j x y h hx hy

pub length-each : {n : ℕ} → (f : ℕ → ℕ) (x z : List ℕ) → length x ≡ n → z ≡ map f x → length z ≡ n
length-each f x z hx is = ap length is ∙ length-map _ _ ∙ hx

pub quads-each : {n : ℕ} → (f : ℕ → ℕ) (j : ℕ) (x z : List ℕ) → j < n / 4 → length x ≡ n → z ≡ map f x → quad_at j z ≡ map f (quad_at j x)
quads-each f j x z h hx is = ap (quad_at j) is ∙ quad-map f j x h hx

pub both_parts : (x y z w : List ℕ) → x ≡ z → y ≡ w → x ++ y ≡ z ++ w
both_parts x y z w e f = rw (e, f) refl
