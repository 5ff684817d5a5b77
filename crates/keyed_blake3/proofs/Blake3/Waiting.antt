-- The two views of a message: the tree by halving, and the binary counter of complete subtrees that wait
-- for what is on their right.
use Rattle.std.proofs.Common.{◌≡◌, ℕ, zero, suc, ◌+◌, ◌-◌, ◌*◌, ◌/◌, ◌%◌, ◌^◌, ◌<◌, ◌≤◌, ◌⊎◌, inl, inr, List, [], ◌∷◌, ◌++◌, length, take, drop, refl, sym, ap, ◌∙◌, arith, length-drop}
use Rattle.std.proofs.lemmas.List.{append-nil, take-append-le, drop-append-le, drop-drop, drop-take, take-take, length-take-le, length_push}
use Rattle.std.proofs.lemmas.Bool.{cases_lt}
use Rattle.std.proofs.lemmas.Bool.Decides.{nat_tests}
use Rattle.std.proofs.lemmas.Nat.{pow_pos, ones_cat}
use Rattle.std.proofs.Math.Nat.{pow-succ', mul_assoc, one-mul}
use Rattle.std.specs.Int.RustNames.{count_ones}
use Rattle.keyed_blake3.specs.Blake3.{parent_value, subtree_value}
use Rattle.keyed_blake3.specs.Steps.Tree.{joined, subtree_at, waiting}

-- ---- even and odd numbers

parity : (n : ℕ) → (q : ℕ) × ((n ≡ 2 * q) ⊎ (n ≡ 2 * q + 1))
parity n = (n / 2, elim (cases_lt (n % 2) 1) [ inl h ↦ inl (omega arith) | inr h ↦ inr (omega arith) ])

pub double : (k q : ℕ) → 2 ^ suc k * q ≡ 2 * (2 ^ k * q)
double k q = ap (λ (x : ℕ). x * q) (pow-succ' 2 k) ∙ mul_assoc 2 (2 ^ k) q

-- ---- complete subtrees

-- a subtree is read from its own chunks alone
subtree_at-append : (key : List ℕ) (k c : ℕ) (m d : List ℕ) → 1024 * c + 1024 * 2 ^ k ≤ length m → subtree_at key k c (m ++ d) ≡ subtree_at key k c m
subtree_at-append key k c m d h =
    let fits : 1024 * 2 ^ k ≤ length (drop (1024 * c) m) = omega (arith, length-drop (1024 * c) m) in
    ap (λ (x : List ℕ). subtree_value key k c x 0)
    (ap (take (1024 * 2 ^ k)) (drop-append-le (1024 * c) m d (omega arith)) ∙ take-append-le (1024 * 2 ^ k) (drop (1024 * c) m) d fits)

-- the two cases of a subtree's value
subtree_value-low : (key : List ℕ) (k i : ℕ) (m : List ℕ) (flags : ℕ) → length m ≤ 1024 * 2 ^ k → subtree_value key (suc k) i m flags ≡ subtree_value key k i m flags
unfolding subtree_value
subtree_value-low key k i m flags h = grind (arith, nat_tests)

subtree_value-high : (key : List ℕ) (k i : ℕ) (m : List ℕ) (flags : ℕ) → 1024 * 2 ^ k < length m
    → subtree_value key (suc k) i m flags
    ≡ parent_value key (subtree_value key k i (take (1024 * 2 ^ k) m) 0) (subtree_value key k (i + 2 ^ k) (drop (1024 * 2 ^ k) m) 0) flags
unfolding subtree_value
subtree_value-high key k i m flags h = grind (arith, nat_tests)

-- two neighbours make the subtree over both
pub subtree_at-join : (key : List ℕ) (k c : ℕ) (m : List ℕ) → 1024 * c + 1024 * 2 ^ suc k ≤ length m
    → subtree_at key (suc k) c m ≡ parent_value key (subtree_at key k c m) (subtree_at key k (c + 2 ^ k) m) 0
subtree_at-join key k c m h =
    let twice : 2 ^ suc k ≡ 2 * 2 ^ k = pow-succ' 2 k in
    let positive : 0 < 2 ^ k = pow_pos k in
    let whole : 1024 * 2 ^ suc k ≡ 1024 * 2 ^ k + 1024 * 2 ^ k = omega arith in
    let size : length (take (1024 * 2 ^ suc k) (drop (1024 * c) m)) ≡ 1024 * 2 ^ suc k =
    length-take-le (1024 * 2 ^ suc k) (drop (1024 * c) m) (omega (arith, length-drop (1024 * c) m)) in
    let left : take (1024 * 2 ^ k) (take (1024 * 2 ^ suc k) (drop (1024 * c) m)) ≡ take (1024 * 2 ^ k) (drop (1024 * c) m) =
    take-take (1024 * 2 ^ k) (1024 * 2 ^ suc k) (drop (1024 * c) m) (omega arith) in
    let place : 1024 * c + 1024 * 2 ^ k ≡ 1024 * (c + 2 ^ k) = omega arith in
    let right : drop (1024 * 2 ^ k) (take (1024 * 2 ^ suc k) (drop (1024 * c) m)) ≡ take (1024 * 2 ^ k) (drop (1024 * (c + 2 ^ k)) m) =
    rw (whole, drop-take (1024 * 2 ^ k) (1024 * 2 ^ k) (drop (1024 * c) m), drop-drop (1024 * 2 ^ k) (1024 * c) m, place) refl in
    subtree_value-high key k c (take (1024 * 2 ^ suc k) (drop (1024 * c) m)) 0 (omega arith)
    ∙ ap (λ (x : List ℕ). parent_value key (subtree_value key k c x 0) (subtree_value key k (c + 2 ^ k) (drop (1024 * 2 ^ k) (take (1024 * 2 ^ suc k) (drop (1024 * c) m))) 0) 0) left
    ∙ ap (λ (x : List ℕ). parent_value key (subtree_at key k c m) (subtree_value key k (c + 2 ^ k) x 0) 0) right

-- ---- what is left of a message from a chunk on

-- the value of the subtree over all from chunk number c on
abbrev pub rest_at : List ℕ → ℕ → ℕ → List ℕ → ℕ → List ℕ
rest_at key k c m flags = subtree_value key k c (drop (1024 * c) m) flags

-- with one more subtree before it
rest_at-join : (key : List ℕ) (k c : ℕ) (m : List ℕ) (flags : ℕ) → 1024 * (c + 2 ^ k) < length m
    → rest_at key (suc k) c m flags ≡ parent_value key (subtree_at key k c m) (rest_at key k (c + 2 ^ k) m 0) flags
rest_at-join key k c m flags h =
    let place : 1024 * c + 1024 * 2 ^ k ≡ 1024 * (c + 2 ^ k) = omega arith in
    subtree_value-high key k c (drop (1024 * c) m) flags (omega (arith, length-drop (1024 * c) m))
    ∙ ap (λ (x : List ℕ). parent_value key (subtree_at key k c m) (subtree_value key k (c + 2 ^ k) x 0) flags)
    (drop-drop (1024 * 2 ^ k) (1024 * c) m ∙ ap (λ (n : ℕ). drop n m) place)

-- ---- the values that wait

pub waiting-even : (key : List ℕ) (bits k q : ℕ) (m : List ℕ) → waiting key (suc bits) k (2 * q) m ≡ waiting key bits (suc k) q m
unfolding waiting
waiting-even key bits k q m =
    let half : 2 * q / 2 ≡ q = omega arith in
    let bit : 2 * q % 2 ≡ 0 = omega arith in
    rw (half, bit) (append-nil (waiting key bits (suc k) q m))

pub waiting-odd : (key : List ℕ) (bits k q : ℕ) (m : List ℕ)
    → waiting key (suc bits) k (2 * q + 1) m ≡ waiting key bits (suc k) q m ++ subtree_at key k (2 ^ suc k * q) m ∷ []
unfolding waiting
waiting-odd key bits k q m =
    let half : (2 * q + 1) / 2 ≡ q = omega arith in
    let bit : (2 * q + 1) % 2 ≡ 1 = omega arith in
    let place : 2 ^ k * (2 * q + 1 - 1) ≡ 2 ^ suc k * q = ap (λ (n : ℕ). 2 ^ k * n) (let e : 2 * q + 1 - 1 ≡ 2 * q = omega arith in e) ∙ omega (arith, double k q) in
    rw (half, bit, place) refl

-- what waits stands in the chunks before
pub waiting-append : (key : List ℕ) (bits k n : ℕ) (m d : List ℕ) → 1024 * (2 ^ k * n) ≤ length m → waiting key bits k n (m ++ d) ≡ waiting key bits k n m
unfolding waiting
waiting-append key zero k n m d h = refl
waiting-append key (suc bits) k n m d h =
    let p = parity n in
    let q : ℕ = p.0 in
    let whole : 2 ^ suc k * q ≡ 2 * (2 ^ k * q) = double k q in
    let twice : 2 ^ suc k ≡ 2 * 2 ^ k = pow-succ' 2 k in
    elim p.1 [
      | inl e ↦
          let size : 2 ^ k * n ≡ 2 ^ suc k * q = ap (λ (x : ℕ). 2 ^ k * x) e ∙ omega (arith, whole) in
          rw (e, waiting-even key bits k q (m ++ d), waiting-even key bits k q m) (waiting-append key bits (suc k) q m d (omega arith))
      | inr e ↦
          let size : 2 ^ k * n ≡ 2 ^ suc k * q + 2 ^ k = ap (λ (x : ℕ). 2 ^ k * x) e ∙ omega (arith, whole) in
          rw (
            e,
            waiting-odd key bits k q (m ++ d),
            waiting-odd key bits k q m,
            waiting-append key bits (suc k) q m d (omega arith),
            subtree_at-append key k (2 ^ suc k * q) m d (omega arith),
          ) refl
    ]

-- one waits for each 1 in the binary form
pub ones-even : (q : ℕ) → count_ones (2 * q) ≡ count_ones q
ones-even q =
    let twice : 2 * q ≡ q * 2 ^ 1 + 0 = omega arith in
    let zeros : count_ones 0 ≡ 0 = unfold count_ones in refl in
    rw (twice, ones_cat 1 q 0 (omega arith), zeros) (omega arith)

pub ones-odd : (q : ℕ) → count_ones (2 * q + 1) ≡ count_ones q + 1
ones-odd q =
    let twice : 2 * q + 1 ≡ q * 2 ^ 1 + 1 = omega arith in
    let single : count_ones 1 ≡ 1 = unfold count_ones in refl in
    rw (twice, ones_cat 1 q 1 (omega arith), single) refl

-- zeros at the end of a number change neither its ones nor what waits
pub ones-shift : (k n : ℕ) → count_ones (2 ^ k * n) ≡ count_ones n
ones-shift zero n = ap count_ones (one-mul n)
ones-shift (suc k) n = ap count_ones (double k n) ∙ ones-even (2 ^ k * n) ∙ ones-shift k n

pub waiting-shift : (key : List ℕ) (k bits top level up n : ℕ) (m : List ℕ) → k + bits ≡ top → level + k ≡ up
    → waiting key top level (2 ^ k * n) m ≡ waiting key bits up n m
waiting-shift key zero bits top level up n m e at =
    let same : top ≡ bits = omega arith in
    let here : level ≡ up = omega arith in
    ap (λ (b : ℕ). waiting key b level (2 ^ 0 * n) m) same ∙ ap (λ (c : ℕ). waiting key bits level c m) (one-mul n)
    ∙ ap (λ (l : ℕ). waiting key bits l n m) here
waiting-shift key (suc k) bits top level up n m e at =
    let rest : ℕ = k + bits in
    let more : top ≡ suc rest = omega arith in
    ap (λ (b : ℕ). waiting key b level (2 ^ suc k * n) m) more ∙ ap (λ (c : ℕ). waiting key (suc rest) level c m) (double k n)
    ∙ waiting-even key rest level (2 ^ k * n) m ∙ waiting-shift key k bits rest (suc level) up n m refl (omega arith)

pub length-waiting : (key : List ℕ) (bits k n : ℕ) (m : List ℕ) → n < 2 ^ bits → length (waiting key bits k n m) ≡ count_ones n
unfolding waiting count_ones
length-waiting key zero k n m h =
    let none : n ≡ 0 = omega arith in
    rw none refl
length-waiting key (suc bits) k n m h =
    let p = parity n in
    let q : ℕ = p.0 in
    let twice : 2 ^ suc bits ≡ 2 * 2 ^ bits = pow-succ' 2 bits in
    let fewer : length (waiting key bits (suc k) q m) ≡ count_ones q = elim p.1 [
      | inl e ↦ length-waiting key bits (suc k) q m (omega arith)
      | inr e ↦ length-waiting key bits (suc k) q m (omega arith)
    ] in
    elim p.1 [
      | inl e ↦
          rw (e, waiting-even key bits k q m) (fewer ∙ sym (ones-even q))
      | inr e ↦
          rw (e, waiting-odd key bits k q m, length_push (waiting key bits (suc k) q m) (subtree_at key k (2 ^ suc k * q) m)) (ap (λ (x : ℕ). x + 1) fewer ∙ sym (ones-odd q))
    ]

-- nothing waits at first
pub waiting-none : (key : List ℕ) (bits k : ℕ) (m : List ℕ) → waiting key bits k 0 m ≡ []
unfolding waiting
waiting-none key zero k m = refl
waiting-none key (suc bits) k m = rw (waiting-none key bits (suc k) m) refl

-- ---- the end of a message

pub joined_push : (key : List ℕ) (ws : List (List ℕ)) (w : List ℕ) (x : ℕ → List ℕ) (flags : ℕ)
    → joined key (ws ++ w ∷ []) x flags ≡ joined key ws (λ f. parent_value key w (x 0) f) flags
unfolding joined
joined_push key [] w x flags = refl
joined_push key (v ∷ ws) w x flags = ap (λ (r : List ℕ). parent_value key v r flags) (joined_push key ws w x 0)

pub joined-same : (key : List ℕ) (ws : List (List ℕ)) (x y : ℕ → List ℕ) → ((f : ℕ) → x f ≡ y f) → (flags : ℕ) → joined key ws x flags ≡ joined key ws y flags
unfolding joined
joined-same key [] x y h flags = h flags
joined-same key (v ∷ ws) x y h flags = ap (λ (r : List ℕ). parent_value key v r flags) (joined-same key ws x y h 0)

-- The waiting values, joined with the rest, make the message's value.
pub joined-waiting : (key : List ℕ) (bits k n top : ℕ) (m : List ℕ) → n < 2 ^ bits → k + bits ≡ top → 1024 * (2 ^ k * n) ≤ length m - 1
    → length m ≤ 1024 * (2 ^ k * n + 2 ^ k) → (flags : ℕ) → joined key (waiting key bits k n m) (rest_at key k (2 ^ k * n) m) flags ≡ rest_at key top 0 m flags
unfolding joined waiting
joined-waiting key zero k n top m h e low high flags =
    let none : 2 ^ k * n ≡ 0 = omega (arith, ap (λ (x : ℕ). 2 ^ k * x) (let z : n ≡ 0 = omega arith in z)) in
    let same : k ≡ top = omega arith in
    rw (none, same) refl
joined-waiting key (suc bits) k n top m h e low high flags =
    let p = parity n in
    let q : ℕ = p.0 in
    let whole : 2 ^ suc k * q ≡ 2 * (2 ^ k * q) = double k q in
    let twice : 2 ^ suc k ≡ 2 * 2 ^ k = pow-succ' 2 k in
    let twice_bits : 2 ^ suc bits ≡ 2 * 2 ^ bits = pow-succ' 2 bits in
    let positive : 0 < 2 ^ k = pow_pos k in
    elim p.1 [
      | inl even ↦
          let place : 2 ^ k * (2 * q) ≡ 2 ^ suc k * q = omega (arith, whole) in
          let size : 2 ^ k * n ≡ 2 ^ suc k * q = ap (λ (x : ℕ). 2 ^ k * x) even ∙ place in
          let same : (f : ℕ) → rest_at key k (2 ^ suc k * q) m f ≡ rest_at key (suc k) (2 ^ suc k * q) m f =
          λ f. sym (subtree_value-low key k (2 ^ suc k * q) (drop (1024 * (2 ^ suc k * q)) m) f (omega (arith, length-drop (1024 * (2 ^ suc k * q)) m))) in
          rw (even, place, waiting-even key bits k q m)
          (joined-same key (waiting key bits (suc k) q m) (rest_at key k (2 ^ suc k * q) m) (rest_at key (suc k) (2 ^ suc k * q) m) same flags
          ∙ joined-waiting key bits (suc k) q top m (omega arith) (omega arith) (omega arith) (omega arith) flags)
      | inr odd ↦
          let place : 2 ^ k * (2 * q + 1) ≡ 2 ^ suc k * q + 2 ^ k = omega (arith, whole) in
          let size : 2 ^ k * n ≡ 2 ^ suc k * q + 2 ^ k = ap (λ (x : ℕ). 2 ^ k * x) odd ∙ place in
          let same : (f : ℕ) → parent_value key (subtree_at key k (2 ^ suc k * q) m) (rest_at key k (2 ^ suc k * q + 2 ^ k) m 0) f ≡ rest_at key (suc k) (2 ^ suc k * q) m f =
          λ f. sym (rest_at-join key k (2 ^ suc k * q) m f (omega arith)) in
          rw (odd, place, waiting-odd key bits k q m, joined_push key (waiting key bits (suc k) q m) (subtree_at key k (2 ^ suc k * q) m) (rest_at key k (2 ^ suc k * q + 2 ^ k) m) flags)
          (joined-same key (waiting key bits (suc k) q m) (λ f. parent_value key (subtree_at key k (2 ^ suc k * q) m) (rest_at key k (2 ^ suc k * q + 2 ^ k) m 0) f) (rest_at key (suc k) (2 ^ suc k * q) m) same flags
          ∙ joined-waiting key bits (suc k) q top m (omega arith) (omega arith) (omega arith) (omega arith) flags)
    ]
