-- Subtrees of one size, side by side.
use Rattle.std.proofs.Common.{inl, inr, ◌≡◌, ℕ, zero, suc, ◌+◌, ◌-◌, ◌*◌, ◌/◌, ◌^◌, ◌<◌, ◌≤◌, List, [], ◌++◌, length, take, drop, get_or, refl, sym, ap, ◌∙◌, arith, length-drop}
use Rattle.std.proofs.Math.Nat.{mul-add, mul-div_cancel, mul-le-mul_left, mul-le-mul_right, mul_assoc, mul_comm, one-mul, pow-succ'}
use Rattle.std.proofs.lemmas.List.{get_or-append_right, get_or_append_left, drop-drop, drop-take, length-map, length-take, take-take}
use Rattle.std.proofs.lemmas.Bool.{cases_lt}
use Rattle.std.proofs.lemmas.List.FromFn.{fill_by_all}
use Rattle.std.proofs.lemmas.Nat.{pow_pos}
use Rattle.keyed_blake3.specs.Blake3.{chunk_value, parent_value}
use Rattle.keyed_blake3.specs.Steps.Lanes.{AreFull, beside, chunk_at, lane}
use Rattle.keyed_blake3.specs.Steps.Tree.{subtree_at}
use Rattle.keyed_blake3.proofs.Blake3.Absorbing.{subtree_at-chunk}
use Rattle.keyed_blake3.proofs.Blake3.Blocks.{chunk_at_from}
use Rattle.keyed_blake3.proofs.Blake3.Lanes.{full_at, lane_at}
use Rattle.keyed_blake3.proofs.Blake3.Waiting.{double, subtree_at-join}

-- ---- vectors with others at their right

pub beside_left : {l : ℕ} → (v w : List (List ℕ)) (j : ℕ) → length v ≡ 8 → AreFull l v → j < l → lane j (beside v w) ≡ lane j v
beside_left v w j size full h =
    sym (fill_by_all (λ (k : ℕ). get_or (get_or v k [] ++ get_or w k []) j 0) (lane j v) 8 0 (length-map _ _ ∙ size)
    (λ k fits. sym (lane_at j v k) ∙ sym (get_or_append_left (get_or v k []) (get_or w k []) 0 j (rw (full_at v k full (rw size fits)) h))))

pub beside_right : {l : ℕ} → (v w : List (List ℕ)) (j : ℕ) → length v ≡ 8 → length w ≡ 8 → AreFull l v → l ≤ j → lane j (beside v w) ≡ lane (j - l) w
beside_right {l} v w j size_v size_w full h =
    sym (fill_by_all (λ (k : ℕ). get_or (get_or v k [] ++ get_or w k []) j 0) (lane (j - l) w) 8 0 (length-map _ _ ∙ size_w)
    (λ k fits. sym (lane_at (j - l) w k) ∙ sym (get_or-append_right (get_or v k []) (get_or w k []) l j 0 (full_at v k full (rw size_v fits)) h)))

-- ---- subtrees

-- as many bytes as some chunks have
pub is_chunk : (l k n bytes : ℕ) → 0 < l → bytes ≡ 1024 * (2 ^ k * n) → bytes ≤ 1024 * l → (0 < k → n ≡ l) → k ≡ 0
is_chunk l zero n bytes some e few all = refl
is_chunk l (suc k) n bytes some e few all =
    let full : n ≡ l = all (omega arith) in
    let two : 2 ≤ 2 ^ suc k = omega (arith, pow-succ' 2 k, pow_pos k) in
    let more : 2 * l ≤ 2 ^ suc k * l = mul-le-mul_right l two in
    absurd (omega (arith, more, some, rw full at e))

-- two lanes
pub two_lanes : (P : ℕ → Type 0) → P 0 → P 1 → (j : ℕ) → j < 2 → P j
two_lanes P x y zero h = x
two_lanes P x y (suc zero) h = y
two_lanes P x y (suc (suc j)) h = absurd (omega arith)

-- values of chunks are those of subtrees
pub chunk_values_at : (key : List ℕ) (first n j : ℕ) (m bytes value : List ℕ) → length bytes ≡ 1024 * (2 ^ 0 * n)
    → bytes ≡ take (length bytes) (drop (1024 * first) m) → j < n → value ≡ chunk_value key (first + j) (chunk_at j bytes) 0
    → value ≡ subtree_at key 0 (first + 2 ^ 0 * j) m
chunk_values_at key first n j m bytes value size is h e =
    let place : first + 2 ^ 0 * j ≡ first + j = omega (arith, one-mul j) in
    let all : length bytes ≡ 1024 * n = omega (arith, one-mul n) in
    let chunk : chunk_at j bytes ≡ chunk_at (first + j) m =
    ap (chunk_at j) (is ∙ ap (λ (i : ℕ). take i (drop (1024 * first) m)) all) ∙ chunk_at_from m first n j h in
    e ∙ ap (λ (x : List ℕ). chunk_value key (first + j) x 0) chunk ∙ sym (subtree_at-chunk key (first + j) m)
    ∙ ap (λ (c : ℕ). subtree_at key 0 c m) (sym place)

-- the values of two neighbours make their parent's
pub parents_at : (key : List ℕ) (first k j : ℕ) (m left right : List ℕ) → left ≡ subtree_at key k (first + 2 ^ k * (2 * j)) m
    → right ≡ subtree_at key k (first + 2 ^ k * (2 * j + 1)) m → 1024 * (first + 2 ^ suc k * (j + 1)) ≤ length m
    → parent_value key left right 0 ≡ subtree_at key (suc k) (first + 2 ^ suc k * j) m
parents_at key first k j m left right l r long =
    let whole : 2 ^ suc k * j ≡ 2 ^ k * (2 * j) = omega (arith, double k j) in
    let next : first + 2 ^ suc k * j + 2 ^ k ≡ first + 2 ^ k * (2 * j + 1) = omega (arith, whole, mul-add (2 ^ k) (2 * j) 1) in
    let lower : subtree_at key k (first + 2 ^ suc k * j) m ≡ left = ap (λ (x : ℕ). subtree_at key k (first + x) m) whole ∙ sym l in
    let upper : subtree_at key k (first + 2 ^ suc k * j + 2 ^ k) m ≡ right = ap (λ (c : ℕ). subtree_at key k c m) next ∙ sym r in
    sym (subtree_at-join key k (first + 2 ^ suc k * j) m (omega (arith, mul-add (2 ^ suc k) j 1))
    ∙ ap (λ (x : List ℕ). parent_value key x (subtree_at key k (first + 2 ^ suc k * j + 2 ^ k) m) 0) lower
    ∙ ap (λ (x : List ℕ). parent_value key left x 0) upper)

-- ---- how many subtrees are taken at once

-- there is room for them
pub batch_fits : (l k len count whole : ℕ) → len ≡ 2 ^ k → count ≤ l → count ≤ whole → (0 < k → l * len ≤ whole) → len * count ≤ whole
batch_fits l zero len count whole e few fits room =
    let one : len * count ≡ 1 * count = ap (λ (x : ℕ). x * count) e in
    omega (arith, one, one-mul count)
batch_fits l (suc k) len count whole e few fits room =
    let most : len * count ≤ len * l = mul-le-mul_left len few in
    omega (arith, most, room (omega arith))

-- ---- subtrees apart

pub one_of_power : (k : ℕ) → 1 ≡ 2 ^ k → k ≡ 0
one_of_power zero e = refl
one_of_power (suc k) e = absurd (omega (arith, pow-succ' 2 k, e))

-- a chunk of some bytes of a message
pub chunk_at_within : (m : List ℕ) (c size j : ℕ) → 1024 * j + 1024 ≤ size → chunk_at j (take size (drop (1024 * c) m)) ≡ chunk_at (c + j) m
chunk_at_within m c size j h =
    let rest : List ℕ = drop (1024 * c) m in
    let after : ℕ = size - 1024 * j in
    let whole : 1024 * j + after ≡ size = omega arith in
    let place : 1024 * c + 1024 * j ≡ 1024 * (c + j) = omega arith in
    ap (take 1024) (rw whole at (drop-take (1024 * j) after rest)) ∙ take-take 1024 after (drop (1024 * j) rest) (omega arith)
    ∙ ap (take 1024) (drop-drop (1024 * j) (1024 * c) m ∙ ap (λ (k : ℕ). drop k m) place)

-- a value of a chunk is that of a subtree
pub chunk_apart : (key : List ℕ) (first p k : ℕ) (m bytes value : List ℕ) → 1 ≡ 2 ^ k → 1024 * (p + 1) ≤ length bytes
    → bytes ≡ take (length bytes) (drop (1024 * first) m) → value ≡ chunk_value key (first + p) (chunk_at p bytes) 0
    → value ≡ subtree_at key k (first + p) m
chunk_apart key first p k m bytes value one long is e =
    let chunk : chunk_at p bytes ≡ chunk_at (first + p) m = ap (chunk_at p) is ∙ chunk_at_within m first (length bytes) p (omega (arith, long)) in
    e ∙ ap (λ (x : List ℕ). chunk_value key (first + p) x 0) chunk ∙ sym (subtree_at-chunk key (first + p) m)
    ∙ ap (λ (i : ℕ). subtree_at key i (first + p) m) (sym (one_of_power k one))

-- the values of subtrees, of which two lists of l follow each other
pub both_beside : (l : ℕ) (key : List ℕ) (first place size k : ℕ) (m : List ℕ) (left right : List (List ℕ)) → length left ≡ 8 → length right ≡ 8 → AreFull l left
    → ((j : ℕ) → j < l → lane j left ≡ subtree_at key k (first + (place + size * j)) m)
    → ((j : ℕ) → j < l → lane j right ≡ subtree_at key k (first + (place + size * l + size * j)) m)
    → (i : ℕ) → i < 2 * l → lane i (beside left right) ≡ subtree_at key k (first + (place + size * i)) m
both_beside l key first place size k m left right size_l size_r full ls rs i h = elim (cases_lt i l) [
  | inl less ↦ beside_left left right i size_l full less ∙ ls i less
  | inr more ↦
      let sum : size * l + size * (i - l) ≡ size * i = sym (mul-add size l (i - l)) ∙ ap (λ (n : ℕ). size * n) (omega (arith, more)) in
      beside_right left right i size_l size_r full more ∙ rs (i - l) (omega (arith, more, h))
      ∙ ap (λ (n : ℕ). subtree_at key k (first + n) m) (omega (arith, sum))
]

-- a size that is halved
pub two_halves : (k size : ℕ) → size ≡ 2 ^ k → 1 < size → 2 * (size / 2) ≡ size
two_halves zero size e several = absurd (omega (arith, e, several))
two_halves (suc k) size e several = omega (arith, pow-succ' 2 k, e)

-- two lists of subtrees of half the size
pub both_within : (size l : ℕ) → size / 2 * l + size / 2 * l ≤ size * l
both_within size l =
    let twice : 2 * (size / 2) ≤ size = omega arith in
    let within : 2 * (size / 2) * l ≤ size * l = mul-le-mul_right l twice in
    omega (arith, within, mul_assoc 2 (size / 2) l)

-- the parent of the values of both halves of a subtree
pub halves_apart : (key : List ℕ) (c k size half : ℕ) (m left right : List ℕ) → size ≡ 2 ^ k → 1 < size → half ≡ size / 2 → 1024 * (c + size) ≤ length m
    → ((i : ℕ) → half ≡ 2 ^ i → left ≡ subtree_at key i c m) → ((i : ℕ) → half ≡ 2 ^ i → right ≡ subtree_at key i (c + half) m)
    → parent_value key left right 0 ≡ subtree_at key k c m
halves_apart key c zero size half m left right e several eh long l r = absurd (omega (arith, e, several))
halves_apart key c (suc k) size half m left right e several eh long l r =
    let part : half ≡ 2 ^ k = omega (arith, pow-succ' 2 k, e, eh) in
    let upper : subtree_at key k (c + 2 ^ k) m ≡ right = ap (λ (n : ℕ). subtree_at key k (c + n) m) (sym part) ∙ sym (r k part) in
    sym (subtree_at-join key k c m (omega (arith, e, long))
    ∙ ap (λ (x : List ℕ). parent_value key x (subtree_at key k (c + 2 ^ k) m) 0) (sym (l k part))
    ∙ ap (λ (x : List ℕ). parent_value key left x 0) upper)

-- the end of a subtree in some bytes of a message
pub end_within : (first n : ℕ) (m bytes : List ℕ) → 1024 * n ≤ length bytes → bytes ≡ take (length bytes) (drop (1024 * first) m)
    → 0 < n → 1024 * (first + n) ≤ length m
end_within first n m bytes long is some =
    omega (arith, long, some, ap length is, length-take (length bytes) (drop (1024 * first) m), length-drop (1024 * first) m)

-- all lanes are taken by many chunks
pub lanes_full : (l k n bytes : ℕ) → bytes ≡ 1024 * (2 ^ k * n) → 1024 * l < bytes → n ≤ l → (0 < k → n ≡ l) → n ≡ l
lanes_full l zero n bytes e long few all = absurd (omega (arith, e, one-mul n))
lanes_full l (suc k) n bytes e long few all = all (omega arith)

-- the chunks of each lane's subtree
pub len_of : (l len bytes : ℕ) → 0 < l → bytes ≡ 1024 * (len * l) → bytes / (1024 * l) ≡ len
len_of l len bytes some e =
    let size : bytes ≡ len * (1024 * l) = e ∙ sym (mul_assoc 1024 len l) ∙ ap (λ (n : ℕ). n * l) (mul_comm 1024 len) ∙ mul_assoc len 1024 l in
    ap (λ (n : ℕ). n / (1024 * l)) size ∙ mul-div_cancel len (omega (arith, some))
