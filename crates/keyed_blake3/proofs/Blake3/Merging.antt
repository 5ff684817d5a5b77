-- A subtree is added to those that wait, as a 1 is added to a binary number: with a carry.
use Rattle.std.proofs.Common.{◌≡◌, ℕ, get_or, set, subst, zero, suc, ◌+◌, ◌-◌, ◌*◌, ◌/◌, ◌%◌, ◌^◌, ◌<◌, ◌≤◌, ◌≢◌, ◌⊎◌, inl, inr, List, [], ◌∷◌, ◌++◌, length, take, refl, sym, ap, ◌∙◌, arith}
use Rattle.std.proofs.lemmas.Bool.{cases_lt}
use Rattle.std.proofs.lemmas.List.{get_or-set_same, take-set, length-take-le, length_push, same_from_push, take_more, take_more_set}
use Rattle.std.proofs.lemmas.Nat.{mul-le, ones-le, pow_pos}
use Rattle.std.specs.Int.RustNames.{count_ones}
use Rattle.std.proofs.Math.Nat.{mul-add, pow-le-pow_right, pow-succ'}
use Rattle.keyed_blake3.specs.Blake3.{parent_value}
use Rattle.keyed_blake3.specs.Steps.Tree.{IsMerging, IsWaiting, IsWaitingAtEnd, subtree_at, waiting}
use Rattle.keyed_blake3.proofs.Blake3.Waiting.{double, length-waiting, ones-even, ones-odd, ones-shift, subtree_at-join, waiting-even, waiting-odd, waiting-shift}

-- the level of a subtree that a message has
level_below : (k : ℕ) → 2 ^ k < 2 ^ 54 → k < 54
level_below k h = elim (cases_lt k 54) [
  | inl low ↦ low
  | inr high ↦
      let more : 2 ^ 54 ≤ 2 ^ k = pow-le-pow_right (pow_pos 1) high in
      absurd (omega (arith, more))
]

pub IsMerging-first : (key : List ℕ) (k number c : ℕ) (m : List ℕ) (ws : List (List ℕ)) (value : List ℕ) → c ≡ 2 ^ k * number → c + 2 ^ k < 2 ^ 54
    → ws ≡ waiting key 54 0 c m → value ≡ subtree_at key k c m → IsMerging key (c + 2 ^ k) m ws value number
IsMerging-first key k number c m ws value whole small waits is =
    let low : k < 54 = level_below k (omega arith) in
    let depth : k + (54 - k) ≡ 54 = omega arith in
    record {
      level = k;
      bits = 54 - k;
      depth = depth;
      place = omega (arith, mul-add (2 ^ k) number 1, whole);
      values = waits ∙ ap (λ (n : ℕ). waiting key 54 0 n m) whole ∙ waiting-shift key k (54 - k) 54 0 k number m depth (omega arith);
      joined = is ∙ ap (λ (n : ℕ). subtree_at key k n m) whole;
    }

-- what waits with the subtree, as its size counts
all_waiting : (key : List ℕ) (c : ℕ) (m : List ℕ) (ws : List (List ℕ)) (value : List ℕ) (n : ℕ) (r : IsMerging key c m ws value n)
    → waiting key 54 0 c m ≡ waiting key r.bits r.level (n + 1) m
all_waiting key c m ws value n r =
    ap (λ (x : ℕ). waiting key 54 0 x m) (sym r.place) ∙ waiting-shift key r.level r.bits 54 0 r.level (n + 1) m r.depth (omega arith)

-- some bits are left
bits_left : (level bits n : ℕ) → level + bits ≡ 54 → 2 ^ level * (n + 1) < 2 ^ 54 → (b : ℕ) × (bits ≡ suc b)
bits_left level zero n e h =
    let all : level ≡ 54 = omega arith in
    absurd (omega (arith, rw all at h))
bits_left level (suc b) n e h = (b, refl)

-- a join
pub IsMerging-next : (key : List ℕ) (c : ℕ) (m : List ℕ) (ws : List (List ℕ)) (w value : List ℕ) (q : ℕ)
    → IsMerging key c m (ws ++ w ∷ []) value (2 * q + 1) → c < 2 ^ 54 → 1024 * c ≤ length m
    → IsMerging key c m ws (parent_value key w value 0) q
IsMerging-next key c m ws w value q r small fits =
    let k : ℕ = r.level in
    let left = bits_left k r.bits (2 * q + 1) r.depth (rw r.place small) in
    let b : ℕ = left.0 in
    let twice : 2 ^ suc k ≡ 2 * 2 ^ k = pow-succ' 2 k in
    let whole : 2 ^ suc k * q ≡ 2 * (2 ^ k * q) = double k q in
    let size : 2 ^ k * (2 * q + 1) ≡ 2 ^ suc k * q + 2 ^ k = omega (arith, whole) in
    let place : 2 ^ suc k * (q + 1) ≡ c = omega (arith, whole, twice, r.place) in
    let waits : ws ++ w ∷ [] ≡ waiting key b (suc k) q m ++ subtree_at key k (2 ^ suc k * q) m ∷ [] =
    (rw left.1 at r.values) ∙ waiting-odd key b k q m in
    let parts = same_from_push ws (waiting key b (suc k) q m) w (subtree_at key k (2 ^ suc k * q) m) waits in
    record {
      level = suc k;
      bits = b;
      depth = omega (arith, r.depth, left.1);
      place = place;
      values = parts.0;
      joined = rw (parts.1, r.joined, size) (sym (subtree_at-join key k (2 ^ suc k * q) m (omega arith)));
    }

-- the last step: no subtree of this size waits
pub IsMerging-last : (key : List ℕ) (c : ℕ) (m : List ℕ) (ws : List (List ℕ)) (value : List ℕ) (q : ℕ)
    → IsMerging key c m ws value (2 * q) → c < 2 ^ 54 → ws ++ value ∷ [] ≡ waiting key 54 0 c m
IsMerging-last key c m ws value q r small =
    let k : ℕ = r.level in
    let left = bits_left k r.bits (2 * q) r.depth (rw r.place small) in
    let b : ℕ = left.0 in
    let whole : 2 ^ suc k * q ≡ 2 * (2 ^ k * q) = double k q in
    let size : 2 ^ k * (2 * q) ≡ 2 ^ suc k * q = omega (arith, whole) in
    let waits : ws ≡ waiting key b (suc k) q m = (rw left.1 at r.values) ∙ waiting-even key b k q m in
    let done : waiting key 54 0 c m ≡ waiting key b (suc k) q m ++ subtree_at key k (2 ^ suc k * q) m ∷ [] =
    (rw left.1 at (all_waiting key c m ws value (2 * q) r)) ∙ waiting-odd key b k q m in
    rw (done, waits, r.joined, size) refl

-- ---- the ones of a number

pub ones_of_odd : (n : ℕ) → n % 2 ≡ 1 → count_ones n ≡ count_ones (n / 2) + 1
ones_of_odd n h =
    let e : n ≡ 2 * (n / 2) + 1 = omega arith in
    ap count_ones e ∙ ones-odd (n / 2)

pub ones_of_even : (n : ℕ) → n % 2 ≡ 0 → count_ones (n + 1) ≡ count_ones n + 1
ones_of_even n h =
    let e : n ≡ 2 * (n / 2) = omega arith in
    let more : n + 1 ≡ 2 * (n / 2) + 1 = omega arith in
    ap count_ones more ∙ ones-odd (n / 2) ∙ ap (λ (k : ℕ). k + 1) (sym (ap count_ones e ∙ ones-even (n / 2)))

pub ones_below : (n : ℕ) → n < 2 ^ 54 → count_ones n ≤ 54
unfolding count_ones
ones_below n h = ones-le 54 n h

-- a number with a larger one of as many bits has a bit that is 0
pub ones_lt : (bits n : ℕ) → n + 1 < 2 ^ bits → count_ones n < bits
ones_lt zero n h = absurd (omega arith)
ones_lt (suc bits) n h =
    let twice : 2 ^ suc bits ≡ 2 * 2 ^ bits = pow-succ' 2 bits in
    elim (cases_lt (n % 2) 1) [
      | inl even ↦
          let e : n ≡ 2 * (n / 2) = omega arith in
          let same : count_ones n ≡ count_ones (n / 2) = ap count_ones e ∙ ones-even (n / 2) in
          omega (arith, ones-le bits (n / 2) (omega arith))
      | inr odd ↦ omega (arith, ones_of_odd n (omega arith), ones_lt bits (n / 2) (omega arith))
    ]

-- what waits under a number of subtrees is something
pub ones_some : (bits n : ℕ) → n < 2 ^ bits → 0 < n → 0 < count_ones n
ones_some zero n h some = absurd (omega arith)
ones_some (suc bits) n h some =
    let twice : 2 ^ suc bits ≡ 2 * 2 ^ bits = pow-succ' 2 bits in
    elim (cases_lt (n % 2) 1) [
      | inl even ↦
          let e : n ≡ 2 * (n / 2) = omega arith in
          let same : count_ones n ≡ count_ones (n / 2) = ap count_ones e ∙ ones-even (n / 2) in
          omega (arith, ones_some bits (n / 2) (omega arith) (omega arith))
      | inr odd ↦ omega (arith, ones_of_odd n (omega arith))
    ]

-- a number with a one is positive
pub some_of_ones : (n : ℕ) → 0 < count_ones n → 0 < n
unfolding count_ones
some_of_ones n h = elim (cases_lt n 1) [
  | inl none ↦
      let e : n ≡ 0 = omega arith in
      let zeros : count_ones 0 ≡ 0 = refl in
      absurd (omega (arith, ap count_ones e, zeros))
  | inr some ↦ omega arith
]

-- an odd number with a single one
pub one_of_ones : (n : ℕ) → n < 2 ^ 54 → count_ones n ≤ 1 → n % 2 ≡ 1 → n ≡ 1
one_of_ones n small few odd = elim (cases_lt (n / 2) 1) [
  | inl none ↦ omega arith
  | inr some ↦ absurd (omega (arith, ones_of_odd n odd, ones_some 54 (n / 2) (omega arith) (omega arith)))
]

-- ---- as the code does it

-- a join of the top of the stack
pub IsMerging-join : (key : List ℕ) (c : ℕ) (m : List ℕ) (stack : List (List ℕ)) (w value : List ℕ) (used rest : ℕ)
    → IsMerging key c m (take used stack) value rest → rest % 2 ≡ 1 → 0 < used → used ≤ length stack → w ≡ get_or stack (used - 1) []
    → c < 2 ^ 54 → 1024 * c ≤ length m
    → IsMerging key c m (take (used - 1) stack) (parent_value key w value 0) (rest / 2)
IsMerging-join key c m stack w value used rest r odd some fits e small long =
    let n : rest ≡ 2 * (rest / 2) + 1 = omega arith in
    let top : used ≡ used - 1 + 1 = omega arith in
    let cut : take used stack ≡ take (used - 1) stack ++ w ∷ [] =
    ap (λ (k : ℕ). take k stack) top ∙ take_more stack (used - 1) [] (omega arith) ∙ ap (λ (x : List ℕ). take (used - 1) stack ++ x ∷ []) (sym e) in
    IsMerging-next key c m (take (used - 1) stack) w value (rest / 2)
    (subst (λ (k : ℕ). IsMerging key c m (take (used - 1) stack ++ w ∷ []) value k) n (subst (λ (ws : List (List ℕ)). IsMerging key c m ws value rest) cut r))
    small long

-- the value put on top of the stack
pub IsMerging-put : (key : List ℕ) (c : ℕ) (m : List ℕ) (stack : List (List ℕ)) (value : List ℕ) (used rest : ℕ)
    → IsMerging key c m (take used stack) value rest → rest % 2 ≡ 0 → used < length stack → c < 2 ^ 54
    → IsWaiting key (set stack used value) c m
IsMerging-put key c m stack value used rest r even fits small =
    let n : rest ≡ 2 * (rest / 2) = omega arith in
    let done : take used stack ++ value ∷ [] ≡ waiting key 54 0 c m =
    IsMerging-last key c m (take used stack) value (rest / 2) (subst (λ (k : ℕ). IsMerging key c m (take used stack) value k) n r) small in
    let size : count_ones c ≡ used + 1 =
    sym (length-waiting key 54 0 c m small) ∙ sym (ap length done) ∙ length_push (take used stack) value
    ∙ ap (λ (k : ℕ). k + 1) (length-take-le used stack (omega arith)) in
    rw size (take_more_set stack used value fits ∙ done)

-- the value put there where m ends
pub at_end_put : (key : List ℕ) (c : ℕ) (m : List ℕ) (stack : List (List ℕ)) (value : List ℕ) (used rest : ℕ)
    → IsMerging key c m (take used stack) value rest → used ≡ count_ones rest → used < length stack → 0 < rest → (rest % 2 ≡ 1 → rest ≡ 1)
    → IsWaitingAtEnd key (set stack used value) c m
at_end_put key c m stack value used rest r ones fits some carried = record {
  number = rest;
  some = some;
  carried = carried;
  merging = rw (← ones, take-set stack used value, get_or-set_same stack used value [] fits) r;
}

-- a number of subtrees is below that of chunks
number_below : (key : List ℕ) (c : ℕ) (m : List ℕ) (ws : List (List ℕ)) (value : List ℕ) (n : ℕ) → IsMerging key c m ws value n → n < c
number_below key c m ws value n r =
    let some = pow_pos r.level in
    omega (arith, mul-le 1 (n + 1) (2 ^ r.level) (n + 1) (omega arith) (omega arith), r.place)

ones_one : count_ones 1 ≡ 1
unfolding count_ones
ones_one = refl

-- the ones of the number of chunks where m ends, and of the subtrees before the last one
pub at_end_ones : (key : List ℕ) (stack : List (List ℕ)) (c : ℕ) (m : List ℕ) (e : IsWaitingAtEnd key stack c m) → c < 2 ^ 54
    → ((e.number % 2 ≡ 0) × (count_ones c ≡ count_ones e.number + 1) × (0 < count_ones e.number))
    ⊎ ((e.number ≡ 1) × (count_ones c ≡ 1) × (count_ones e.number ≡ 1))
at_end_ones key stack c m e small =
    let n : ℕ = e.number in
    let r = e.merging in
    let ones : count_ones c ≡ count_ones (n + 1) = ap count_ones (sym r.place) ∙ ones-shift r.level (n + 1) in
    let below : n < c = number_below key c m _ _ n r in
    elim (cases_lt (n % 2) 1) [
      | inl low ↦
          let even : n % 2 ≡ 0 = omega arith in
          inl (even, ones ∙ ones_of_even n even, ones_some 54 n (omega arith) e.some)
      | inr high ↦
          let one : n ≡ 1 = e.carried (omega arith) in
          inr (one, ones ∙ ap (λ (k : ℕ). count_ones (k + 1)) one ∙ ones-even 1 ∙ ones_one, ap count_ones one ∙ ones_one)
    ]

-- more bytes follow, and no join waits
pub at_end_goes_on : (key : List ℕ) (stack : List (List ℕ)) (c : ℕ) (m : List ℕ) → IsWaitingAtEnd key stack c m → c < 2 ^ 54 → 54 ≤ length stack
    → count_ones c ≢ 1 → IsWaiting key stack c m
at_end_goes_on key stack c m e small fits several =
    let n : ℕ = e.number in
    elim (at_end_ones key stack c m e small) [
      | inl h ↦
          let half : n ≡ 2 * (n / 2) = omega (arith, h.0) in
          let ones : ℕ = count_ones n in
          let top : ones < length stack = omega (arith, ones_below c small, h.1) in
          let done : take ones stack ++ get_or stack ones [] ∷ [] ≡ waiting key 54 0 c m =
          IsMerging-last key c m (take ones stack) (get_or stack ones []) (n / 2)
          (subst (λ (k : ℕ). IsMerging key c m (take ones stack) (get_or stack ones []) k) half e.merging) small in
          rw h.1 (take_more stack ones [] top ∙ done)
      | inr h ↦ absurd (several h.1)
    ]

-- more bytes follow, and the halves are joined
pub at_end_joined : (key : List ℕ) (stack : List (List ℕ)) (c : ℕ) (m : List ℕ) → IsWaitingAtEnd key stack c m → c < 2 ^ 54 → 54 ≤ length stack
    → 1024 * c ≤ length m → count_ones c ≡ 1 → IsWaiting key (set stack 0 (parent_value key (get_or stack 0 []) (get_or stack 1 []) 0)) c m
at_end_joined key stack c m e small fits long single =
    let n : ℕ = e.number in
    elim (at_end_ones key stack c m e small) [
      | inl h ↦ absurd (omega (arith, h.1, h.2, single))
      | inr h ↦
          let two : IsMerging key c m (take 1 stack) (get_or stack 1 []) 1 =
          subst (λ (k : ℕ). IsMerging key c m (take 1 stack) (get_or stack 1 []) k) h.0
          (subst (λ (k : ℕ). IsMerging key c m (take k stack) (get_or stack k []) n) h.2 e.merging) in
          let value : List ℕ = parent_value key (get_or stack 0 []) (get_or stack 1 []) 0 in
          IsMerging-put key c m stack value 0 0
          (IsMerging-join key c m stack (get_or stack 0 []) (get_or stack 1 []) 1 1 two refl (omega arith) (omega arith) refl small long) refl (omega arith) small
    ]
