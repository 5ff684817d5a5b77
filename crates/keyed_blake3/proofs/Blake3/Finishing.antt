-- The end of a message: the waiting values are joined with the open chunk, from the top of the stack.
use Rattle.std.proofs.Common.{◌≡◌, ℕ, inl, inr, ◌+◌, ◌-◌, ◌*◌, ◌/◌, ◌%◌, ◌^◌, ◌<◌, ◌≤◌, ◌==◌, if◌then◌else◌, List, [], ◌∷◌, ◌++◌, length, take, drop, get_or, replicate, refl, sym, ap, ◌∙◌, arith, length-drop}
use Rattle.std.specs.Int.RustNames.{count_ones}
use Rattle.std.proofs.Math.Nat.{lt_of_mul-lt-mul_left, mul-add, one-mul}
use Rattle.std.proofs.lemmas.Nat.{mul-le, pow-add, pow_pos}
use Rattle.std.proofs.lemmas.List.{drop-drop, take_all, take_more}
use Rattle.std.proofs.lemmas.Bool.Decides.{nat_tests}
use Rattle.keyed_blake3.specs.Blake3.{after_blocks, block, blocks_before_last, chunk_end_flag, compress, keyed_hash_flag, parent_value, root_flag, start_flag, subtree_value, words_at}
use Rattle.keyed_blake3.specs.Blake3Hasher.{IsTaken}
use Rattle.keyed_blake3.specs.Steps.Tree.{IsEnded, IsWaitingAtEnd, joined, waiting}
use Rattle.keyed_blake3.specs.declared.hasher.Hasher.{Hasher}
use Rattle.keyed_blake3.specs.declared.tree.Tree.{Tree}
use Rattle.keyed_blake3.proofs.Blake3.Absorbing.{chunk_value-last}
use Rattle.keyed_blake3.proofs.Blake3.Blocks.{subtree_value-chunk}
use Rattle.keyed_blake3.proofs.Blake3.Merging.{at_end_ones, ones_some}
use Rattle.keyed_blake3.proofs.Blake3.Waiting.{joined-same, joined-waiting, joined_push, rest_at}

-- the value of the open chunk, by the flag that is added, is joined with what waits
pub root_value : (key : List ℕ) (s : Hasher) (m rest : List ℕ) (number held : ℕ) → IsTaken key s number m → s.count < 2 ^ 64
    → number ≡ (s.count - 1) / 64 → held ≡ s.count - 64 * number → rest ≡ take held s.block
    → joined (words_at 8 key) (take (count_ones (number / 16)) s.tree.cv_stack)
    (λ f. compress s.tree.chaining_value (words_at 16 (block rest 0)) (number / 16) (length rest) (keyed_hash_flag + start_flag (number % 16) + chunk_end_flag + f)) 8
    ≡ subtree_value (words_at 8 key) 54 0 m 8
unfolding IsTaken
root_value key s m rest number held h small en eh er =
    let kw : List ℕ = words_at 8 key in
    let c : ℕ = number / 16 in
    let open_chunk : List ℕ = drop (1024 * c) m in
    let total : s.count ≡ length m = h.0 in
    let last : blocks_before_last m ≡ number = sym (en ∙ ap (λ (i : ℕ). (i - 1) / 64) total) in
    let size : length open_chunk ≡ length m - 1024 * c = length-drop (1024 * c) m in
    let waits : take (count_ones c) s.tree.cv_stack ≡ waiting kw 54 0 c m = h.1.2 in
    let value : s.tree.chaining_value ≡ after_blocks kw c open_chunk (number % 16) = h.1.1 in
    let held_is : length m - 64 * number ≡ held = omega arith in
    let bytes : rest ≡ drop (64 * number) m = er ∙ (rw held_is at h.2) in
    let rest_size : length rest ≡ length m - 64 * number = ap length bytes ∙ length-drop (64 * number) m in
    let place : 1024 * c + 64 * (number % 16) ≡ 64 * number = omega arith in
    let same_bytes : drop (64 * (number % 16)) open_chunk ≡ rest = drop-drop (64 * (number % 16)) (1024 * c) m ∙ ap (λ (i : ℕ). drop i m) place ∙ sym bytes in
    let blocks : block open_chunk (number % 16) ≡ block rest 0 = ap (λ (y : List ℕ). take 64 (y ++ replicate 64 0)) same_bytes in
    let same : (f : ℕ) → compress s.tree.chaining_value (words_at 16 (block rest 0)) c (length rest) (keyed_hash_flag + start_flag (number % 16) + chunk_end_flag + f) ≡ rest_at kw 0 c m f =
    λ f. sym (subtree_value-chunk kw 0 c open_chunk f (omega arith)
    ∙ chunk_value-last kw c open_chunk f (number % 16) (length rest) (omega arith) (omega arith)
    ∙ ap (λ (v : List ℕ). compress v (words_at 16 (block open_chunk (number % 16))) c (length rest) (keyed_hash_flag + start_flag (number % 16) + chunk_end_flag + f)) (sym value)
    ∙ ap (λ (b : List ℕ). compress s.tree.chaining_value (words_at 16 b) c (length rest) (keyed_hash_flag + start_flag (number % 16) + chunk_end_flag + f)) blocks) in
    let start : 2 ^ 0 * c ≡ c = one-mul c in
    let law = joined-waiting kw 54 0 c 54 m (omega arith) refl (omega arith) (omega arith) 8 in
    rw waits
    (joined-same kw (waiting kw 54 0 c m) (λ f. compress s.tree.chaining_value (words_at 16 (block rest 0)) c (length rest) (keyed_hash_flag + start_flag (number % 16) + chunk_end_flag + f)) (rest_at kw 0 c m) same 8
    ∙ (rw start at law))

-- one more of the stack is joined
pub joined_top : (key : List ℕ) (stack : List (List ℕ)) (used : ℕ) (w : List ℕ) (x : ℕ → List ℕ) (flags : ℕ) → 0 < used → used ≤ length stack
    → w ≡ get_or stack (used - 1) [] → joined key (take used stack) x flags ≡ joined key (take (used - 1) stack) (λ f. parent_value key w (x 0) f) flags
joined_top key stack used w x flags some fits e =
    let top : used ≡ used - 1 + 1 = omega arith in
    let cut : take used stack ≡ take (used - 1) stack ++ w ∷ [] =
    ap (λ (k : ℕ). take k stack) top ∙ take_more stack (used - 1) [] (omega arith) ∙ ap (λ (y : List ℕ). take (used - 1) stack ++ y ∷ []) (sym e) in
    ap (λ (ws : List (List ℕ)). joined key ws x flags) cut ∙ joined_push key (take (used - 1) stack) w x flags

-- nothing is left to join
pub joined_done : (key : List ℕ) (stack : List (List ℕ)) (used : ℕ) (x : ℕ → List ℕ) (flags : ℕ) → used ≡ 0 → joined key (take used stack) x flags ≡ x flags
unfolding joined
joined_done key stack used x flags e = rw e refl

pub root_flag-some : (n : ℕ) → 0 < n → (if n == 0 then root_flag else 0) ≡ 0
root_flag-some n h = grind (arith, nat_tests)

pub IsTaken_key : (key : List ℕ) (s : Hasher) (n : ℕ) (m : List ℕ) → IsTaken key s n m → s.tree.key ≡ words_at 8 key
unfolding IsTaken
IsTaken_key key s n m h = h.1.0

-- where m ends with a chunk the last value is joined with what waits before it
pub ended_value : (kw : List ℕ) (t : Tree) (c used : ℕ) (m : List ℕ) → IsEnded kw t c m → c < 2 ^ 54 → length m ≡ 1024 * c
    → (count_ones c ≤ 2 → used ≡ 1) → (2 ≤ count_ones c → used ≡ count_ones c - 1)
    → (0 < used) × (x : ℕ → List ℕ) × (get_or t.cv_stack used [] ≡ x 0) × (joined kw (take used t.cv_stack) x 8 ≡ subtree_value kw 54 0 m 8)
ended_value kw t c used m h small size few several =
    let e : IsWaitingAtEnd kw t.cv_stack c m = h.2 in
    let n : ℕ = e.number in
    let r = e.merging in
    let k : ℕ = r.level in
    let place : ℕ = 2 ^ k * n in
    let some : 0 < 2 ^ k = pow_pos k in
    let end : place + 2 ^ k ≡ c = omega (arith, mul-add (2 ^ k) n 1, r.place) in
    let all : 2 ^ k * 2 ^ r.bits ≡ 2 ^ 54 = sym (pow-add 2 k r.bits) ∙ ap (λ (i : ℕ). 2 ^ i) r.depth in
    let low : n < 2 ^ r.bits = lt_of_mul-lt-mul_left (2 ^ k) {m = n} {n = 2 ^ r.bits} (omega (arith, all, end)) in
    let whole : take (1024 * 2 ^ k) (drop (1024 * place) m) ≡ drop (1024 * place) m =
    take_all (1024 * 2 ^ k) (drop (1024 * place) m) (omega (arith, length-drop (1024 * place) m)) in
    let before : used ≡ count_ones n = elim (at_end_ones kw t.cv_stack c m e small) [
      | inl o ↦ several (omega (arith, o.1, o.2)) ∙ omega (arith, o.1)
      | inr o ↦ few (omega (arith, o.1)) ∙ sym o.2
    ] in
    let law = joined-waiting kw r.bits k n 54 m low r.depth (omega arith) (omega arith) 8 in
    let any : 0 < count_ones n = ones_some 54 n (omega (arith, end, mul-le 1 n (2 ^ k) n (omega arith) (omega arith))) e.some in (
      omega (arith, before, any),
      rest_at kw k place m,
      ap (λ (i : ℕ). get_or t.cv_stack i []) before ∙ r.joined ∙ ap (λ (x : List ℕ). subtree_value kw k place x 0) whole,
      rw (before, r.values) law,
    )
