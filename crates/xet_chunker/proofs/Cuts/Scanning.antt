-- What a loop over bytes keeps of their gear, and of the first low one.
use Rattle.std.proofs.Common.{◌≡◌, ℕ, suc, ◌+◌, ◌<◌, ◌≤◌, true, false, List, length, drop, get_or, refl, add-one, arith, ◌^◌, ap, sym, ◌∙◌, take, ◌∷◌, []}
use Rattle.std.proofs.Math.Seq.{drop-cons, take-add}
use Rattle.std.proofs.lemmas.Bool.{le-ltb}
use Rattle.std.proofs.lemmas.List.{drop_all, take_more}
use Rattle.xet_chunker.specs.Gear.{next_gear, gear_after}
use Rattle.xet_chunker.specs.Cuts.{is_low}
use Rattle.xet_chunker.specs.Steps.Scan.{before_low}
use Rattle.xet_chunker.proofs.Cuts.Window.{gear_after-append}

pub gear_more : (g : ℕ) (xs : List ℕ) (i : ℕ) → i < length xs → gear_after g (drop i xs) ≡ gear_after (next_gear g (get_or xs i 0)) (drop (i + 1) xs)
unfolding gear_after
gear_more g xs i h = rw (add-one, drop-cons xs i 0) refl

pub taken_more : (f : ℕ) (xs : List ℕ) (i : ℕ) → i < length xs → gear_after f (take (i + 1) xs) ≡ next_gear (gear_after f (take i xs)) (get_or xs i 0)
unfolding gear_after
taken_more f xs i h = ap (gear_after f) (take_more xs i 0 h) ∙ gear_after-append f (take i xs) (get_or xs i 0 ∷ [])

pub gear_all : (g : ℕ) (xs : List ℕ) (i : ℕ) → length xs ≤ i → gear_after g (drop i xs) ≡ g
unfolding gear_after
gear_all g xs i h = rw (drop_all i xs h) refl

pub low_more : (g : ℕ) (xs : List ℕ) (i : ℕ) → i < length xs → is_low (next_gear g (get_or xs i 0)) ≡ false → before_low g (drop i xs) ≡ suc (before_low (next_gear g (get_or xs i 0)) (drop (i + 1) xs))
unfolding before_low
low_more g xs i h f = rw (add-one, drop-cons xs i 0, f) refl

pub low_here : (g : ℕ) (xs : List ℕ) (i : ℕ) → i < length xs → is_low (next_gear g (get_or xs i 0)) ≡ true → before_low g (drop i xs) ≡ 0
unfolding before_low
low_here g xs i h t = rw (drop-cons xs i 0, t) refl

pub low_all : (g : ℕ) (xs : List ℕ) (i : ℕ) → length xs ≤ i → before_low g (drop i xs) ≡ 0
unfolding before_low
low_all g xs i h = rw (drop_all i xs h) refl

-- ---- several bytes at once

-- the scan from gear g at place i goes on from gear h at place k, n bytes later
pub record Passes (g i h k n : ℕ) (xs : List ℕ) : Type 0 where
  pub count : before_low g (drop i xs) ≡ n + before_low h (drop k xs)
  pub gear : gear_after g (drop i xs) ≡ gear_after h (drop k xs)
  pub passed : (f : ℕ) → gear_after f (take i xs) ≡ g → gear_after f (take k xs) ≡ h

pub passes_one : (g a i j : ℕ) (xs : List ℕ) → a ≡ next_gear g (get_or xs i 0) → j ≡ i + 1 → j ≤ length xs → 2 ^ 48 ≤ a → Passes g i a j 1 xs
passes_one g a i j xs ea ej fits high =
    let x : ℕ = next_gear g (get_or xs i 0) in
    let one : is_low x ≡ false = le-ltb x (2 ^ 48) (omega arith) in
    let after : drop (i + 1) xs ≡ drop j xs = ap (λ (n : ℕ). drop n xs) (sym ej) in
    let count1 : before_low g (drop i xs) ≡ suc (before_low x (drop (i + 1) xs)) = low_more g xs i (omega arith) one in
    let same : before_low x (drop (i + 1) xs) ≡ before_low a (drop j xs) = ap (before_low x) after ∙ ap (λ (n : ℕ). before_low n (drop j xs)) (sym ea) in
    record {
      count = omega arith;
      gear = gear_more g xs i (omega arith) ∙ ap (gear_after x) after ∙ ap (λ (n : ℕ). gear_after n (drop j xs)) (sym ea);
      passed = λ f e.
          ap (λ (n : ℕ). gear_after f (take n xs)) ej ∙ taken_more f xs i (omega arith) ∙ ap (λ (h : ℕ). next_gear h (get_or xs i 0)) e ∙ sym ea;
    }

pub passes_then : (g i h k h' k' m n s : ℕ) (xs : List ℕ) → Passes g i h k m xs → Passes h k h' k' n xs → s ≡ m + n → Passes g i h' k' s xs
passes_then g i h k h' k' m n s xs p q e = record { count = let a = p.count in let b = q.count in omega arith; gear = p.gear ∙ q.gear; passed = λ f e. q.passed f (p.passed f e) }

-- the gear after n bytes, and after k + 1 more
pub passed_both : (f g n k : ℕ) (xs : List ℕ) → gear_after f (take n xs) ≡ g → gear_after g (take (k + 1) (drop n xs)) ≡ gear_after f (take (n + k + 1) xs)
passed_both f g n k xs e =
    let place : n + (k + 1) ≡ n + k + 1 = omega arith in
    ap (λ (h : ℕ). gear_after h (take (k + 1) (drop n xs))) (sym e)
    ∙ sym (gear_after-append f (take n xs) (take (k + 1) (drop n xs)))
    ∙ ap (gear_after f) (sym (take-add n (k + 1) xs) ∙ ap (λ (m : ℕ). take m xs) place)
