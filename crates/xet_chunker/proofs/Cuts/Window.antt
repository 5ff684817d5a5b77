-- Only the last 64 bytes decide a gear.
use Rattle.std.proofs.Common.{◌≡◌, ℕ, zero, suc, ◌+◌, ◌-◌, ◌*◌, ◌%◌, ◌^◌, ◌<◌, ◌≤◌, List, [], ◌∷◌, ◌++◌, length, refl, sym, ap, ◌∙◌, arith}
use Rattle.std.proofs.Math.Nat.{mul_assoc, mul_left_comm}
use Rattle.std.proofs.lemmas.Nat.{pow-add}
use Rattle.std.specs.Prelude.{slice_index}
use Rattle.xet_chunker.specs.Gear.{gear_table, next_gear, gear_after}

doubled_once : (gear t : ℕ) → ((gear + gear) % 2 ^ 64 + t) % 2 ^ 64 ≡ (2 * gear + t) % 2 ^ 64
doubled_once gear t = omega arith

pub one_byte : (gear t byte : ℕ) → t ≡ slice_index gear_table byte → ((gear + gear) % 2 ^ 64 + t) % 2 ^ 64 ≡ next_gear gear byte
unfolding next_gear
one_byte gear t byte e = doubled_once gear t ∙ ap (λ (x : ℕ). (2 * gear + x) % 2 ^ 64) e

-- the gear after a number of bytes that is a power of two times a gear, and what the bytes add; and after one more
once : (gear t : ℕ) → (gear * 2 % 2 ^ 64 + t) % 2 ^ 64 ≡ (2 * gear + t) % 2 ^ 64
once gear t = omega arith

pub one_more : (gear t byte : ℕ) → t ≡ slice_index gear_table byte → (gear * 2 % 2 ^ 64 + t) % 2 ^ 64 ≡ next_gear gear byte
unfolding next_gear
one_more gear t byte e = once gear t ∙ ap (λ (x : ℕ). (2 * gear + x) % 2 ^ 64) e

two_twice : (gear s t : ℕ) → (gear * 4 % 2 ^ 64 + ((s + s) % 2 ^ 64 + t) % 2 ^ 64) % 2 ^ 64 ≡ (2 * ((gear * 2 % 2 ^ 64 + s) % 2 ^ 64) + t) % 2 ^ 64
two_twice gear s t = omega arith

pub two_more : (gear s t byte : ℕ) → t ≡ slice_index gear_table byte →
    (gear * 4 % 2 ^ 64 + ((s + s) % 2 ^ 64 + t) % 2 ^ 64) % 2 ^ 64 ≡ next_gear ((gear * 2 % 2 ^ 64 + s) % 2 ^ 64) byte
unfolding next_gear
two_more gear s t byte e = two_twice gear s t ∙ ap (λ (x : ℕ). (2 * ((gear * 2 % 2 ^ 64 + s) % 2 ^ 64) + x) % 2 ^ 64) e

three_twice : (gear s t : ℕ) → (gear * 8 % 2 ^ 64 + ((s + s) % 2 ^ 64 + t) % 2 ^ 64) % 2 ^ 64 ≡ (2 * ((gear * 4 % 2 ^ 64 + s) % 2 ^ 64) + t) % 2 ^ 64
three_twice gear s t = omega arith

pub three_more : (gear s t byte : ℕ) → t ≡ slice_index gear_table byte →
    (gear * 8 % 2 ^ 64 + ((s + s) % 2 ^ 64 + t) % 2 ^ 64) % 2 ^ 64 ≡ next_gear ((gear * 4 % 2 ^ 64 + s) % 2 ^ 64) byte
unfolding next_gear
three_more gear s t byte e = three_twice gear s t ∙ ap (λ (x : ℕ). (2 * ((gear * 4 % 2 ^ 64 + s) % 2 ^ 64) + x) % 2 ^ 64) e

four_twice : (gear s t : ℕ) → (gear * 16 % 2 ^ 64 + ((s + s) % 2 ^ 64 + t) % 2 ^ 64) % 2 ^ 64 ≡ (2 * ((gear * 8 % 2 ^ 64 + s) % 2 ^ 64) + t) % 2 ^ 64
four_twice gear s t = omega arith

pub four_more : (gear s t byte : ℕ) → t ≡ slice_index gear_table byte →
    (gear * 16 % 2 ^ 64 + ((s + s) % 2 ^ 64 + t) % 2 ^ 64) % 2 ^ 64 ≡ next_gear ((gear * 8 % 2 ^ 64 + s) % 2 ^ 64) byte
unfolding next_gear
four_more gear s t byte e = four_twice gear s t ∙ ap (λ (x : ℕ). (2 * ((gear * 8 % 2 ^ 64 + s) % 2 ^ 64) + x) % 2 ^ 64) e

pub gear_after-append : (gear : ℕ) (xs ys : List ℕ) → gear_after gear (xs ++ ys) ≡ gear_after (gear_after gear xs) ys
unfolding gear_after
gear_after-append gear [] ys = refl
gear_after-append gear (x ∷ xs) ys = gear_after-append (next_gear gear x) xs ys

pub next_gear-below : (gear byte : ℕ) → next_gear gear byte < 2 ^ 64
unfolding next_gear
next_gear-below gear byte = omega arith

pub gear_after-below : (gear : ℕ) (xs : List ℕ) → gear < 2 ^ 64 → gear_after gear xs < 2 ^ 64
unfolding gear_after
gear_after-below gear [] h = h
gear_after-below gear (x ∷ xs) h = gear_after-below (next_gear gear x) xs (next_gear-below gear x)

-- what a number that is added to a gear comes to after n more bytes
abbrev doubled : ℕ → ℕ → ℕ
doubled x zero = x
doubled x (suc n) = doubled (2 * x) n

moved : (x p : ℕ) → 2 * x * p ≡ x * (2 * p)
moved x p = mul_assoc 2 x p ∙ mul_left_comm 2 x p

doubled_is : (x n : ℕ) → doubled x n ≡ x * 2 ^ n
doubled_is x zero = omega arith
doubled_is x (suc n) =
    let step : 2 ^ (1 + n) ≡ 2 * 2 ^ n = pow-add 2 1 n in
    let same : 1 + n ≡ suc n = omega arith in
    doubled_is (2 * x) n ∙ moved x (2 ^ n) ∙ ap (λ (p : ℕ). x * p) (sym step ∙ ap (λ (k : ℕ). 2 ^ k) same)

one_step : (gear x b : ℕ) → next_gear ((gear + x) % 2 ^ 64) b ≡ (next_gear gear b + 2 * x) % 2 ^ 64
unfolding next_gear
one_step gear x b = omega arith

added : (gear x : ℕ) (xs : List ℕ) → gear_after ((gear + x) % 2 ^ 64) xs ≡ (gear_after gear xs + doubled x (length xs)) % 2 ^ 64
unfolding gear_after
added gear x [] = refl
added gear x (b ∷ xs) =
    let step : next_gear ((gear + x) % 2 ^ 64) b ≡ (next_gear gear b + 2 * x) % 2 ^ 64 = one_step gear x b in
    rw step (added (next_gear gear b) (2 * x) xs)

-- ---- 64 bytes are enough

vanishes : (a x r : ℕ) → (a + x * (2 ^ 64 * r)) % 2 ^ 64 ≡ a % 2 ^ 64
vanishes a x r =
    let e : x * (2 ^ 64 * r) ≡ 2 ^ 64 * (x * r) = mul_left_comm x (2 ^ 64) r in
    rw e (omega arith)

-- after 64 bytes nothing is left of the gear before them
pub forgotten : (gear : ℕ) (xs : List ℕ) → gear < 2 ^ 64 → 64 ≤ length xs → gear_after gear xs ≡ gear_after 0 xs
forgotten gear xs small long =
    let n : ℕ = length xs - 64 in
    let e : length xs ≡ 64 + n = omega arith in
    let start : (0 + gear) % 2 ^ 64 ≡ gear = omega arith in
    let below : gear_after 0 xs < 2 ^ 64 = gear_after-below 0 xs (omega arith) in
    let power : 2 ^ (64 + n) ≡ 2 ^ 64 * 2 ^ n = pow-add 2 64 n in
    let shift : doubled gear (length xs) ≡ gear * (2 ^ 64 * 2 ^ n) = doubled_is gear (length xs) ∙ ap (λ (k : ℕ). gear * 2 ^ k) e ∙ ap (λ (p : ℕ). gear * p) power in
    ap (λ (g : ℕ). gear_after g xs) (sym start) ∙ added 0 gear xs ∙ ap (λ (k : ℕ). (gear_after 0 xs + k) % 2 ^ 64) shift
    ∙ vanishes (gear_after 0 xs) gear (2 ^ n) ∙ omega arith

-- the gears of any bytes and 64 more are those of the 64 alone
pub window_alone : (gear : ℕ) (xs ys : List ℕ) → gear < 2 ^ 64 → 64 ≤ length ys → gear_after gear (xs ++ ys) ≡ gear_after 0 ys
window_alone gear xs ys small long =
    gear_after-append gear xs ys ∙ forgotten (gear_after gear xs) ys (gear_after-below gear xs small) long
