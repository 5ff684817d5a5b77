-- The candidates of a message, and where a scan finds the next one.
use Rattle.std.proofs.Common.{◌≡◌, ℕ, zero, suc, ◌+◌, ◌-◌, ◌<◌, ◌≤◌, true, false, List, [], ◌∷◌, ◌++◌, length, take, drop, refl, sym, ap, ◌∙◌, arith, length-take-le, length-drop, length-append, inl, inr, leb, min}
use Rattle.std.proofs.Math.Seq.{take-add, take-append-add}
use Rattle.std.proofs.Math.Bool.{and-false}
use Rattle.std.proofs.lemmas.Bool.{cases_Bool, cases_lt, le-leb, lt-leb, both_ways}
use Rattle.std.proofs.lemmas.List.{take-append-le, take-append-drop, drop-drop}
use Rattle.xet_chunker.specs.Gear.{gear_after, gear_of, next_gear}
use Rattle.xet_chunker.specs.Cuts.{is_low}
use Rattle.xet_chunker.specs.Candidates.{Passed, is_candidate, candidates}
use Rattle.xet_chunker.specs.Steps.Scan.{before_low}
use Rattle.xet_chunker.proofs.Cuts.Window.{gear_after-append, window_alone}

-- ---- what a scan says of each place

pub before_low-fits : (g : ℕ) (d : List ℕ) → before_low g d ≤ length d
unfolding before_low
before_low-fits g [] = omega arith
before_low-fits g (b ∷ d) =
    elim (cases_Bool (is_low (next_gear g b))) [
      | inl t ↦ rw t (omega arith)
      | inr f ↦ rw f (let rest = before_low-fits (next_gear g b) d in omega arith)
    ]

-- before the first low gear none is low
pub passed_high : (g : ℕ) (d : List ℕ) (i : ℕ) → i < before_low g d → is_low (gear_after g (take (suc i) d)) ≡ false
unfolding before_low gear_after
passed_high g [] i h = absurd (omega arith)
passed_high g (b ∷ d) zero h =
    elim (cases_Bool (is_low (next_gear g b))) [
      | inl t ↦ absurd (let h1 = rw t at h in omega arith)
      | inr f ↦ f
    ]
passed_high g (b ∷ d) (suc i) h =
    elim (cases_Bool (is_low (next_gear g b))) [
      | inl t ↦ absurd (let h1 = rw t at h in omega arith)
      | inr f ↦ let h1 = rw f at h in passed_high (next_gear g b) d i (omega arith)
    ]

pub found_low : (g : ℕ) (d : List ℕ) → before_low g d < length d → is_low (gear_after g (take (suc (before_low g d)) d)) ≡ true
unfolding before_low gear_after
found_low g [] h = absurd (omega arith)
found_low g (b ∷ d) h =
    elim (cases_Bool (is_low (next_gear g b))) [
      | inl t ↦ rw t t
      | inr f ↦ let h1 = rw f at h in rw f (found_low (next_gear g b) d (omega arith))
    ]

-- where no gear of the first k is low
pub at_least : (g : ℕ) (d : List ℕ) (k : ℕ) → k ≤ length d → ((i : ℕ) → i < k → is_low (gear_after g (take (suc i) d)) ≡ false) → k ≤ before_low g d
at_least g d k fits high =
    elim (cases_lt (before_low g d) k) [
      | inl less ↦ absurd (both_ways _ (high (before_low g d) less) (found_low g d (omega arith)))
      | inr more ↦ more
    ]

-- ---- 64 bytes decide

window_gear : (w : List ℕ) (i : ℕ) → i + 64 ≤ length w → gear_after (gear_after 0 (take 63 w)) (take (suc i) (drop 63 w)) ≡ gear_of (take 64 (drop i w))
window_gear w i h =
    let n : 63 + suc i ≡ i + 64 = omega arith in
    sym (gear_after-append 0 (take 63 w) (take (suc i) (drop 63 w)))
    ∙ ap (gear_after 0) (sym (take-add 63 (suc i) w) ∙ ap (λ (k : ℕ). take k w) n ∙ take-add i 64 w)
    ∙ window_alone 0 (take i w) (take 64 (drop i w)) (omega arith) (omega (arith, length-take-le 64 (drop i w) (omega (arith, length-drop i w))))

pub candidate_is : (m : List ℕ) (p : ℕ) → 64 ≤ p → p ≤ length m → is_candidate m p ≡ is_low (gear_of (take 64 (drop (p - 64) m)))
unfolding is_candidate
candidate_is m p low high = rw (le-leb 64 p low, le-leb p (length m) high) refl

pub candidate_scan : (m : List ℕ) (b i p : ℕ) → p ≡ b + 64 + i → p ≤ length m → is_candidate m p ≡ is_low (gear_after (gear_after 0 (take 63 (drop b m))) (take (suc i) (drop 63 (drop b m))))
candidate_scan m b i p e h =
    let place : p - 64 ≡ b + i = omega arith in
    candidate_is m p (omega arith) h
    ∙ ap (λ (l : List ℕ). is_low (gear_of (take 64 l))) (ap (λ (k : ℕ). drop k m) place ∙ sym (drop-drop i b m))
    ∙ ap is_low (sym (window_gear (drop b m) i (omega (arith, length-drop b m))))

past : (m : List ℕ) (p : ℕ) → length m < p → is_candidate m p ≡ false
unfolding is_candidate
past m p h = rw (lt-leb p (length m) h) (and-false (leb 64 p))

pub candidate_within : (m : List ℕ) (p : ℕ) → is_candidate m p ≡ true → p ≤ length m
unfolding is_candidate
candidate_within m p h =
    elim (cases_lt (length m) p) [
      | inl less ↦ absurd (both_ways (is_candidate m p) (past m p less) h)
      | inr fits ↦ fits
    ]

pub too_early : (m : List ℕ) (p : ℕ) → p < 64 → is_candidate m p ≡ false
unfolding is_candidate
too_early m p h = rw (lt-leb 64 p h) refl

-- ---- the list of candidates

pub candidates-none : (m : List ℕ) (from k x : ℕ) → ((p : ℕ) → from < p → p ≤ from + k → is_candidate m p ≡ false) → candidates m from (k + x) ≡ candidates m (from + k) x
unfolding candidates
candidates-none m from zero x none = ap (λ (n : ℕ). candidates m from n) (omega arith) ∙ ap (λ (n : ℕ). candidates m n x) (omega arith)
candidates-none m from (suc k) x none =
    let e : suc k + x ≡ suc (k + x) = omega arith in
    let f : from + suc k ≡ suc from + k = omega arith in
    rw (e, f, none (suc from) (omega arith) (omega arith)) (candidates-none m (suc from) k x (λ p lo hi. none p (omega arith) (omega arith)))

pub candidates-next : (m : List ℕ) (from x : ℕ) → is_candidate m (suc from) ≡ true → candidates m from (suc x) ≡ suc from ∷ candidates m (suc from) x
unfolding candidates
candidates-next m from x is = rw is refl

-- ---- what a finder finds in a piece d of a part, of which it reads the first u bytes without tests

gear_at : (part d rest : List ℕ) (n : ℕ) → n ≤ length d → gear_of (take (length part + n) (part ++ (d ++ rest))) ≡ gear_after (gear_of part) (take n d)
gear_at part d rest n h =
    ap gear_of (take-append-add part (d ++ rest) n ∙ ap (λ (l : List ℕ). part ++ l) (take-append-le n d rest h))
    ∙ gear_after-append 0 part (take n d)

candidate_stream : (m : List ℕ) (p : ℕ) → 64 ≤ p → p ≤ length m → is_candidate m p ≡ is_low (gear_of (take p m))
candidate_stream m p low high =
    let e : p - 64 + 64 ≡ p = omega arith in
    candidate_is m p low high
    ∙ ap is_low (sym (ap gear_of (ap (λ (k : ℕ). take k m) (sym e) ∙ take-add (p - 64) 64 m)
    ∙ window_alone 0 (take (p - 64) m) (take 64 (drop (p - 64) m)) (omega arith) (omega (arith, length-take-le 64 (drop (p - 64) m) (omega (arith, length-drop (p - 64) m))))))

-- the gear after u bytes of d, and after those and n more
abbrev pub ready_gear : List ℕ → List ℕ → ℕ → ℕ
ready_gear part d u = gear_after (gear_of part) (take u d)

ready_more : (part d : List ℕ) (u n : ℕ) → gear_after (gear_of part) (take (u + n) d) ≡ gear_after (ready_gear part d u) (take n (drop u d))
ready_more part d u n = ap (gear_after (gear_of part)) (take-add u n d) ∙ gear_after-append (gear_of part) (take u d) (take n (drop u d))

place_is : (part d rest : List ℕ) (u i p : ℕ) → p ≡ length part + (u + suc i) → 64 ≤ p → u + suc i ≤ length d →
    is_candidate (part ++ (d ++ rest)) p ≡ is_low (gear_after (ready_gear part d u) (take (suc i) (drop u d)))
place_is part d rest u i p e low fits =
    let whole : length (part ++ (d ++ rest)) ≡ length part + (length d + length rest) = length-append part (d ++ rest) ∙ ap (λ (n : ℕ). length part + n) (length-append d rest) in
    candidate_stream (part ++ (d ++ rest)) p low (omega arith)
    ∙ ap is_low (ap (λ (n : ℕ). gear_of (take n (part ++ (d ++ rest)))) e ∙ gear_at part d rest (u + suc i) fits ∙ ready_more part d u (suc i))

-- of the first u bytes, and k more, none is before a candidate
quiet : (part d rest : List ℕ) (count u k : ℕ) → count ≡ min 63 (length part) → u ≡ min (63 - count) (length d) → u + k ≤ length d →
    k ≤ before_low (ready_gear part d u) (drop u d) →
    (p : ℕ) → length part < p → p ≤ length part + (u + k) → is_candidate (part ++ (d ++ rest)) p ≡ false
quiet part d rest count u k ec eu fits high p lo hi =
    elim (cases_lt p 64) [
      | inl less ↦ too_early (part ++ (d ++ rest)) p less
      | inr more ↦
          place_is part d rest u (p - length part - u - 1) p (omega arith) more (omega arith)
          ∙ passed_high (ready_gear part d u) (drop u d) (p - length part - u - 1) (omega arith)
    ]

pub none_in : (part d rest : List ℕ) (count u k g : ℕ) → count ≡ min 63 (length part) → u ≡ min (63 - count) (length d) →
    g ≡ ready_gear part d u → k ≡ before_low g (drop u d) → k ≡ length (drop u d) →
    candidates (part ++ (d ++ rest)) (length part) (length d) ≡ []
unfolding candidates
none_in part d rest count u k g ec eu eg ek all =
    let tail : length (drop u d) ≡ length d - u = length-drop u d in
    let high : k ≡ before_low (ready_gear part d u) (drop u d) = ek ∙ ap (λ (h : ℕ). before_low h (drop u d)) eg in
    let e : length d ≡ u + k + 0 = omega arith in
    ap (candidates (part ++ (d ++ rest)) (length part)) e
    ∙ candidates-none (part ++ (d ++ rest)) (length part) (u + k) 0 (quiet part d rest count u k ec eu (omega arith) (omega arith))

pub first_in : (part d rest : List ℕ) (count u k g : ℕ) → count ≡ min 63 (length part) → u ≡ min (63 - count) (length d) →
    g ≡ ready_gear part d u → k ≡ before_low g (drop u d) → k < length (drop u d) →
    candidates (part ++ (d ++ rest)) (length part) (u + k + 1) ≡ (length part + (u + k + 1)) ∷ []
unfolding candidates
first_in part d rest count u k g ec eu eg ek some =
    let m : List ℕ = part ++ (d ++ rest) in
    let tail : length (drop u d) ≡ length d - u = length-drop u d in
    let high : k ≡ before_low (ready_gear part d u) (drop u d) = ek ∙ ap (λ (h : ℕ). before_low h (drop u d)) eg in
    let e : suc (length part + (u + k)) ≡ length part + (u + k + 1) = omega arith in
    let low : is_low (gear_after (ready_gear part d u) (take (suc (before_low (ready_gear part d u) (drop u d))) (drop u d))) ≡ true = found_low (ready_gear part d u) (drop u d) (omega arith) in
    let here : is_candidate m (suc (length part + (u + k))) ≡ true =
    place_is part d rest u k (suc (length part + (u + k))) (omega arith) (omega arith) (omega arith)
    ∙ ap (λ (n : ℕ). is_low (gear_after (ready_gear part d u) (take (suc n) (drop u d)))) high ∙ low in
    candidates-none m (length part) (u + k) 1 (quiet part d rest count u k ec eu (omega arith) (omega arith))
    ∙ candidates-next m (length part + (u + k)) 0 here
    ∙ ap (λ (n : ℕ). n ∷ []) e

-- ---- what the finder then holds

pub passed_first : (part d : List ℕ) (count u k g h : ℕ) → count ≡ min 63 (length part) → u ≡ min (63 - count) (length d) →
    g ≡ ready_gear part d u → k < length (drop u d) → h ≡ gear_after g (take (k + 1) (drop u d)) →
    Passed (record { count = count + u; gear = h }) (part ++ take (u + k + 1) d)
unfolding Passed
passed_first part d count u k g h ec eu eg some eh =
    let tail : length (drop u d) ≡ length d - u = length-drop u d in
    let n : u + (k + 1) ≡ u + k + 1 = omega arith in
    let taken : length (take (u + k + 1) d) ≡ u + k + 1 = length-take-le (u + k + 1) d (omega arith) in
    let whole : length (part ++ take (u + k + 1) d) ≡ length part + length (take (u + k + 1) d) = length-append part (take (u + k + 1) d) in (
      omega arith,
      eh ∙ ap (λ (f : ℕ). gear_after f (take (k + 1) (drop u d))) eg ∙ sym (ready_more part d u (k + 1))
          ∙ ap (λ (j : ℕ). gear_after (gear_of part) (take j d)) n ∙ sym (gear_after-append 0 part (take (u + k + 1) d)),
    )

pub passed_all : (part d : List ℕ) (count u g h : ℕ) → count ≡ min 63 (length part) → u ≡ min (63 - count) (length d) →
    g ≡ ready_gear part d u → h ≡ gear_after g (drop u d) →
    Passed (record { count = count + u; gear = h }) (part ++ d)
unfolding Passed
passed_all part d count u g h ec eu eg eh =
    let whole : length (part ++ d) ≡ length part + length d = length-append part d in (
      omega arith,
      eh ∙ ap (λ (f : ℕ). gear_after f (drop u d)) eg ∙ sym (gear_after-append (gear_of part) (take u d) (drop u d))
          ∙ ap (gear_after (gear_of part)) (take-append-drop u d) ∙ sym (gear_after-append 0 part d),
    )
