-- How the cuts of a message go on after some of its bytes.
use Rattle.std.proofs.Common.{◌≡◌, ℕ, zero, suc, ◌+◌, ◌^◌, ◌<◌, ◌≤◌, true, false, List, [], ◌∷◌, ◌++◌, length, take, drop, refl, sym, ap, ◌∙◌, arith, rules, length-take-le, length-drop, inl, inr, add-zero}
use Rattle.std.proofs.lemmas.Bool.{cases_Bool}
use Rattle.xet_chunker.specs.Gear.{next_gear, gear_after}
use Rattle.xet_chunker.specs.Cuts.{cuts_from, ends, is_low}
use Rattle.xet_chunker.specs.Steps.Scan.{before_low}
use Rattle.xet_chunker.proofs.Cuts.Window.{gear_after-below, forgotten}

-- ---- when a chunk ends

ends_early : (size gear : ℕ) → size < 8192 → ends size gear ≡ false
unfolding ends
ends_early size gear h = search rules

ends_full : (size gear : ℕ) → 131072 ≤ size → ends size gear ≡ true
unfolding ends
ends_full size gear h = search rules

ends_low : (size gear : ℕ) → 8192 ≤ size → is_low gear ≡ true → ends size gear ≡ true
unfolding ends
ends_low size gear h low = search rules

ends_not : (size gear : ℕ) → size < 131072 → is_low gear ≡ false → ends size gear ≡ false
unfolding ends
ends_not size gear h low = search rules

-- ---- one byte

on : (at size gear b : ℕ) (rest : List ℕ) → ends (suc size) (next_gear gear b) ≡ false → cuts_from at size gear (b ∷ rest) ≡ cuts_from (suc at) (suc size) (next_gear gear b) rest
unfolding cuts_from
on at size gear b rest h = rw h refl

end : (at size gear b : ℕ) (rest : List ℕ) → ends (suc size) (next_gear gear b) ≡ true → cuts_from at size gear (b ∷ rest) ≡ suc at ∷ cuts_from (suc at) 0 0 rest
unfolding cuts_from
end at size gear b rest h = rw h refl

-- ---- several bytes

-- the cuts go on after some bytes from the state that these leave
abbrev pub GoesOn : ℕ → ℕ → ℕ → List ℕ → List ℕ → Type 0
GoesOn at size gear d rest = cuts_from at size gear (d ++ rest) ≡ cuts_from (at + length d) (size + length d) (gear_after gear d) rest

none : (at size gear : ℕ) (rest : List ℕ) → GoesOn at size gear [] rest
unfolding gear_after
none at size gear rest = rw (add-zero at, add-zero size) refl

more : (at size gear b : ℕ) (d rest : List ℕ) → ends (suc size) (next_gear gear b) ≡ false → GoesOn (suc at) (suc size) (next_gear gear b) d rest → GoesOn at size gear (b ∷ d) rest
unfolding gear_after
more at size gear b d rest h next =
    on at size gear b (d ++ rest) h ∙ next
    ∙ ap (λ (n : ℕ). cuts_from n (suc size + length d) (gear_after (next_gear gear b) d) rest) (omega arith)
    ∙ ap (λ (n : ℕ). cuts_from (at + suc (length d)) n (gear_after (next_gear gear b) d) rest) (omega arith)

-- no chunk ends before it has 8192 bytes
pub early : (at size gear : ℕ) (d rest : List ℕ) → size + length d < 8192 → GoesOn at size gear d rest
early at size gear [] rest h = none at size gear rest
early at size gear (b ∷ d) rest h =
    more at size gear b d rest (ends_early (suc size) (next_gear gear b) (omega arith)) (early (suc at) (suc size) (next_gear gear b) d rest (omega arith))

-- nor does one end where no gear is low, before it has 131072 bytes
pub without_low : (at size gear : ℕ) (d rest : List ℕ) → length d ≤ before_low gear d → size + length d < 131072 → GoesOn at size gear d rest
unfolding before_low
without_low at size gear [] rest l h = none at size gear rest
without_low at size gear (b ∷ d) rest l h =
    elim (cases_Bool (is_low (next_gear gear b))) [
      | inl t ↦ absurd (let l1 = rw t at l in omega arith)
      | inr f ↦ let l1 = rw f at l in
          more at size gear b d rest (ends_not (suc size) (next_gear gear b) (omega arith) f)
          (without_low (suc at) (suc size) (next_gear gear b) d rest (omega arith) (omega arith))
    ]

-- the next cut is n bytes after place `at`
abbrev pub EndsAfter : ℕ → ℕ → ℕ → ℕ → List ℕ → List ℕ → Type 0
EndsAfter n at size gear d rest = cuts_from at size gear (d ++ rest) ≡ (at + n) ∷ cuts_from (at + n) 0 0 rest

same_end : (at n at' n' : ℕ) (rest : List ℕ) → at + n ≡ at' + n' → ◌≡◌ {A = List ℕ} ((at + n) ∷ cuts_from (at + n) 0 0 rest) ((at' + n') ∷ cuts_from (at' + n') 0 0 rest)
same_end at n at' n' rest e = ap (λ (k : ℕ). k ∷ cuts_from k 0 0 rest) e

ends_here : (at size gear b : ℕ) (rest : List ℕ) → ends (suc size) (next_gear gear b) ≡ true → EndsAfter 1 at size gear (b ∷ []) rest
ends_here at size gear b rest h = end at size gear b rest h ∙ ap (λ (k : ℕ). k ∷ cuts_from k 0 0 rest) (omega arith)

ends_later : (n at size gear b : ℕ) (d rest : List ℕ) → ends (suc size) (next_gear gear b) ≡ false → EndsAfter n (suc at) (suc size) (next_gear gear b) d rest → EndsAfter (suc n) at size gear (b ∷ d) rest
ends_later n at size gear b d rest h next = on at size gear b (d ++ rest) h ∙ next ∙ same_end (suc at) n at (suc n) rest (omega arith)

-- a chunk ends after the first low gear, from 8192 bytes on
pub at_low : (at size gear : ℕ) (d rest : List ℕ) → before_low gear d < length d → 8191 ≤ size → size + before_low gear d < 131072 →
    EndsAfter (suc (before_low gear d)) at size gear (take (suc (before_low gear d)) d) rest
unfolding before_low
at_low at size gear [] rest l s h = absurd (omega arith)
at_low at size gear (b ∷ d) rest l s h =
    elim (cases_Bool (is_low (next_gear gear b))) [
      | inl t ↦ rw t (ends_here at size gear b rest (ends_low (suc size) (next_gear gear b) (omega arith) t))
      | inr f ↦ let l1 = rw f at l in let h1 = rw f at h in
          rw f (ends_later _ at size gear b _ rest (ends_not (suc size) (next_gear gear b) (omega arith) f)
          (at_low (suc at) (suc size) (next_gear gear b) d rest (omega arith) (omega arith) (omega arith)))
    ]

-- a chunk ends with its byte number 131072
pub at_most : (at size gear : ℕ) (d rest : List ℕ) → length d ≤ before_low gear d → 0 < length d → size + length d ≡ 131072 →
    EndsAfter (length d) at size gear d rest
unfolding before_low
at_most at size gear [] rest l s h = absurd (omega arith)
at_most at size gear (b ∷ []) rest l s h = ends_here at size gear b rest (ends_full (suc size) (next_gear gear b) (omega arith))
at_most at size gear (b ∷ (b' ∷ d)) rest l s h =
    elim (cases_Bool (is_low (next_gear gear b))) [
      | inl t ↦ absurd (let l1 = rw t at l in omega arith)
      | inr f ↦ let l1 = rw f at l in
          ends_later _ at size gear b (b' ∷ d) rest (ends_not (suc size) (next_gear gear b) (omega arith) f)
          (at_most (suc at) (suc size) (next_gear gear b) (b' ∷ d) rest (omega arith) (omega arith) (omega arith))
    ]

-- ---- the gear that is forgotten

-- two gears are the same after k more bytes
abbrev Agree : ℕ → ℕ → ℕ → Type 0
Agree k g h = (d : List ℕ) → k ≤ length d → gear_after g d ≡ gear_after h d

agree_next : (k g h b : ℕ) → Agree (suc k) g h → Agree k (next_gear g b) (next_gear h b)
unfolding gear_after
agree_next k g h b same d long = same (b ∷ d) (omega arith)

-- the cuts are the same from two gears that are the same once the chunk has 8192 bytes
same_cuts : (k at size g h : ℕ) (d : List ℕ) → size + k ≤ 8192 → Agree k g h → cuts_from at size g d ≡ cuts_from at size h d
unfolding cuts_from gear_after
same_cuts k at size g h [] s same = refl
same_cuts zero at size g h (b ∷ d) s same = ap (λ (x : ℕ). cuts_from at size x (b ∷ d)) (same [] (omega arith))
same_cuts (suc zero) at size g h (b ∷ d) s same = rw (agree_next zero g h b same [] (omega arith)) refl
same_cuts (suc (suc k)) at size g h (b ∷ d) s same =
    on at size g b d (ends_early (suc size) (next_gear g b) (omega arith))
    ∙ same_cuts (suc k) (suc at) (suc size) (next_gear g b) (next_gear h b) d (omega arith) (agree_next (suc k) g h b same)
    ∙ sym (on at size h b d (ends_early (suc size) (next_gear h b) (omega arith)))

-- the gear of the first 8128 bytes of a chunk changes no cut
pub forgets : (at size g h : ℕ) (d : List ℕ) → g < 2 ^ 64 → h < 2 ^ 64 → size ≤ 8128 → cuts_from at size g d ≡ cuts_from at size h d
forgets at size g h d gs hs s = same_cuts 64 at size g h d (omega arith) (λ e long. forgotten g e gs long ∙ sym (forgotten h e hs long))

-- ---- what a chunker skips, reads and tests

-- bytes of which the 8128th is the last, if any, are skipped: the gear stays
skipped : (at size gear : ℕ) (d rest : List ℕ) → gear < 2 ^ 64 → (0 < length d → size + length d ≤ 8128) →
    cuts_from at size gear (d ++ rest) ≡ cuts_from (at + length d) (size + length d) gear rest
unfolding gear_after
skipped at size gear [] rest g h = none at size gear rest
skipped at size gear (b ∷ d) rest g h =
    early at size gear (b ∷ d) rest (omega arith)
    ∙ forgets (at + length (b ∷ d)) (size + length (b ∷ d)) (gear_after gear (b ∷ d)) gear rest (gear_after-below gear (b ∷ d) g) g (omega arith)

-- bytes of which number 8191 is the last, if any, are read and not tested
read : (at size gear : ℕ) (d rest : List ℕ) → (0 < length d → size + length d < 8192) → GoesOn at size gear d rest
read at size gear [] rest h = none at size gear rest
read at size gear (b ∷ d) rest h = early at size gear (b ∷ d) rest (omega arith)

-- the state after s bytes that are skipped and u that are read
pub ready : (at size gear s u : ℕ) (d rest : List ℕ) → gear < 2 ^ 64 → s + u ≤ length d → (0 < s → size + s ≤ 8128) → (0 < u → size + s + u < 8192) →
    cuts_from at size gear (take s d ++ (take u (drop s d) ++ rest)) ≡ cuts_from (at + s + u) (size + s + u) (gear_after gear (take u (drop s d))) rest
ready at size gear s u d rest g fits hs hu =
    let a : length (take s d) ≡ s = length-take-le s d (omega arith) in
    let b : length (take u (drop s d)) ≡ u = length-take-le u (drop s d) (omega (arith, length-drop s d)) in
    rw (a, b) at (skipped at size gear (take s d) (take u (drop s d) ++ rest) g (rw a hs)
    ∙ read (at + length (take s d)) (size + length (take s d)) gear (take u (drop s d)) rest (rw (a, b) hu))
