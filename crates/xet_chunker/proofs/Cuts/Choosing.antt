-- The next cut of a message, by its candidates.
use Rattle.std.proofs.Common.{◌≡◌, ℕ, zero, suc, ◌+◌, ◌-◌, ◌<◌, ◌≤◌, ◌⊎◌, true, false, List, [], ◌∷◌, ◌++◌, length, take, drop, refl, sym, ap, subst, ◌∙◌, arith, length-take-le, length-drop, inl, inr, add-zero, ◌==◌}
use Rattle.std.proofs.lemmas.Bool.{cases_lt, both_ways, ne_eqb}
use Rattle.std.proofs.lemmas.List.{drop-drop, take-take, take-append-drop, append-nil, take_all, drop_all}
use Rattle.xet_chunker.specs.Gear.{gear_after}
use Rattle.xet_chunker.specs.Cuts.{cuts_at, cuts_from, is_low}
use Rattle.xet_chunker.specs.Chunker.{Holds}
use Rattle.xet_chunker.specs.Candidates.{is_candidate}
use Rattle.xet_chunker.specs.CutChoice.{NoneBetween}
use Rattle.xet_chunker.specs.Steps.Scan.{before_low}
use Rattle.xet_chunker.specs.declared.chunker.Chunker.{Chunker}
use Rattle.xet_chunker.proofs.Cuts.Finding.{at_least, before_low-fits, candidate_scan, passed_high}
use Rattle.xet_chunker.proofs.Cuts.Passing.{EndsAfter, at_low, at_most, early, without_low}
use Rattle.xet_chunker.proofs.Cuts.Taking.{Begun, begun, ended}

-- a chunker at the beginning of a chunk
abbrev fresh : Chunker
fresh = record { size = 0; gear = 0 }

pub fresh_holds : Holds fresh []
unfolding Holds
fresh_holds = (refl, omega arith, λ at rest. rw add-zero refl)

-- the gear of bytes 8129 to 8191 of a chunk alone, and the bytes after these
abbrev warm : List ℕ → ℕ
warm r = gear_after 0 (take 63 (drop 8128 r))

abbrev tested : List ℕ → List ℕ
tested r = drop 63 (drop 8128 r)

fresh_begun : (r : List ℕ) → 8191 ≤ length r → Begun 8128 63 fresh r
fresh_begun r long = record { small = omega arith; fits = omega arith; skips = λ some. omega arith; reads = λ some. omega arith }

tested_len : (m : List ℕ) (start : ℕ) → length (tested (drop start m)) ≡ length m - start - 8128 - 63
tested_len m start = length-drop 63 (drop 8128 (drop start m)) ∙ ap (λ (k : ℕ). k - 63) (length-drop 8128 (drop start m) ∙ ap (λ (k : ℕ). k - 8128) (length-drop start m))

-- the gear of each of the first n tested bytes says whether the place after it is a candidate
scan : (m : List ℕ) (start n i p : ℕ) → p ≡ start + 8192 + i → p ≤ length m → i < n →
    is_candidate m p ≡ is_low (gear_after (warm (drop start m)) (take (suc i) (take n (tested (drop start m)))))
scan m start n i p e h in_n =
    candidate_scan m (start + 8128) i p (omega arith) h
    ∙ ap (λ (l : List ℕ). is_low (gear_after (gear_after 0 (take 63 l)) (take (suc i) (drop 63 l)))) (sym (drop-drop 8128 start m))
    ∙ ap (λ (l : List ℕ). is_low (gear_after (warm (drop start m)) l)) (sym (take-take (suc i) n (tested (drop start m)) (omega arith)))

-- where the first k of n places are no candidates, the gears of the bytes before them are not low
looks : (m : List ℕ) (start n k : ℕ) → start + 8191 + n ≤ length m → k ≤ n → ((p : ℕ) → start + 8192 ≤ p → p < start + 8192 + k → is_candidate m p ≡ false) →
    k ≤ before_low (warm (drop start m)) (take n (tested (drop start m)))
looks m start n k fits few none =
    let rest = tested_len m start in
    let size : length (take n (tested (drop start m))) ≡ n = length-take-le n (tested (drop start m)) (omega arith) in
    at_least (warm (drop start m)) (take n (tested (drop start m))) k (omega arith)
    (λ i h. sym (scan m start n i (start + 8192 + i) (omega arith) (omega arith) (omega arith)) ∙ none (start + 8192 + i) (omega arith) (omega arith))

-- the next cut is j bytes after the last one, where no candidate comes before it
pub next_is : (m : List ℕ) (start j : ℕ) → 8192 ≤ j → j ≤ 131072 → start + j ≤ length m →
    ((p : ℕ) → start + 8192 ≤ p → p < start + j → is_candidate m p ≡ false) → ((j ≡ 131072) ⊎ (is_candidate m (start + j) ≡ true)) →
    cuts_at start (drop start m) ≡ (start + j) ∷ cuts_at (start + j) (drop (start + j) m)
next_is m start j low high fits none last =
    let r : List ℕ = drop start m in
    let n : ℕ = j - 8191 in
    let look : List ℕ = take n (tested r) in
    let whole : length r ≡ length m - start = length-drop start m in
    let rest : length (tested r) ≡ length m - start - 8128 - 63 = tested_len m start in
    let size : length look ≡ n = length-take-le n (tested r) (omega arith) in
    let most : before_low (warm r) look ≤ length look = before_low-fits (warm r) look in
    let least : n - 1 ≤ before_low (warm r) look = looks m start n (n - 1) (omega arith) (omega arith) (λ p lo hi. none p lo (omega arith)) in
    let here : EndsAfter n (start + 0 + 8128 + 63) (0 + 8128 + 63) (warm r) look (drop j r) =
    elim (cases_lt (before_low (warm r) look) n) [
      | inl less ↦
          let k : suc (before_low (warm r) look) ≡ n = omega arith in
          let cut : take n look ≡ look = take_all n look (omega arith) in
          subst (λ (l : List ℕ). EndsAfter n (start + 0 + 8128 + 63) (0 + 8128 + 63) (warm r) l (drop j r)) cut
          (subst (λ (k : ℕ). EndsAfter k (start + 0 + 8128 + 63) (0 + 8128 + 63) (warm r) (take k look) (drop j r)) k
          (at_low (start + 0 + 8128 + 63) (0 + 8128 + 63) (warm r) look (drop j r) (omega arith) (omega arith) (omega arith)))
      | inr all ↦
          let full : j ≡ 131072 = elim last [
            | inl e ↦ e
            | inr is ↦ absurd (both_ways _ (passed_high (warm r) look (n - 1) (omega arith))
                (sym (scan m start n (n - 1) (start + j) (omega arith) fits (omega arith)) ∙ is))
          ] in
          subst (λ (k : ℕ). EndsAfter k (start + 0 + 8128 + 63) (0 + 8128 + 63) (warm r) look (drop j r)) size
          (at_most (start + 0 + 8128 + 63) (0 + 8128 + 63) (warm r) look (drop j r) (omega arith) (omega arith) (omega arith))
    ] in
    let parts : take (8128 + 63 + n) r ++ drop j r ≡ r = ap (λ (k : ℕ). take k r ++ drop j r) (omega arith) ∙ take-append-drop j r in
    ap (cuts_at start) (sym parts)
    ∙ ended 8128 63 n fresh r start [] (drop j r) (fresh_begun r (omega arith)) fresh_holds here
    ∙ ap (λ (k : ℕ). k ∷ cuts_at k (drop j r)) (omega arith)
    ∙ ap (λ (l : List ℕ). (start + j) ∷ cuts_at (start + j) l) (drop-drop j start m)

-- at the end of a message there is no further cut
pub no_more : (m : List ℕ) (at start : ℕ) → length m ≤ start → cuts_at at (drop start m) ≡ []
unfolding cuts_from
no_more m at start h = rw (drop_all start m h) refl

-- the last cut is the end of the message
ends_at : (at size gear : ℕ) → 0 < size → cuts_from at size gear [] ≡ at ∷ []
unfolding cuts_from
ends_at at zero gear h = absurd (omega arith)
ends_at at (suc size) gear h = let e : (suc size == 0) ≡ false = ne_eqb (suc size) 0 (λ e. omega arith) in rw e refl

pub last_is : (m : List ℕ) (start j : ℕ) → 0 < j → j < 131072 → start + j ≡ length m →
    ((p : ℕ) → start + 8192 ≤ p → p ≤ length m → is_candidate m p ≡ false) →
    cuts_at start (drop start m) ≡ (start + j) ∷ cuts_at (start + j) (drop (start + j) m)
last_is m start j some few e none =
    let r : List ℕ = drop start m in
    let whole : length r ≡ j = length-drop start m ∙ omega arith in
    let tail : cuts_at (start + j) (drop (start + j) m) ≡ [] = no_more m (start + j) (start + j) (omega arith) in
    elim (cases_lt j 8192) [
      | inl short ↦
          ap (cuts_at start) (sym (append-nil r))
          ∙ early start 0 0 r [] (omega arith)
          ∙ ends_at (start + length r) (0 + length r) (gear_after 0 r) (omega arith)
          ∙ ap (λ (k : ℕ). (start + k) ∷ []) whole
          ∙ ap (λ (l : List ℕ). (start + j) ∷ l) (sym tail)
      | inr long ↦
          let n : ℕ = j - 8191 in
          let look : List ℕ = take n (tested r) in
          let rest : length (tested r) ≡ length m - start - 8128 - 63 = tested_len m start in
          let size : length look ≡ n = length-take-le n (tested r) (omega arith) in
          let high : n ≤ before_low (warm r) look = looks m start n n (omega arith) (omega arith) (λ p lo hi. none p lo (omega arith)) in
          let parts : take (8128 + 63 + n) r ++ [] ≡ r = append-nil (take (8128 + 63 + n) r) ∙ take_all (8128 + 63 + n) r (omega arith) in
          ap (cuts_at start) (sym parts)
          ∙ begun 8128 63 n fresh r start [] [] (fresh_begun r (omega arith)) fresh_holds
          ∙ without_low (start + 0 + 8128 + 63) (0 + 8128 + 63) (warm r) look [] (omega arith) (omega arith)
          ∙ ends_at (start + 0 + 8128 + 63 + length look) (0 + 8128 + 63 + length look) (gear_after (warm r) look) (omega arith)
          ∙ ap (λ (k : ℕ). k ∷ []) (omega arith)
          ∙ ap (λ (l : List ℕ). (start + j) ∷ l) (sym tail)
    ]

-- no place up to the next candidate is one
pub unknown : (m : List ℕ) (start known place end : ℕ) → ((p : ℕ) → start + 8192 ≤ p → p ≤ known → is_candidate m p ≡ false) → NoneBetween m known end →
    start + 8192 ≤ place → place < end → is_candidate m place ≡ false
unknown m start known place end given none low high =
    elim (cases_lt known place) [
      | inl after ↦ none place after high
      | inr before ↦ given place low before
    ]
