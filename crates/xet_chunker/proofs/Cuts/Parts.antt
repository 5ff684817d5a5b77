-- The candidates of the parts of a message, and the cuts that follow from all candidates.
use Rattle.std.proofs.Common.{◌≡◌, ℕ, zero, suc, ◌+◌, ◌-◌, ◌<◌, ◌≤◌, ◌⊎◌, true, false, List, ◌∷◌, ◌++◌, length, take, drop, min, refl, sym, ap, subst, ◌∙◌, arith, inl, inr, length-append, length-drop, []}
use Rattle.std.proofs.Math.Seq.{drop-append-add}
use Rattle.std.proofs.lemmas.Bool.{cases_Bool, cases_lt, le-leb, lt-leb}
use Rattle.std.proofs.lemmas.List.{drop-append-le, take-append-le}
use Rattle.xet_chunker.specs.Gear.{gear_of}
use Rattle.xet_chunker.specs.Cuts.{cuts, cuts_at, is_low}
use Rattle.xet_chunker.specs.Candidates.{is_candidate, candidates}
use Rattle.xet_chunker.specs.Chosen.{AreChosen, AreSized, first_from, next_cut}
use Rattle.xet_chunker.proofs.Cuts.Finding.{candidate_is}
use Rattle.xet_chunker.proofs.Cuts.Choosing.{last_is, next_is, no_more}

pub local : (before part after : List ℕ) (place : ℕ) → 64 ≤ place → place ≤ length part →
    is_candidate (before ++ (part ++ after)) (length before + place) ≡ is_candidate part place
local before part after place low fits =
    let whole : length (before ++ (part ++ after)) ≡ length before + (length part + length after) = length-append before (part ++ after) ∙ ap (λ (n : ℕ). length before + n) (length-append part after) in
    let at : length before + place - 64 ≡ length before + (place - 64) = omega arith in
    let rest : length (drop (place - 64) part) ≡ length part - (place - 64) = length-drop (place - 64) part in
    candidate_is (before ++ (part ++ after)) (length before + place) (omega arith) (omega arith)
    ∙ ap (λ (l : List ℕ). is_low (gear_of (take 64 l))) (ap (λ (n : ℕ). drop n (before ++ (part ++ after))) at ∙ drop-append-add before (part ++ after) (place - 64) ∙ drop-append-le (place - 64) part after (omega arith))
    ∙ ap (λ (l : List ℕ). is_low (gear_of l)) (take-append-le 64 (drop (place - 64) part) after (omega arith))
    ∙ sym (candidate_is part place low fits)

pub in_parts : (m : List ℕ) (from j k : ℕ) → candidates m from (j + k) ≡ candidates m from j ++ candidates m (from + j) k
unfolding candidates
in_parts m from zero k = ap (λ (n : ℕ). candidates m from n) (omega arith) ∙ ap (λ (n : ℕ). candidates m n k) (omega arith)
in_parts m from (suc j) k =
    let e : suc j + k ≡ suc (j + k) = omega arith in
    let f : from + suc j ≡ suc from + j = omega arith in
    elim (cases_Bool (is_candidate m (suc from))) [
      | inl t ↦ rw (e, f, t) (ap (λ (l : List ℕ). suc from ∷ l) (in_parts m (suc from) j k))
      | inr g ↦ rw (e, f, g) (in_parts m (suc from) j k)
    ]

-- ---- the first candidate from a place on

-- p is the first candidate of m that isn't below `from`, of the n places after `a`; or there is none, and p is another number
record IsFirst (m : List ℕ) (a n from other p : ℕ) : Type 0 where
  pub before : (q : ℕ) → a < q → q ≤ a + n → from ≤ q → q < p → is_candidate m q ≡ false
  pub here : ((is_candidate m p ≡ true) × (from ≤ p) × (p ≤ a + n)) ⊎ ((p ≡ other) × ((q : ℕ) → a < q → q ≤ a + n → from ≤ q → is_candidate m q ≡ false))

-- one place more in front that is below `from`, or no candidate
in_front : (m : List ℕ) (a n from other p : ℕ) → (from ≤ suc a → is_candidate m (suc a) ≡ false) → IsFirst m (suc a) n from other p → IsFirst m a (suc n) from other p
in_front m a n from other p none f =
    record {
      before = λ q lo hi after under. elim (cases_lt (suc a) q) [
        | inl more ↦ f.before q more (omega arith) after under
        | inr here ↦ let e : suc a ≡ q = omega arith in subst (λ (k : ℕ). is_candidate m k ≡ false) e (none (omega arith))
      ];
      here = elim f.here [
        | inl found ↦ inl (found.0, found.1, let h = found.2 in omega arith)
        | inr past ↦ inr (
          past.0,
          λ q lo hi after. elim (cases_lt (suc a) q) [
            | inl more ↦ past.1 q more (omega arith) after
            | inr here ↦ let e : suc a ≡ q = omega arith in subst (λ (k : ℕ). is_candidate m k ≡ false) e (none (omega arith))
          ],
        )
      ];
    }

first_is : (m : List ℕ) (a n from other : ℕ) → IsFirst m a n from other (first_from (candidates m a n) from other)
unfolding candidates first_from
first_is m a zero from other = record { before = λ q lo hi f b. absurd (omega arith); here = inr (refl, λ q lo hi f. absurd (omega arith)) }
first_is m a (suc n) from other =
    elim (cases_Bool (is_candidate m (suc a))) [
      | inl t ↦ elim (cases_lt (suc a) from) [
        | inl less ↦ rw (t, lt-leb from (suc a) less) (in_front m a n from other _ (λ le. absurd (omega arith)) (first_is m (suc a) n from other))
        | inr more ↦ rw (t, le-leb from (suc a) more) (record { before = λ q lo hi f b. absurd (omega arith); here = inl (t, more, omega arith) })
      ]
      | inr g ↦ rw g (in_front m a n from other _ (λ le. g) (first_is m (suc a) n from other))
    ]

-- ---- the cuts

-- the next cut is chosen
record Step (m : List ℕ) (start cut : ℕ) : Type 0 where
  pub later : start < cut
  pub cuts_go_on : cuts_at start (drop start m) ≡ cut ∷ cuts_at cut (drop cut m)

step : (m : List ℕ) (start : ℕ) → start < length m → Step m start (next_cut (candidates m 0 (length m)) (length m) start)
step m start more =
    let count : ℕ = length m in
    let p : ℕ = first_from (candidates m 0 count) (start + 8192) count in
    let f : IsFirst m 0 count (start + 8192) count p = first_is m 0 count (start + 8192) count in
    let cut : ℕ = min p (min (start + 131072) count) in
    let j : ℕ = cut - start in
    elim f.here [
      | inl found ↦
          let is = found.0 in
          let low : start + 8192 ≤ p = found.1 in
          let high : p ≤ 0 + count = found.2 in
          let at : start + j ≡ cut = omega arith in
          record {
            later = omega arith;
            cuts_go_on = subst (λ (k : ℕ). cuts_at start (drop start m) ≡ k ∷ cuts_at k (drop k m)) at
                (next_is m start j (omega arith) (omega arith) (omega arith) (λ q lo hi. f.before q (omega arith) (omega arith) lo (omega arith))
                (elim (cases_lt (start + 131072) p) [
                  | inl far ↦ inl (omega arith)
                  | inr near ↦ let e : p ≡ start + j = omega arith in inr (subst (λ (k : ℕ). is_candidate m k ≡ true) e is)
                ]));
          }
      | inr past ↦
          let e : p ≡ count = past.0 in
          let at : start + j ≡ cut = omega arith in
          record {
            later = omega arith;
            cuts_go_on = subst (λ (k : ℕ). cuts_at start (drop start m) ≡ k ∷ cuts_at k (drop k m)) at
                (elim (cases_lt (count - start) 131072) [
                  | inl few ↦ last_is m start j (omega arith) (omega arith) (omega arith) (λ q lo hi. past.1 q (omega arith) (omega arith) lo)
                  | inr many ↦ next_is m start j (omega arith) (omega arith) (omega arith) (λ q lo hi. past.1 q (omega arith) (omega arith) lo) (inl (omega arith))
                ]);
          }
    ]

chosen_from : (m : List ℕ) (fuel start : ℕ) → length m - start ≤ fuel → AreChosen (candidates m 0 (length m)) (length m) start (cuts_at start (drop start m))
unfolding AreChosen
chosen_from m zero start h = rw (no_more m start start (omega arith)) (omega arith)
chosen_from m (suc fuel) start h =
    elim (cases_lt start (length m)) [
      | inl more ↦
          let s = step m start more in
          let later = s.later in
          rw s.cuts_go_on (more, refl, chosen_from m fuel (next_cut (candidates m 0 (length m)) (length m) start) (omega arith))
      | inr done ↦ rw (no_more m start start done) done
    ]

pub all_chosen : (m : List ℕ) → AreChosen (candidates m 0 (length m)) (length m) 0 (cuts m)
all_chosen m = chosen_from m (length m) 0 (omega arith)

-- ---- the sizes of chunks

first_from-later : (found : List ℕ) (from other : ℕ) → (first_from found from other ≡ other) ⊎ (from ≤ first_from found from other)
unfolding first_from
first_from-later [] from other = inl refl
first_from-later (p ∷ found) from other =
    elim (cases_lt p from) [
      | inl less ↦ rw (lt-leb from p less) (first_from-later found from other)
      | inr more ↦ rw (le-leb from p more) (inr more)
    ]

sized : (found : List ℕ) (count start : ℕ) (l : List ℕ) → AreChosen found count start l → AreSized count start l
unfolding AreChosen AreSized
sized found count start [] done = done
sized found count start (cut ∷ l) chosen =
    let p : ℕ = first_from found (start + 8192) count in
    let more = chosen.0 in
    let e : cut ≡ min p (min (start + 131072) count) = chosen.1 in
    let rest = sized found count cut l chosen.2 in
    elim (first_from-later found (start + 8192) count) [
      | inl none ↦ let q : p ≡ count = none in (
        omega arith,
        omega arith,
        omega arith,
        elim (cases_lt (start + 131072) count) [
          | inl far ↦ inr (omega arith)
          | inr near ↦ inl (omega arith)
        ],
        rest,
      )
      | inr some ↦ let q : start + 8192 ≤ p = some in (
        omega arith,
        omega arith,
        omega arith,
        elim (cases_lt count (start + 8192)) [
          | inl short ↦ inl (omega arith)
          | inr long ↦ inr (omega arith)
        ],
        rest,
      )
    ]

pub all_sized : (m : List ℕ) → AreSized (length m) 0 (cuts m)
all_sized m = sized (candidates m 0 (length m)) (length m) 0 (cuts m) (all_chosen m)
