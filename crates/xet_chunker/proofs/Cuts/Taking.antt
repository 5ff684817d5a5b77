-- What a chunker does with a piece.
use Rattle.std.proofs.Common.{◌≡◌, ℕ, suc, ◌+◌, ◌^◌, ◌<◌, ◌≤◌, List, ◌∷◌, ◌++◌, length, take, drop, sym, ap, subst, ◌∙◌, arith, length-append}
use Rattle.std.proofs.Math.Seq.{take-add}
use Rattle.std.proofs.lemmas.List.{append_assoc, take-take, take_all}
use Rattle.xet_chunker.specs.Gear.{gear_after}
use Rattle.xet_chunker.specs.Cuts.{cuts_at, cuts_from}
use Rattle.xet_chunker.specs.Chunker.{Holds}
use Rattle.xet_chunker.specs.Steps.Scan.{before_low}
use Rattle.xet_chunker.specs.declared.chunker.Chunker.{Chunker}
use Rattle.xet_chunker.proofs.Cuts.Passing.{EndsAfter, GoesOn, ready, at_low, at_most, without_low}

-- the parts of a piece: s bytes that are skipped, u that are read, and n more
parts : (s u n : ℕ) (d : List ℕ) → take (s + u + n) d ≡ take s d ++ (take u (drop s d) ++ take n (drop u (drop s d)))
parts s u n d =
    let e : s + u + n ≡ s + (u + n) = omega arith in
    ap (λ (k : ℕ). take k d) e ∙ take-add s (u + n) d ∙ ap (λ (l : List ℕ). take s d ++ l) (take-add u n (drop s d))

-- what a chunker finds of bytes that it takes in after it skipped and read some
pub record Begun (s u : ℕ) (c : Chunker) (d : List ℕ) : Type 0 where
  pub small : c.gear < 2 ^ 64
  pub fits : s + u ≤ length d
  pub skips : 0 < s → c.size + s ≤ 8128
  pub reads : 0 < u → c.size + s + u < 8192

-- the cuts of the chunk, of n more bytes after those, and of what follows
pub begun : (s u n : ℕ) (c : Chunker) (d : List ℕ) (at : ℕ) (chunk rest : List ℕ) → Begun s u c d → Holds c chunk →
    cuts_at at (chunk ++ (take (s + u + n) d ++ rest))
    ≡ cuts_from (at + length chunk + s + u) (c.size + s + u) (gear_after c.gear (take u (drop s d))) (take n (drop u (drop s d)) ++ rest)
unfolding Holds
begun s u n c d at chunk rest b h =
    let x : List ℕ = take s d in
    let y : List ℕ = take u (drop s d) in
    let z : List ℕ = take n (drop u (drop s d)) in
    let grouped : take (s + u + n) d ++ rest ≡ x ++ (y ++ (z ++ rest)) =
    ap (λ (l : List ℕ). l ++ rest) (parts s u n d) ∙ append_assoc x (y ++ z) rest ∙ ap (λ (l : List ℕ). x ++ l) (append_assoc y z rest) in
    h.2 at (take (s + u + n) d ++ rest) ∙ ap (cuts_from (at + length chunk) c.size c.gear) grouped
    ∙ ready (at + length chunk) c.size c.gear s u d (z ++ rest) b.small b.fits b.skips b.reads

-- where the chunk ends after n bytes of those that are tested
pub ended : (s u n : ℕ) (c : Chunker) (d : List ℕ) (at : ℕ) (chunk rest : List ℕ) → Begun s u c d → Holds c chunk →
    EndsAfter n (at + length chunk + s + u) (c.size + s + u) (gear_after c.gear (take u (drop s d))) (take n (drop u (drop s d))) rest →
    cuts_at at (chunk ++ (take (s + u + n) d ++ rest)) ≡ (at + (length chunk + (s + u + n))) ∷ cuts_at (at + (length chunk + (s + u + n))) rest
ended s u n c d at chunk rest b h e =
    begun s u n c d at chunk rest b h ∙ e ∙ ap (λ (k : ℕ). k ∷ cuts_at k rest) (omega arith)

pub ended_low : (s u t k g : ℕ) (c : Chunker) (d look : List ℕ) (at : ℕ) (chunk rest : List ℕ) → Begun s u c d → Holds c chunk →
    g ≡ gear_after c.gear (take u (drop s d)) → look ≡ take t (drop u (drop s d)) → k ≡ before_low g look → k < length look → k < t →
    8191 ≤ c.size + s + u → c.size + s + u + k < 131072 →
    cuts_at at (chunk ++ (take (s + u + k + 1) d ++ rest)) ≡ (at + (length chunk + (s + u + k + 1))) ∷ cuts_at (at + (length chunk + (s + u + k + 1))) rest
ended_low s u t k g c d look at chunk rest b h eg el ek some less late most =
    let here : EndsAfter (suc k) (at + length chunk + s + u) (c.size + s + u) g (take (suc k) look) rest =
    rw (sym ek) at (at_low (at + length chunk + s + u) (c.size + s + u) g look rest (omega arith) late (omega arith)) in
    let cut : take (suc k) look ≡ take (suc k) (drop u (drop s d)) = ap (take (suc k)) el ∙ take-take (suc k) t (drop u (drop s d)) (omega arith) in
    let n : s + u + suc k ≡ s + u + k + 1 = omega arith in
    subst (λ (m : ℕ). cuts_at at (chunk ++ (take m d ++ rest)) ≡ (at + (length chunk + m)) ∷ cuts_at (at + (length chunk + m)) rest) n
    (ended s u (suc k) c d at chunk rest b h
    (subst (λ (g' : ℕ). EndsAfter (suc k) (at + length chunk + s + u) (c.size + s + u) g' (take (suc k) (drop u (drop s d))) rest) eg
    (subst (λ (l : List ℕ). EndsAfter (suc k) (at + length chunk + s + u) (c.size + s + u) g l rest) cut here)))

pub ended_most : (s u t k g : ℕ) (c : Chunker) (d look : List ℕ) (at : ℕ) (chunk rest : List ℕ) → Begun s u c d → Holds c chunk →
    g ≡ gear_after c.gear (take u (drop s d)) → look ≡ take t (drop u (drop s d)) → k ≡ before_low g look → length look ≡ t → t ≤ k →
    0 < t → c.size + s + u + t ≡ 131072 →
    cuts_at at (chunk ++ (take (s + u + t) d ++ rest)) ≡ (at + (length chunk + (s + u + t))) ∷ cuts_at (at + (length chunk + (s + u + t))) rest
ended_most s u t k g c d look at chunk rest b h eg el ek size none some most =
    let here : EndsAfter (length look) (at + length chunk + s + u) (c.size + s + u) g look rest =
    at_most (at + length chunk + s + u) (c.size + s + u) g look rest (omega arith) (omega arith) (omega arith) in
    ended s u t c d at chunk rest b h
    (subst (λ (g' : ℕ). EndsAfter t (at + length chunk + s + u) (c.size + s + u) g' (take t (drop u (drop s d))) rest) eg
    (subst (λ (l : List ℕ). EndsAfter t (at + length chunk + s + u) (c.size + s + u) g l rest) el
    (subst (λ (m : ℕ). EndsAfter m (at + length chunk + s + u) (c.size + s + u) g look rest) size here)))

pub goes_on : (s u t k g g2 size : ℕ) (c : Chunker) (d look : List ℕ) (chunk : List ℕ) → Begun s u c d → Holds c chunk →
    g ≡ gear_after c.gear (take u (drop s d)) → look ≡ take t (drop u (drop s d)) → k ≡ before_low g look → length look ≡ t → t ≤ k →
    g2 ≡ gear_after g look → s + u + t ≡ length d → size ≡ c.size + s + u + t → size < 131072 →
    Holds (record { size = size; gear = g2 }) (chunk ++ d)
unfolding Holds
goes_on s u t k g g2 size c d look chunk b h eg el ek long none eg2 all es below =
    let whole : take (s + u + t) d ≡ d = take_all (s + u + t) d (omega arith) in
    let total : length (chunk ++ d) ≡ length chunk + length d = length-append chunk d in
    let held : c.size ≡ length chunk = h.0 in (
      omega arith,
      omega arith,
      λ at rest.
          let on : GoesOn (at + length chunk + s + u) (c.size + s + u) g look rest = without_low _ _ g look rest (omega arith) (omega arith) in
          ap (cuts_at at) (append_assoc chunk d rest)
          ∙ ap (λ (l : List ℕ). cuts_at at (chunk ++ (l ++ rest))) (sym whole)
          ∙ begun s u t c d at chunk rest b h
          ∙ ap (λ (g' : ℕ). cuts_from (at + length chunk + s + u) (c.size + s + u) g' (take t (drop u (drop s d)) ++ rest)) (sym eg)
          ∙ ap (λ (l : List ℕ). cuts_from (at + length chunk + s + u) (c.size + s + u) g (l ++ rest)) (sym el)
          ∙ on
          ∙ ap (λ (p : ℕ). cuts_from p (c.size + s + u + length look) (gear_after g look) rest) (omega arith)
          ∙ ap (λ (p : ℕ). cuts_from (at + length (chunk ++ d)) p (gear_after g look) rest) (omega arith)
          ∙ ap (λ (p : ℕ). cuts_from (at + length (chunk ++ d)) size p rest) (sym eg2),
    )
