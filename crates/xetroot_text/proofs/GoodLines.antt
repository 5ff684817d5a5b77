-- What good lines say when more lines are appended.
use Rattle.std.proofs.Common.{arith, ◌≡◌, inl, inr, ◌+◌, ◌-◌, ◌^◌, ◌<◌, ◌≤◌, ℕ, Bool, true, false, not, IsTrue, List, [], ◌∷◌, ◌++◌, length, map, reverse, refl, sym, ap, subst, ◌∙◌, append-nil, length-append, nat_lt}
use Rattle.std.specs.Prelude.{filter, cond}
use Rattle.std.specs.List.{concat}
use Rattle.std.proofs.lemmas.Bool.{false_from_ne_true}
use Rattle.std.proofs.lemmas.List.{reverse-append, length-reverse}
use Rattle.xet_roots.specs.Groups.{Node}
use Rattle.xet_roots.specs.Roots.{total_size}
use Rattle.upload_session.specs.Session.{Placed, ArePlaced, chunks_of, is_taken, place, placed_from}
use Rattle.upload_session.proofs.Positions.{taken-overlaps}
use Rattle.line_io.specs.Lines.{byte_limit, content}
use Rattle.line_io.proofs.Lines.{concat-push}
use Rattle.pair_text.specs.Lines.{IsSeparator, IsPositionLine, SaysPair}
use Rattle.pair_text.proofs.GoodPairs.{pair-some}
use Rattle.xetroot_text.specs.Answer.{Say, TakeOtherPositions, AreGood, IsBad}
use Rattle.xetroot_text.specs.Answer.Say.{no_line, separator, position, pair}

-- a pair alone, as a put
abbrev pub alone : Placed → ℕ × List Node
alone p = (p.0, p.1 ∷ [])

pub say-more : (next middle last : ℕ) (before lines : List (List ℕ)) (placed more : List Placed) → Say next before placed middle → Say middle lines more last
    → Say next (before ++ lines) (placed ++ more) last
say-more next middle last [] lines placed more no_line rest = rest
say-more next middle last (line ∷ before) lines placed more (separator is say) rest =
    separator is (say-more next middle last before lines placed more say rest)
say-more next middle last (line ∷ before) lines placed more (position is say) rest =
    position is (say-more _ middle last before lines placed more say rest)
say-more next middle last (line ∷ before) lines (p ∷ placed) more (pair is low say) rest =
    pair is low (say-more (next + 1) middle last before lines placed more say rest)

-- no more pairs than bytes
say-few : (next last : ℕ) (lines : List (List ℕ)) (placed : List Placed) → Say next lines placed last → length placed ≤ length (concat lines)
say-few next last [] placed no_line = omega arith
say-few next last (line ∷ lines) placed (separator is say) = omega (arith, say-few next last lines placed say, length-append line (concat lines))
say-few next last (line ∷ lines) placed (position is say) = omega (arith, say-few _ last lines placed say, length-append line (concat lines))
say-few next last (line ∷ lines) (p ∷ placed) (pair is low say) =
    omega (arith, say-few (next + 1) last lines placed say, pair-some line p.1 is, length-append line (concat lines))

length-parts : {X : Type 0} (p : X → Bool) (xs : List X) → length (filter p xs) + length (filter (λ x. not (p x)) xs) ≡ length xs
length-parts p [] = refl
length-parts p (x ∷ xs) = choose (p x) (length-parts p xs)
  where
    choose : (b : Bool) → length (filter p xs) + length (filter (λ x. not (p x)) xs) ≡ length xs
        → length (cond b (x ∷ filter p xs) (filter p xs)) + length (cond (not b) (x ∷ filter (λ x. not (p x)) xs) (filter (λ x. not (p x)) xs))
        ≡ length (x ∷ xs)
    choose true rest = omega (arith, rest)
    choose false rest = omega (arith, rest)

pub length-place-one : (placed : List Placed) (first : ℕ) (chunk : Node) → length (place placed first (chunk ∷ [])) ≡ length placed + 1
length-place-one placed first chunk =
    let below = λ (p : Placed). nat_lt p.0 first in
    let front = filter below placed in
    let back = filter (λ p. not (below p)) placed in
    omega (arith, length-parts below placed, length-append (front ++ placed_from first (chunk ∷ [])) back, length-append front (placed_from first (chunk ∷ [])))

length-alone : (puts : List Placed) (pairs : List Placed) → ArePlaced (map alone puts) pairs → length pairs ≡ length puts
length-alone [] pairs none = ap length none
length-alone (p ∷ puts) pairs (before, were, some, free, is) =
    ap length is ∙ length-place-one before p.0 p.1 ∙ ap (λ n. n + 1) (length-alone puts before were) ∙ omega arith

pub AreGood-few : (lines : List (List ℕ)) (pairs : List Placed) (next : ℕ) → AreGood lines pairs next → length pairs ≤ length (concat lines)
AreGood-few lines pairs next good =
    let same = length-alone (reverse good.in_order) pairs good.apart in
    let few = say-few 0 next lines good.in_order good.say in
    omega (arith, same, few, length-reverse good.in_order)

-- a pair last others, at a position that isn't taken
pub TakeOtherPositions-more : (in_order pairs : List Placed) (next : ℕ) (node : Node) → TakeOtherPositions in_order pairs → is_taken pairs next ≡ false
    → TakeOtherPositions (in_order ++ (next, node) ∷ []) (place pairs next (node ∷ []))
TakeOtherPositions-more in_order pairs next node apart free =
    subst (λ l. ArePlaced (map alone l) (place pairs next (node ∷ []))) (sym (reverse-append in_order ((next, node) ∷ [])))
    (pairs, apart, omega arith, sym (taken-overlaps pairs next) ∙ free, refl)

-- ---- lines that are added

pub AreGood-none : AreGood [] [] 0
AreGood-none = record { in_order = []; say = no_line; apart = refl; fits = omega arith; within = omega arith }

-- good lines stay good with a line after them, where no byte of it is past the limit, and say other pairs
abbrev pub AddsLine : List Placed → ℕ → List Placed → ℕ → List ℕ → Type 0
AddsLine pairs next more last line =
    (before : List (List ℕ)) → length (concat before) + length line ≤ byte_limit → AreGood before pairs next
    → AreGood (before ++ line ∷ []) more last

module _ (pairs : List Placed) (next : ℕ) (line : List ℕ) where
  quiet : (last : ℕ) → Say next (line ∷ []) [] last → AddsLine pairs next pairs last line
  quiet last says = λ before within good. record {
    in_order = good.in_order;
    say = subst (λ l. Say 0 (before ++ line ∷ []) l last) (append-nil good.in_order)
        (say-more 0 next last before (line ∷ []) good.in_order [] good.say says);
    apart = good.apart;
    fits = good.fits;
    within = rw (concat-push before line) within;
  }

  pub AddsLine-separator : IsSeparator (content line) → AddsLine pairs next pairs next line
  AddsLine-separator is = quiet next (separator is no_line)

  pub AddsLine-position : (named : ℕ) → IsPositionLine (content line) named → AddsLine pairs next pairs named line
  AddsLine-position named is = quiet named (position is no_line)

  pub AddsLine-pair : (node : Node) → SaysPair (content line) node → next < 2 ^ 64 - 1 → ¬ (IsTrue (is_taken pairs next))
      → total_size (chunks_of (place pairs next (node ∷ []))) < 2 ^ 64 → AddsLine pairs next (place pairs next (node ∷ [])) (next + 1) line
  AddsLine-pair node is low free fits = λ before within good. record {
    in_order = good.in_order ++ (next, node) ∷ [];
    say = say-more 0 next (next + 1) before (line ∷ []) good.in_order ((next, node) ∷ []) good.say (pair is low no_line);
    apart = TakeOtherPositions-more good.in_order pairs next node good.apart (false_from_ne_true (is_taken pairs next) free);
    fits = fits;
    within = rw (concat-push before line) within;
  }

-- ---- a line that isn't bad

pub not_bad : (before : List (List ℕ)) (next : ℕ) (line : List ℕ) (node : Node) → SaysPair (content line) node → next < 2 ^ 64 - 1 →
    length (concat before) + length line ≤ byte_limit → IsBad before next line → ⊥
not_bad before next line node says low within (inl past) = omega arith
not_bad before next line node says low within (inr (inl nothing)) = nothing.2 node says
not_bad before next line node says low within (inr (inr last)) = let high = last.2 in omega arith
