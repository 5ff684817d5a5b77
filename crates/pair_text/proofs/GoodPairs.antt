-- What good lines of pairs say when more lines are appended.
use Rattle.std.proofs.Common.{ℕ, ◌+◌, ◌^◌, ◌<◌, ◌≤◌, List, [], ◌∷◌, ◌++◌, length, codes, decimal, subst, ap, inl, inr, arith, append-nil, length-append}
use Rattle.std.specs.List.{concat}
use Rattle.std.proofs.lemmas.List.Sums.{sum_by-append}
use Rattle.xet_roots.specs.Groups.{Node}
use Rattle.xet_roots.specs.Roots.{total_size}
use Rattle.line_io.specs.Lines.{byte_limit, content}
use Rattle.line_io.proofs.Lines.{concat-push}
use Rattle.pair_text.specs.Lines.{IsSeparator, SaysPair}
use Rattle.pair_text.specs.PairText.{Say, AreGood, IsBad}
use Rattle.pair_text.specs.PairText.Say.{no_line, separator, pair}

-- a line that says a pair has a byte
pub pair-some : (line : List ℕ) (node : Node) → SaysPair (content line) node → 0 < length line
pair-some [] node (inl is) =
    let long = is.are_digits.0 in
    let parts = ap length is.parts in
    absurd (omega (arith, long, parts, length-append (is.digits ++ codes " ") (decimal node.1), length-append is.digits (codes " ")))
pair-some [] node (inr chunk) = let clash : ⊥ = cc (chunk.1) in absurd clash
pair-some (byte ∷ line) node says = omega arith

pub AreGood-none : AreGood [] []
AreGood-none = record { say = no_line; fits = omega arith; within = omega arith }

pub say-more : (before lines : List (List ℕ)) (pairs more : List Node) → Say before pairs → Say lines more → Say (before ++ lines) (pairs ++ more)
say-more [] lines pairs more no_line rest = rest
say-more (line ∷ before) lines pairs more (separator is say) rest = separator is (say-more before lines pairs more say rest)
say-more (line ∷ before) lines (node ∷ pairs) more (pair is say) rest = pair is (say-more before lines pairs more say rest)

module _ (before : List (List ℕ)) (pairs : List Node) (line : List ℕ) (good : AreGood before pairs)
    (within : length (concat before) + length line ≤ byte_limit) where
  pub AreGood-separator : IsSeparator (content line) → AreGood (before ++ line ∷ []) pairs
  AreGood-separator is = record {
    say = subst (Say (before ++ line ∷ [])) (append-nil pairs) (say-more before (line ∷ []) pairs [] good.say (separator is no_line));
    fits = good.fits;
    within = omega (arith, within, concat-push before line);
  }

  pub AreGood-pair : (node : Node) → SaysPair (content line) node → total_size pairs + node.1 < 2 ^ 64 → AreGood (before ++ line ∷ []) (pairs ++ node ∷ [])
  AreGood-pair node is fits = record {
    say = say-more before (line ∷ []) pairs (node ∷ []) good.say (pair is no_line);
    fits = omega (arith, fits, sum_by-append (λ (n : Node). n.1) pairs (node ∷ []));
    within = omega (arith, within, concat-push before line);
  }

  pub not_bad : (node : Node) → SaysPair (content line) node → IsBad before line → ⊥
  not_bad node says (inl past) = omega (arith, within, past)
  not_bad node says (inr nothing) = nothing.1 node says

-- no more pairs than bytes
pub say-few : (lines : List (List ℕ)) (pairs : List Node) → Say lines pairs → length pairs ≤ length (concat lines)
say-few [] pairs no_line = omega arith
say-few (line ∷ lines) pairs (separator is say) = omega (arith, say-few lines pairs say, length-append line (concat lines))
say-few (line ∷ lines) (node ∷ pairs) (pair is say) =
    omega (arith, say-few lines pairs say, pair-some line node is, length-append line (concat lines))
