-- Separators and the ends of ranges change nothing.
use Rattle.std.proofs.Common.{arith, ◌≡◌, ◌+◌, ◌≤◌, ◌↔◌, ℕ, List, ◌∷◌, ◌++◌, length, sym, ap, subst, ◌∙◌, length-append}
use Rattle.std.specs.List.{concat}
use Rattle.std.proofs.lemmas.List.Folds.{concat-append}
use Rattle.upload_session.specs.Session.{Placed, IsWhole, chunks_of}
use Rattle.line_io.specs.Lines.{byte_limit, content, lines_of}
use Rattle.line_io.proofs.Lines.{concat-lines_of}
use Rattle.pair_text.specs.declared.line.Line.TheVariants.{Separator}
use Rattle.pair_text.specs.Lines.{IsSeparator}
use Rattle.pair_text.specs.Output.{IsOutput}
use Rattle.pair_text.proofs.LineMeaning.{Says-unique}
use Rattle.xetroot_text.specs.Answer.{Say, AreGood, IsAnswer}
use Rattle.xetroot_text.specs.Answer.Say.{separator}
use Rattle.xetroot_text.proofs.GoodLines.{say-more}
use Rattle.xetroot_text.proofs.OneAnswer.{Follows, good-unique, say-first, say-split}

pub same-pairs : (text other output : List ℕ) (pairs : List Placed) (next last : ℕ) → AreGood (lines_of text) pairs next → AreGood (lines_of other) pairs last
    → IsAnswer text output → IsAnswer other output
same-pairs text other output pairs next last good also (all, end, whole, is_whole, is) =
    let (same, _) = good-unique (lines_of text) all pairs end next whole good in (
      pairs,
      last,
      also,
      subst (λ l. IsWhole (length l) l) same is_whole,
      subst (λ l. IsOutput (chunks_of l) output) same is,
    )

module _ (before : List (List ℕ)) (line : List ℕ) (after : List (List ℕ)) (is : IsSeparator (content line)) where
  bytes : length (concat (before ++ line ∷ after)) ≡ length (concat (before ++ after)) + length line
  bytes =
      omega (
        arith,
        ap length (concat-append before (line ∷ after)),
        ap length (concat-append before after),
        length-append (concat before) (line ++ concat after),
        length-append line (concat after),
        length-append (concat before) (concat after),
      )

  with-separator : (pairs : List Placed) (next : ℕ) → length (concat (before ++ line ∷ after)) ≤ byte_limit → AreGood (before ++ after) pairs next
      → AreGood (before ++ line ∷ after) pairs next
  with-separator pairs next within good =
      let (middle, front, back, parts, first, second) = say-split before after 0 next good.in_order good.say in record {
        in_order = good.in_order;
        say = subst (λ l. Say 0 (before ++ line ∷ after) l next) (sym parts)
            (say-more 0 middle next before (line ∷ after) front back first (separator is second));
        apart = good.apart;
        fits = good.fits;
        within = within;
      }

  without-separator : (pairs : List Placed) (next : ℕ) → AreGood (before ++ line ∷ after) pairs next → AreGood (before ++ after) pairs next
  without-separator pairs next good =
      let (middle, front, back, parts, first, second) = say-split before (line ∷ after) 0 next good.in_order good.say in
      let (said, says, follows) = say-first middle next line after back second in
      let rest = subst (λ s. Follows s middle after back next) (Says-unique (content line) said Separator says is) follows in record {
        in_order = good.in_order;
        say = subst (λ l. Say 0 (before ++ after) l next) (sym parts) (say-more 0 middle next before after front back first rest);
        apart = good.apart;
        fits = good.fits;
        within = omega (arith, good.within, bytes);
      }

pub separator-anywhere : (text other output : List ℕ) (before : List (List ℕ)) (line : List ℕ) (after : List (List ℕ)) → lines_of text ≡ before ++ after
    → lines_of other ≡ before ++ line ∷ after → IsSeparator (content line) → length other ≤ byte_limit → IsAnswer text output ↔ IsAnswer other output
separator-anywhere text other output before line after lines others is within = (
  λ (pairs, next, good, whole, answer). (
    pairs,
    next,
    subst (λ l. AreGood l pairs next) (sym others)
        (with-separator before line after is pairs next (omega (arith, within, ap length (sym (ap concat others) ∙ concat-lines_of other)))
        (subst (λ l. AreGood l pairs next) lines good)),
    whole,
    answer,
  ),
  λ (pairs, next, good, whole, answer). (
    pairs,
    next,
    subst (λ l. AreGood l pairs next) (sym lines)
        (without-separator before line after is pairs next (subst (λ l. AreGood l pairs next) others good)),
    whole,
    answer,
  ),
)
