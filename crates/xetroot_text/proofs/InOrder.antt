-- A text in which no line names a position: the order of its lines is that of the positions.
use Rattle.std.proofs.Common.{arith, ◌≡◌, inl, inr, ◌+◌, ◌-◌, ◌^◌, ◌<◌, ◌≤◌, ◌↔◌, ℕ, false, List, [], ◌∷◌, ◌++◌, length, refl, sym, ap, subst, ◌∙◌, append-nil, append_assoc}
use Rattle.std.proofs.lemmas.Bool.{false≢true}
use Rattle.std.proofs.lemmas.List.{length-map}
use Rattle.xet_roots.specs.Groups.{Node}
use Rattle.xet_roots.specs.Roots.{total_size}
use Rattle.upload_session.specs.Session.{Placed, IsWhole, chunks_of, is_taken, place, placed_from}
use Rattle.upload_session.proofs.Placing.{chunks-placed, place-front, placed_from-append, placed_from-below}
use Rattle.line_io.specs.Lines.{content, lines_of}
use Rattle.pair_text.specs.Lines.{IsPositionLine}
use Rattle.pair_text.specs.Output.{IsOutput}
use Rattle.pair_text.specs.PairText as pair_text
use Rattle.pair_text.specs.PairText.{NoPositions}
use Rattle.pair_text.specs.PairText.Say.{no_line as said_none, separator as said_separator, pair as said_pair}
use Rattle.pair_text.proofs.GoodPairs as pairs_of
use Rattle.xetroot_text.specs.declared.fault.Fault.{Fault}
use Rattle.xetroot_text.specs.declared.fault.Fault.TheVariants.{BadLine, Sizes, Memory, Read, Write, Overlap, Gap}
use Rattle.xetroot_text.specs.Answer.{Say, TakeOtherPositions, AreGood, IsBad, IsAnswer, IsFaultOf}
use Rattle.xetroot_text.specs.Answer.Say.{no_line, separator, position, pair}
use Rattle.xetroot_text.specs.WithoutPositions as without
use Rattle.xetroot_text.proofs.GoodLines.{TakeOtherPositions-more, AreGood-few}
use Rattle.xetroot_text.proofs.Placing.{taken-after}
use Rattle.xetroot_text.proofs.OneAnswer.{placed-unique}

no-position-before : (before after : List (List ℕ)) → NoPositions (before ++ after) → NoPositions before × NoPositions after
no-position-before [] after none = (tt, none)
no-position-before (line ∷ before) after (here, rest) =
    let (front, back) = no-position-before before after rest in ((here, front), back)

-- ---- what lines say

say-placed : (next : ℕ) (lines : List (List ℕ)) (pairs : List Node) → pair_text.Say lines pairs → next + length pairs ≤ 2 ^ 64 - 1
    → Say next lines (placed_from next pairs) (next + length pairs)
say-placed next [] pairs said_none low = subst (Say next [] []) {x = next} (omega arith) no_line
say-placed next (line ∷ lines) pairs (said_separator is say) low = separator is (say-placed next lines pairs say low)
say-placed next (line ∷ lines) (node ∷ pairs) (said_pair is say) low =
    pair is (omega (arith, low))
    (subst (Say (next + 1) lines (placed_from (next + 1) pairs)) {x = next + 1 + length pairs} (omega arith)
    (say-placed (next + 1) lines pairs say (omega (arith, low))))

say-in-order : (next last : ℕ) (lines : List (List ℕ)) (placed : List Placed) → NoPositions lines → Say next lines placed last
    → pair_text.Say lines (chunks_of placed) × (placed ≡ placed_from next (chunks_of placed)) × (last ≡ next + length placed)
say-in-order next last [] placed quiet no_line = (said_none, refl, omega arith)
say-in-order next last (line ∷ lines) placed (here, quiet) (separator is say) =
    let (rest, order, last) = say-in-order next last lines placed quiet say in (said_separator is rest, order, last)
say-in-order next last (line ∷ lines) placed (here, quiet) (position is say) = absurd (here _ is)
say-in-order next last (line ∷ lines) (p ∷ placed) (here, quiet) (pair is low say) =
    let (rest, order, last) = say-in-order (next + 1) last lines placed quiet say in
    (said_pair is rest, ap (λ l. p ∷ l) order, omega (arith, last))

-- pairs that come in the order of positions
place-last : (pairs : List Node) (node : Node) → place (placed_from 0 pairs) (length pairs) (node ∷ []) ≡ placed_from 0 (pairs ++ node ∷ [])
place-last pairs node =
    ap (λ l. place l (length pairs) (node ∷ [])) (sym (append-nil (placed_from 0 pairs)))
    ∙ place-front (length pairs) (placed_from 0 pairs) [] (node ∷ []) (placed_from-below (length pairs) 0 pairs (omega arith))
    ∙ ap (λ n. placed_from 0 pairs ++ placed_from n (node ∷ [])) {y = 0 + length pairs} (omega arith)
    ∙ sym (placed_from-append 0 pairs (node ∷ []))

apart-in-order : (pairs : List Node) → TakeOtherPositions (placed_from 0 pairs) (placed_from 0 pairs)
apart-in-order pairs = go [] pairs refl
  where
    go : (done more : List Node) → TakeOtherPositions (placed_from 0 done) (placed_from 0 done) → TakeOtherPositions (placed_from 0 (done ++ more)) (placed_from 0 (done ++ more))
    go done [] apart = subst (λ l. TakeOtherPositions (placed_from 0 l) (placed_from 0 l)) (sym (append-nil done)) apart
    go done (node ∷ more) apart =
        let longer = TakeOtherPositions-more (placed_from 0 done) (placed_from 0 done) (length done) node apart (taken-after 0 done (length done) (omega arith)) in
        let order = ap (λ n. placed_from 0 done ++ placed_from n (node ∷ [])) {x = length done} (omega arith) ∙ sym (placed_from-append 0 done (node ∷ [])) in
        subst (λ l. TakeOtherPositions (placed_from 0 l) (placed_from 0 l)) (append_assoc done (node ∷ []) more)
        (go (done ++ node ∷ []) more
        (subst (TakeOtherPositions (placed_from 0 (done ++ node ∷ []))) (place-last done node)
        (subst (λ l. TakeOtherPositions l (place (placed_from 0 done) (length done) (node ∷ []))) order longer)))

-- ---- good lines

module _ (lines : List (List ℕ)) where
  good-placed : (pairs : List Node) → pair_text.AreGood lines pairs → AreGood lines (placed_from 0 pairs) (length pairs)
  good-placed pairs good = record {
    in_order = placed_from 0 pairs;
    say = subst (Say 0 lines (placed_from 0 pairs)) {x = 0 + length pairs} (omega arith)
        (say-placed 0 lines pairs good.say (omega (arith, pairs_of.say-few lines pairs good.say, good.within)));
    apart = apart-in-order pairs;
    fits = subst (λ l. total_size l < 2 ^ 64) (sym (chunks-placed 0 pairs)) good.fits;
    within = good.within;
  }

  good-in-order : (pairs : List Placed) (next : ℕ) → NoPositions lines → AreGood lines pairs next
      → pair_text.AreGood lines (chunks_of pairs) × (pairs ≡ placed_from 0 (chunks_of pairs)) × (next ≡ length pairs)
  good-in-order pairs next quiet good =
      let (say, order, last) = say-in-order 0 next lines good.in_order quiet good.say in
      let same : pairs ≡ good.in_order =
      placed-unique _ pairs good.in_order good.apart
      (subst (λ l. TakeOtherPositions l l) (sym order) (apart-in-order (chunks_of good.in_order))) in (
        record { say = subst (λ l. pair_text.Say lines (chunks_of l)) (sym same) say; fits = good.fits; within = good.within },
        same ∙ order ∙ ap (λ l. placed_from 0 (chunks_of l)) (sym same),
        omega (arith, last, ap length same),
      )

-- ---- answers

whole : (pairs : List Placed) → pairs ≡ placed_from 0 (chunks_of pairs) → IsWhole (length pairs) pairs
whole pairs order = (order, refl)

module _ (text : List ℕ) (quiet : NoPositions (lines_of text)) where
  pub same-answer : (output : List ℕ) → IsAnswer text output ↔ pair_text.IsAnswer text output
  same-answer output = (
    λ (pairs, next, good, _, is). (chunks_of pairs, (good-in-order (lines_of text) pairs next quiet good).0, is),
    λ (pairs, good, is).
        let back = chunks-placed 0 pairs in (
          placed_from 0 pairs,
          length pairs,
          good-placed (lines_of text) pairs good,
          whole (placed_from 0 pairs) (ap (placed_from 0) (sym back)),
          subst (λ l. IsOutput l output) (sym back) is,
        ),
  )

  -- ---- faults

  module _ (before : List (List ℕ)) (line : List ℕ) (after : List (List ℕ)) (lines : lines_of text ≡ before ++ line ∷ after) where
    quiet-before : NoPositions before
    quiet-before = (no-position-before before (line ∷ after) (subst NoPositions lines quiet)).0

    names-none : (position : ℕ) → ¬ (IsPositionLine (content line) position)
    names-none = (no-position-before before (line ∷ after) (subst NoPositions lines quiet)).1.0

    -- good lines before it that say positions too
    module _ (pairs : List Placed) (next : ℕ) (good : AreGood before pairs next) where
      good-pairs : pair_text.AreGood before (chunks_of pairs)
      good-pairs = (good-in-order before pairs next quiet-before good).0

      count : next ≡ length pairs
      count = let (_, _, last) = good-in-order before pairs next quiet-before good in last

      bad-without : IsBad before next line → pair_text.IsBad before line
      bad-without (inl past) = inl past
      bad-without (inr (inl nothing)) = inr (nothing.0, nothing.2)
      bad-without (inr (inr (node, says, high))) = absurd (omega (arith, high, count, AreGood-few before pairs next good, good.within))

      not-taken : is_taken pairs next ≡ false
      not-taken =
          let (_, order, last) = good-in-order before pairs next quiet-before good in
          ap (λ l. is_taken l next) order
          ∙ taken-after 0 (chunks_of pairs) next (omega (arith, last, length-map pairs (λ (p : Placed). p.1)))

    bad-with : (next : ℕ) → pair_text.IsBad before line → IsBad before next line
    bad-with next (inl past) = inl past
    bad-with next (inr nothing) = inr (inl (nothing.0, names-none, nothing.1))

  pub same-fault : (fault : Fault) → IsFaultOf text fault ↔ without.IsFaultOf text fault
  same-fault (BadLine n) = (
    λ (before, line, after, lines, is, (pairs, next, good, bad)).
        (before, line, after, lines, is, (chunks_of pairs, good-pairs before line after lines pairs next good, bad-without before line after lines pairs next good bad)),
    λ (before, line, after, lines, is, (pairs, good, bad)).
        (before, line, after, lines, is, (placed_from 0 pairs, length pairs, good-placed before pairs good, bad-with before line after lines (length pairs) bad)),
  )
  same-fault (Sizes n) = (
    λ (before, line, after, lines, is, (pairs, next, good, fine, _, past)).
        (before, line, after, lines, is, (chunks_of pairs, good-pairs before line after lines pairs next good, (λ bad. fine (bad-with before line after lines next bad)), past)),
    λ (before, line, after, lines, is, (pairs, good, fine, (node, says, past))).
        let placed = good-placed before pairs good in (
          before,
          line,
          after,
          lines,
          is,
          (
            placed_from 0 pairs,
            length pairs,
            placed,
            (λ bad. fine (bad-without before line after lines (placed_from 0 pairs) (length pairs) placed bad)),
            (λ taken. false≢true (sym (not-taken before line after lines (placed_from 0 pairs) (length pairs) placed) ∙ taken.2)),
            (node, says, subst (λ l. 2 ^ 64 ≤ total_size l + node.1) (sym (chunks-placed 0 pairs)) past),
          ),
        ),
  )
  same-fault (Overlap n) = (
    λ (before, line, after, lines, is, (pairs, next, good, _, (node, says, taken))).
        false≢true (sym (not-taken before line after lines pairs next good) ∙ taken),
    λ never. absurd never,
  )
  same-fault Gap = (λ (pairs, next, good, gap). gap (whole pairs (good-in-order (lines_of text) pairs next quiet good).1), λ never. absurd never)
  same-fault Memory = (λ h. h, λ h. h)
  same-fault Read = (λ h. h, λ h. h)
  same-fault Write = (λ h. h, λ h. h)
