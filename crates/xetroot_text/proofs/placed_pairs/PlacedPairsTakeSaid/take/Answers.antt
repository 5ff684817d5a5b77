use Rattle.std.proofs.Common.{arith, Result, Ok, Err, OnErr, OnOk, ◌+◌, ◌∷◌, [], ◌∙◌, subst}
use Rattle.std.proofs.lemmas.Result.{on_err_weaker, on_ok_weaker, IfErr-weaker}
use Rattle.upload_session.specs.Session.{place}
use Rattle.line_io.specs.Lines.{content}
use Rattle.pair_text.specs.LineSays.{Says}
use Rattle.xetroot_text.proofs.GoodLines.{AreGood-few, AddsLine-separator, AddsLine-position, AddsLine-pair, length-place-one}
use Rattle.xetroot_text.proofs.LineFaults.{IsLineFault-refused}
use Rattle.xetroot_text.proofs.placed_pairs.PlacedPairsTakeSaid.take.Goals as goal

pub returns-in-Separator-clause-taken : goal.returns-in-Separator-clause-taken
returns-in-Separator-clause-taken g c = λ before line within says (pairs, next, held, count, good).
    let is = subst (Says (content line)) c.in-Separator.is says in
    (pairs, next, held, count, AddsLine-separator pairs next line is before within good)

pub returns-in_ok-go_to-in-Position-clause-taken : goal.returns-in_ok-go_to-in-Position-clause-taken
returns-in_ok-go_to-in-Position-clause-taken g c = λ before line within says (pairs, next, held, count, good).
    let is = subst (Says (content line)) c.in-Position.is says in (
      pairs,
      c.in-Position.position,
      c.in_ok-go_to-in-Position.ensures.same pairs next held,
      c.go_to.ensures.counted ∙ count,
      AddsLine-position pairs next line c.in-Position.position is before within good,
    )

pub returns-in-Pair-clause-fault : goal.returns-in-Pair-clause-fault
returns-in-Pair-clause-fault g c =
    IfErr-weaker c.push.result _ _ (λ refusal refused before line within says (pairs, next, held, count, good).
    IsLineFault-refused before pairs next line c.in-Pair.pair refusal within good (subst (Says (content line)) c.in-Pair.is says) (refused pairs next held))
    c.push.ensures.fault

pub returns-in-Pair-clause-taken : goal.returns-in-Pair-clause-taken
returns-in-Pair-clause-taken g c =
    let push = c.push.ensures in
    on_ok_weaker c.push.result (λ (pushed, (counted, free)) before line within says (pairs, next, held, count, good).
    let pair = c.in-Pair.pair in
    let is = subst (Says (content line)) c.in-Pair.is says in
    let more = pushed pairs next held in
    let (low, apart) = free pairs next held in
    let few = AreGood-few before pairs next good in
    let one = counted (omega (arith, few, count, good.within)) in (
      place pairs next (pair ∷ []),
      next + 1,
      more,
      omega (arith, one, count, length-place-one pairs next pair),
      AddsLine-pair pairs next line pair is low apart (omega (arith, more.0.total_is, more.0.fits)) before within good,
    ))
    (both _ _ c.push.result push.pushed (both _ _ c.push.result push.counted push.free))
  where
    -- two facts of an answer
    both : {A E : Type 0} (P Q : Type 0) (r : Result A E) → OnOk r P → OnOk r Q → OnOk r (P × Q)
    both P Q (Ok x) p q = (p, q)
    both P Q (Err e) p q = tt

-- what holds anyway holds after an error, and so do two facts that do
at_error : {A E P : Type 0} (r : Result A E) → P → OnErr r P
at_error (Ok x) p = tt
at_error (Err e) p = p

both_at_error : {A E : Type 0} (P Q : Type 0) (r : Result A E) → OnErr r P → OnErr r Q → OnErr r (P × Q)
both_at_error P Q (Ok x) p q = tt
both_at_error P Q (Err e) p q = (p, q)

pub returns-in_err-go_to-in-Position-clause-kept : goal.returns-in_err-go_to-in-Position-clause-kept
returns-in_err-go_to-in-Position-clause-kept g c =
    at_error c.from_residual.result (λ before (pairs, next, held, count, good).
    (pairs, next, c.in_err-go_to-in-Position.ensures.kept_pairs pairs next held, c.go_to.ensures.counted ∙ count, good))

pub returns-in-Pair-clause-kept : goal.returns-in-Pair-clause-kept
returns-in-Pair-clause-kept g c =
    on_err_weaker c.push.result (λ (kept, same) before (pairs, next, held, count, good). (pairs, next, kept pairs next held, same ∙ count, good))
    (both_at_error _ _ c.push.result c.push.ensures.kept_pairs c.push.ensures.kept_count)
