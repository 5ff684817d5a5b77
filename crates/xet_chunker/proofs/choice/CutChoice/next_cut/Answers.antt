use Rattle.std.proofs.Common.{◌≡◌, ℕ, ◌+◌, ◌-◌, ◌≤◌, refl, true, inl, inr, arith, length, subst}
use Rattle.std.proofs.lemmas.Bool.{cases_lt}
use Rattle.xet_chunker.specs.Candidates.{is_candidate}
use Rattle.xet_chunker.specs.CutChoice.{IsGiven, last_cut}
use Rattle.xet_chunker.proofs.Cuts.Finding.{candidate_within}
use Rattle.xet_chunker.proofs.Cuts.Choosing.{next_is, unknown}
use Rattle.xet_chunker.proofs.choice.CutChoice.next_cut.Goals as goal

pub returns-then-size-lt-LEAST-clause-given : goal.returns-then-size-lt-LEAST-clause-given
unfolding IsGiven
returns-then-size-lt-LEAST-clause-given c = λ message known given next. (given.0, λ place low high. absurd (omega arith))

pub returns-clause-last : goal.returns-clause-last
unfolding last_cut
returns-clause-last c = refl

pub returns-clause-again : goal.returns-clause-again
unfolding IsGiven
returns-clause-again c = λ message known given next.
    let within : c.args.candidate ≤ length message = candidate_within message c.args.candidate next.0 in
    (omega arith, λ place low high. given.1 place (omega arith) high)

pub returns-clause-cut : goal.returns-clause-cut
unfolding IsGiven last_cut
returns-clause-cut c = λ message known given next.
    let start = c.args.self.now.start in
    let end = c.args.candidate in
    let within : end ≤ length message = candidate_within message end next.0 in
    next_is message start c.min.result (omega arith) (omega arith) (omega arith)
    (λ place low high. unknown message start known place end given.1 next.1 low (omega arith))
    (elim (cases_lt (end - start) 131072) [
      | inl less ↦ let e : end ≡ start + c.min.result = omega arith in inr (subst (λ (p : ℕ). is_candidate message p ≡ true) e next.0)
      | inr more ↦ inl (omega arith)
    ])
