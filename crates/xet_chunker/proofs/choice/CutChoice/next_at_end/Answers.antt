use Rattle.std.proofs.Common.{◌+◌, ◌-◌, refl, inl, inr, arith}
use Rattle.std.proofs.lemmas.Bool.{cases_lt}
use Rattle.xet_chunker.specs.CutChoice.{IsGiven, last_cut}
use Rattle.xet_chunker.proofs.Cuts.Choosing.{next_is, last_is, no_more, unknown}
use Rattle.xet_chunker.proofs.choice.CutChoice.next_at_end.Goals as goal

pub returns-then-size-eq0-clause-none : goal.returns-then-size-eq0-clause-none
unfolding IsGiven last_cut
returns-then-size-eq0-clause-none c = λ message known is given. no_more message _ _ (omega arith)

pub returns-clause-last : goal.returns-clause-last
unfolding last_cut
returns-clause-last c = refl

pub returns-clause-again : goal.returns-clause-again
unfolding IsGiven
returns-clause-again c = λ message known is given.
    (omega arith, λ place low high. given.1 place (omega arith) high)

pub returns-clause-cut : goal.returns-clause-cut
unfolding IsGiven last_cut
returns-clause-cut c = λ message known is given none.
    let start = c.args.self.now.start in
    let count = c.args.count in
    elim (cases_lt (count - start) 131072) [
      | inl less ↦ last_is message start c.min.result (omega arith) (omega arith) (omega arith)
          (λ place low high. unknown message start known place (count + 1) given.1 none low (omega arith))
      | inr more ↦ next_is message start c.min.result (omega arith) (omega arith) (omega arith)
          (λ place low high. unknown message start known place (count + 1) given.1 none low (omega arith)) (inl (omega arith))
    ]
