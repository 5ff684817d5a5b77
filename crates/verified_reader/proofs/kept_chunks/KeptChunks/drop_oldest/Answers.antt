use Rattle.std.proofs.Common.{arith, ◌≡◌, ◌<◌, ◌+◌, ℕ, drop, ap, subst, ◌∙◌, inl, inr}
use Rattle.std.proofs.lemmas.Bool.{cases_lt}
use Rattle.std.proofs.lemmas.List.{drop-drop}
use Rattle.verified_reader.specs.Kept.{size_of_kept}
use Rattle.verified_reader.proofs.kept_chunks.KeptChunks.drop_oldest.Goals as goal

pub oldest-preserved : goal.oldest-preserved
oldest-preserved g c =
    let (dropped, is, least) = c.oldest.invariant in
    let over = subst (λ l. c.args.most < size_of_kept l) is (subst (λ (s : ℕ). c.args.most < s) c.size.ensures c.oldest-test.true) in (
      dropped + 1,
      c.pop.ensures ∙ ap (drop 1) is ∙ drop-drop 1 dropped c.args.self.now,
      λ fewer below. elim (cases_lt fewer dropped) [
        | inl less ↦ least fewer less
        | inr not_less ↦
            let same : dropped ≡ fewer = omega (arith, below, not_less) in
            subst (λ (n : ℕ). c.args.most < size_of_kept (drop n c.args.self.now)) same over
      ],
    )
