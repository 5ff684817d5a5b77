use Rattle.std.proofs.Common.{◌≤◌, ◌≡◌, ℕ, List, false, refl, sym, subst, ◌∙◌, arith, inl, inr}
use Rattle.std.specs.Prelude.{IsSome, IfSome, Some, slice_get, ⊤}
use Rattle.std.specs.BTreeMap.{get}
use Rattle.std.specs.Ordering.{is_gt, nat_cmp}
use Rattle.std.proofs.lemmas.Bool.{cases_lt, true≢false}
use Rattle.std.proofs.lemmas.Map.Keys.{le_from_not_gt}
use Rattle.std.proofs.lemmas.Option.{none-some}
use Rattle.verified_reader.specs.Kept.{Chunk, IsFree, IsKept}
use Rattle.verified_reader.specs.Steps.KeptChunks.{chunk_of}
use Rattle.verified_reader.proofs.InOrder.{first_kept, free_between, le_from_test, not_free, not_gt, not_some, some_then, test_from_le}
use Rattle.verified_reader.proofs.kept_chunks.KeptChunks.is_free.Goals as goal

pub returns-then-is_some : goal.returns-then-is_some
returns-then-is_some g c =
    let there = some_then c.chunk_at.result (sym c.is_some.ensures ∙ c.if-is_some.true) c.chunk_at.ensures.some in
    let some = c.requires in (
      λ not. absurd (true≢false (sym not)),
      λ free. absurd (not_free c.args.self.now c.args.begin c.args.end c.args.begin (omega arith) some (chunk_of there.0.now, there.1.0, there.1.1) free),
    )

pub returns-in-Some : goal.returns-in-Some
returns-in-Some g c =
    let inside = c.self.inside in
    let next = c.in-Some.next.now in
    let here = not_some c.chunk_at.result (sym c.is_some.ensures ∙ c.if-is_some.false) c.chunk_at.ensures.none in
    let least = (c.range.ensures.in_range tt).2 in
    let first = subst (λ (r : List (ℕ × ℕ)). IfSome (slice_get r 0) (λ e. ((is_gt (nat_cmp c.args.begin e.0) ≡ false) × ⊤) × (get nat_cmp inside.uses e.0 ≡ Some e.1))) c.in-Some.ensures.steps (c.range.ensures.in_range tt).1 in
    let near : c.args.begin ≤ next = le_from_not_gt c.args.begin next first.0.0 in (
      λ holds.
          let upto = le_from_test c.args.end next holds in
          subst (λ (l : List Chunk). IsFree l c.args.begin c.args.end) c.self.view_is
          (free_between inside.by_use.entries inside.uses.entries inside.next_use inside.size c.self.invariant c.args.begin c.args.end
          (subst (λ (l : List Chunk). IsKept l c.args.begin → ⊥) (sym c.self.view_is) here)
          (λ b number le at.
          let after = subst (λ (r : List (ℕ × ℕ)). IfSome (slice_get r 0) (λ e. is_gt (nat_cmp e.0 b) ≡ false)) c.in-Some.ensures.steps
          (least b (not_gt c.args.begin b le, tt) (subst IsSome (sym at) refl)) in
          let before : next ≤ b = le_from_not_gt next b after in
          omega (arith, upto, before))),
      λ free. elim (cases_lt next c.args.end) [
        | inl within ↦ absurd (not_free c.args.self.now c.args.begin c.args.end next near within
            (subst (λ (l : List Chunk). IsKept l next) c.self.view_is
            (first_kept inside.by_use.entries inside.uses.entries inside.next_use inside.size c.self.invariant next c.in-Some.field-0-1.now first.1)) free)
        | inr after ↦ test_from_le c.args.end next after
      ],
    )

pub returns-in-None : goal.returns-in-None
returns-in-None g c =
    let inside = c.self.inside in
    let here = not_some c.chunk_at.result (sym c.is_some.ensures ∙ c.if-is_some.false) c.chunk_at.ensures.none in
    let none = (c.range.ensures.in_range tt).5 c.in-None.ensures.steps.0 in (
      λ holds.
          subst (λ (l : List Chunk). IsFree l c.args.begin c.args.end) c.self.view_is
          (free_between inside.by_use.entries inside.uses.entries inside.next_use inside.size c.self.invariant c.args.begin c.args.end
          (subst (λ (l : List Chunk). IsKept l c.args.begin → ⊥) (sym c.self.view_is) here)
          (λ b number le at. absurd (none-some number (sym (none b (not_gt c.args.begin b le, tt)) ∙ at)))),
      λ free. refl,
    )
