use Rattle.std.proofs.Common.{arith, nat_cmp, ◌≡◌, ◌≢◌, ◌+◌, ◌<◌, ◌∷◌, ◌++◌, refl, sym, ap, subst, ◌∙◌}
use Rattle.std.specs.Prelude.{Option, Some, None, IsSome}
use Rattle.std.specs.BTreeMap.{is_at}
use Rattle.std.specs.Map.{lookup}
use Rattle.std.proofs.lemmas.Bool.{true≢false}
use Rattle.upload_session.specs.Steps.Neighbours.{IsPrevious, AreAround}
use Rattle.upload_session.proofs.AroundEntries.{previous-some, previous-none, previous-found, next-found, around-previous, around-first, ends-near, ends-found}
use Rattle.upload_session.proofs.Merging.{placed-before, placed-first}
use Rattle.upload_session.proofs.Neighbours.{around, with_run}
use Rattle.upload_session.proofs.OpenRuns.{one-within, size-at, two-within}
use Rattle.upload_session.proofs.runs.Runs.place_before_next.Goals as goal

some-of : {X : Type 0} (found : Option X) → IsSome found → (x : X) × (found ≡ Some x)
some-of (Some x) h = (x, refl)
some-of None h = absurd (true≢false (sym h))

pub returns-in_ok-put_before_next-in-Some-clause-placed : goal.returns-in_ok-put_before_next-in-Some-clause-placed
returns-in_ok-put_before_next-in-Some-clause-placed g c = λ count some after_is runs_apart free opens closes.
    let kind = g.C.ChunkRange in
    let runs = c.args.self.now in
    let first = c.args.first in
    let after = first + count in
    let ahead : first < after = omega (arith, some) in
    let opened = c.requires.room.1.0 in
    let at = around first count runs runs_apart free in
    let begin = c.in-Some.begin in
    let ends = subst (IsPrevious runs first) c.in-Some.is c.requires.previous in
    let (last, previous) = previous-some first after ahead runs at begin ends in
    let found = some-of (lookup (is_at (nat_cmp c.args.after)) runs) c.requires.next in
    let next = found.0 in
    let next_is = next-found first after ahead runs at next (subst (λ n. lookup (is_at (nat_cmp n)) runs ≡ Some next) after_is found.1) in
    let split : runs ≡ at.front ++ (begin, last) ∷ (c.args.after, next) ∷ at.back =
    at.is ∙ ap (λ run. at.front ++ with_run run (with_run at.next at.back)) previous
    ∙ ap (λ run. at.front ++ (begin, last) ∷ with_run run at.back) next_is
    ∙ ap (λ n. at.front ++ (begin, last) ∷ (n, next) ∷ at.back) (sym after_is) in
    let apart = subst (λ n. AreAround begin n at.front at.back) (sym after_is) (around-previous first after ahead runs at begin last previous) in
    placed-before kind first count c.args.made some runs at runs_apart opened c.put_before_next.new.self begin last next c.in_ok-front-in-Some.front previous next_is
    (λ a chunks stands meant. c.in_ok-front-in-Some.ensures.stands last (previous-found first after ahead runs at (begin, last) previous) a chunks stands meant)
    c.in_ok-front-in-Some.ensures.start
    (c.in_ok-front-in-Some.ensures.total
    ∙ ap (λ n. n + kind.total c.args.made) (size-at kind begin runs (Some last) (previous-found first after ahead runs at (begin, last) previous)))
    (c.in_ok-put_before_next-in-Some.ensures.put at.front last next at.back split apart)

pub returns-in_ok-begin_before_next-in-None-clause-placed : goal.returns-in_ok-begin_before_next-in-None-clause-placed
returns-in_ok-begin_before_next-in-None-clause-placed g c = λ count some after_is runs_apart free opens closes.
    let kind = g.C.ChunkRange in
    let runs = c.args.self.now in
    let first = c.args.first in
    let after = first + count in
    let ahead : first < after = omega (arith, some) in
    let opened = c.requires.room.1.0 in
    let at = around first count runs runs_apart free in
    let previous = previous-none first after ahead runs at (subst (IsPrevious runs first) c.in-None.is c.requires.previous) in
    let found = some-of (lookup (is_at (nat_cmp c.args.after)) runs) c.requires.next in
    let next = found.0 in
    let next_is = next-found first after ahead runs at next (subst (λ n. lookup (is_at (nat_cmp n)) runs ≡ Some next) after_is found.1) in
    let split : runs ≡ at.front ++ (c.args.after, next) ∷ at.back =
    at.is ∙ ap (λ run. at.front ++ with_run run (with_run at.next at.back)) previous
    ∙ ap (λ run. at.front ++ with_run run at.back) next_is
    ∙ ap (λ n. at.front ++ (n, next) ∷ at.back) (sym after_is) in
    let apart = subst (λ n. AreAround first n at.front at.back) (sym after_is) (around-first first after ahead runs at) in
    placed-first kind first count c.args.made some runs at runs_apart opened c.begin_before_next.new.self next c.args.made previous next_is (λ chunks stands. stands) opens refl
    (c.in_ok-begin_before_next-in-None.ensures.put at.front next at.back split apart)

pub with_previous-requires-clause-room : goal.with_previous-requires-clause-room
with_previous-requires-clause-room g c =
    (c.requires.room.1.0, omega (arith, c.requires.room.1.1, one-within g.C.ChunkRange c.in-Some.begin c.args.self.now))

pub put_before_next-requires-clause-begin : goal.put_before_next-requires-clause-begin
put_before_next-requires-clause-begin g c =
    ends-found c.args.first c.in-Some.begin c.args.self.now
    (subst (IsPrevious c.args.self.now c.args.first) c.in-Some.is c.requires.previous)

pub put_before_next-requires-clause-apart : goal.put_before_next-requires-clause-apart
put_before_next-requires-clause-apart g c =
    let ends = subst (IsPrevious c.args.self.now c.args.first) c.in-Some.is c.requires.previous in
    let near = ends-near c.args.first c.in-Some.begin c.args.self.now ends in
    let ahead = c.requires.ahead in
    λ same. omega (arith, same, near, ahead)

pub put_before_next-requires-clause-room : goal.put_before_next-requires-clause-room
put_before_next-requires-clause-room g c =
    let ends = subst (IsPrevious c.args.self.now c.args.first) c.in-Some.is c.requires.previous in
    let near = ends-near c.args.first c.in-Some.begin c.args.self.now ends in
    let ahead = c.requires.ahead in
    let apart : c.in-Some.begin ≢ c.args.after = λ same. omega (arith, same, near, ahead) in
    (c.requires.room.1.0, omega (arith, c.requires.room.1.1, c.in_ok-front-in-Some.ensures.total, two-within g.C.ChunkRange c.in-Some.begin c.args.after apart c.args.self.now))
