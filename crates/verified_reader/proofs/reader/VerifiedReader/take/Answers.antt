use Rattle.std.proofs.Common.{arith, ◌∷◌, ◌++◌, List, sym, ap, subst, ◌∙◌}
use Rattle.std.specs.Bool.{IsTrue}
use Rattle.verified_reader.specs.Kept.{Chunk, KeepsAll}
use Rattle.verified_reader.specs.Reader.{IsPartOf, IsShownBy, Part, Reader, checks_of}
use Rattle.verified_reader.proofs.Checks.{kept_members, kept_sizes, taken_shown}
use Rattle.verified_reader.proofs.reader.VerifiedReader.take.Goals as goal

pub invariant_of-self : goal.invariant_of-self
invariant_of-self g c =
    let inside = c.self.inside in
    let part = c.args.part in
    let seen : Reader = record { hash = inside.hash; salt = inside.salt; most = inside.most; kept = inside.chunks; size = inside.size } in
    let yes : IsTrue c.is_part.result = grind (arith, c.if-not-is_part.false) in
    let is = subst (λ (r : Reader). IsPartOf r part) (sym c.self.view_is) (c.is_part.ensures.0 yes) in
    let keeps = subst (λ (l : List Chunk). KeepsAll inside.most inside.chunks l c.keep_all.new.self) (ap (λ (p : Part). p.checked) c.part.view_is) c.keep_all.ensures in
    let (within, checks, shown) = c.self.invariant in
    let (check, same, all) = taken_shown checks seen part c.keep_all.new.self c.size_with-size.result shown is c.size_with-size.ensures.by
    (kept_members inside.most inside.chunks part.checked c.keep_all.new.self keeps) c.size_with-size.ensures.shown c.size_with-size.ensures.some
    (λ none. c.size_with-size.ensures.none none ∙ ap (λ (r : Reader). r.size) (sym c.self.view_is)) in (
      kept_sizes inside.most inside.chunks part.checked c.keep_all.new.self within keeps,
      check ∷ checks_of part ++ checks,
      all,
    )

pub returns-clause-stays : goal.returns-clause-stays
returns-clause-stays g c = λ _ checks shown.
    let now = c.args.self.now in
    let part = c.args.part in
    let new = c.keep_all.new.self in
    let yes : IsTrue c.is_part.result = grind (arith, c.if-not-is_part.false) in
    let keeps = subst (λ (l : List Chunk). KeepsAll c.self.inside.most c.self.inside.chunks l new) (ap (λ (p : Part). p.checked) c.part.view_is) c.keep_all.ensures in
    let keeps_too = subst (λ (r : Reader). KeepsAll r.most r.kept part.checked new) c.self.view_is keeps in
    let (check, same, all) = taken_shown checks now part new c.size_with-size.result shown (c.is_part.ensures.0 yes) c.size_with-size.ensures.by
    (kept_members now.most now.kept part.checked new keeps_too) c.size_with-size.ensures.shown c.size_with-size.ensures.some c.size_with-size.ensures.none in (
      check,
      same,
      subst (λ (r : Reader). IsShownBy (check ∷ checks_of part ++ checks) (record r { kept = new; size = c.size_with-size.result })) (sym c.self.view_is) all,
    )
