use Rattle.std.proofs.Common.{◌≡◌, List, [], inl, inr, get_or, length, sym, ap, ◌∙◌, arith, length-set, Bor}
use Rattle.std.proofs.lemmas.Bool.{cases_lt}
use Rattle.std.proofs.lemmas.List.{get_or-set_other, get_or-set_same}
use Rattle.xet_roots.specs.Groups.{Node}
use Rattle.xet_roots.specs.Roots.{total_size}
use Rattle.xet_roots.proofs.Lists.Lent.{lent, lent_at}
use Rattle.xet_roots.proofs.parent_maker.ParentMaker.make_each.Goals as goal

pub make-requires-clause-some : goal.make-requires-clause-some
make-requires-clause-some g c =
    let j = c.hashes.j in
    let same = lent_at c.args.groups.now j c.index-groups-j.result c.hashes-test.true in
    let is = ap (λ (group : Bor (List Node)). length group.now) c.index-groups-j.is in
    let some = c.requires.some j c.hashes-test.true in
    omega (arith, ap length same)

pub make-requires-clause-few : goal.make-requires-clause-few
make-requires-clause-few g c =
    let j = c.hashes.j in
    let same = lent_at c.args.groups.now j c.index-groups-j.result c.hashes-test.true in
    let is = ap (λ (group : Bor (List Node)). length group.now) c.index-groups-j.is in
    let few = c.requires.few j c.hashes-test.true in
    omega (arith, ap length same)

pub make-requires-clause-fits : goal.make-requires-clause-fits
make-requires-clause-fits g c =
    let j = c.hashes.j in
    let same = lent_at c.args.groups.now j c.index-groups-j.result c.hashes-test.true in
    let is = ap (λ (group : Bor (List Node)). total_size group.now) c.index-groups-j.is in
    let fits = c.requires.fits j c.hashes-test.true in
    omega (arith, ap total_size same)

pub make-requires-clause-room : goal.make-requires-clause-room
make-requires-clause-room g c = omega (arith, c.requires.room, c.hashes.invariant.count)

pub hashes-preserved : goal.hashes-preserved
hashes-preserved g c =
    let j = c.hashes.j in
    let inv = c.hashes.invariant in
    let groups = c.args.groups.now in
    let same = lent_at groups j c.index-groups-j.result c.hashes-test.true in
    let group : c.index-groups-j.result.now ≡ get_or (lent groups) j [] = ap (λ (group : Bor (List Node)). group.now) c.index-groups-j.is ∙ sym same in
    record {
      size = length-set c.hashes.hashes j c.make.result ∙ inv.size;
      each = λ i h. elim (cases_lt i j) [
        | inl before ↦ get_or-set_other c.hashes.hashes j i c.make.result [] (λ e. omega arith) ∙ inv.each i before
        | inr past ↦
            let here : i ≡ j = omega arith in
            rw here (get_or-set_same c.hashes.hashes j c.make.result [] (omega (arith, inv.size, c.requires.groups)) ∙ c.make.ensures.hash ∙ ap g.Self.ParentMaker.hash_of group)
      ];
      count = omega (arith, c.make.ensures.count, inv.count);
    }

pub returns-clause-hashes : goal.returns-clause-hashes
returns-clause-hashes g c = λ j h. c.hashes.invariant.each j (omega arith)

pub returns-clause-count : goal.returns-clause-count
returns-clause-count g c = omega (arith, c.hashes.invariant.count)
