use Rattle.std.proofs.Common.{rules, ◌≡◌, ◌<◌, List, [], inl, inr, length, take, get_or, sym, ap, ◌∙◌, arith, length-set, Bor}
use Rattle.std.proofs.lemmas.Bool.{cases_lt}
use Rattle.std.proofs.lemmas.List.{get_or-set_other, get_or-set_same, get_or_default, length-map, length-take-le}
use Rattle.xet_roots.specs.Groups.{Node}
use Rattle.xet_roots.specs.Roots.{parent_by, total_size}
use Rattle.xet_roots.proofs.Lists.Lent.{lent, lent_at, lent_of_first, made_one_by_one}
use Rattle.xet_roots.proofs.aggregated_hashes.first_parents.Goals as goal

pub make_each-hashes-requires-clause-some : goal.make_each-hashes-requires-clause-some
make_each-hashes-requires-clause-some g c = λ j h.
    let groups = c.first_groups-count.new.groups in
    let count = c.first_groups-count.result.0 in
    let fits : j < count = omega (arith, length-take-le count groups (omega (arith, c.first_groups-count.ensures.room, c.first_groups-count.ensures.within.0))) in
    rw (lent_of_first groups count j fits) (c.first_groups-count.ensures.groups j fits).not_empty

pub make_each-hashes-requires-clause-few : goal.make_each-hashes-requires-clause-few
make_each-hashes-requires-clause-few g c = λ j h.
    let groups = c.first_groups-count.new.groups in
    let count = c.first_groups-count.result.0 in
    let fits : j < count = omega (arith, length-take-le count groups (omega (arith, c.first_groups-count.ensures.room, c.first_groups-count.ensures.within.0))) in
    rw (lent_of_first groups count j fits) (c.first_groups-count.ensures.groups j fits).at_most_nine

pub make_each-hashes-requires-clause-fits : goal.make_each-hashes-requires-clause-fits
make_each-hashes-requires-clause-fits g c = λ j h.
    let groups = c.first_groups-count.new.groups in
    let count = c.first_groups-count.result.0 in
    let fits : j < count = omega (arith, length-take-le count groups (omega (arith, c.first_groups-count.ensures.room, c.first_groups-count.ensures.within.0))) in
    let below = c.first_groups-count.ensures.sizes j fits in
    rw (lent_of_first groups count j fits) (omega (arith, c.requires.fits))

pub listed-in-parents : goal.listed-in-parents
listed-in-parents g c = omega (arith, c.first_groups-count.ensures.room, c.first_groups-count.ensures.within.0)

pub group_size-requires : goal.group_size-requires
group_size-requires g c =
    let groups = c.first_groups-count.new.groups in
    let j = c.parents.j in
    let below = c.first_groups-count.ensures.sizes j c.parents-test.true in
    rw (sym (lent_at groups j c.index-groups-j.result (omega (arith, c.first_groups-count.ensures.room, c.first_groups-count.ensures.within.0)))) (omega (arith, c.requires.fits))

pub parents-preserved : goal.parents-preserved
parents-preserved g c =
    let j = c.parents.j in
    let inv = c.parents.invariant in
    let parents = c.parents.parents in
    let groups = c.first_groups-count.new.groups in
    let count = c.first_groups-count.result.0 in
    let e = c.first_groups-count.ensures in
    let make : List Node → Node = parent_by g.P.ParentMaker.hash_of in
    let d = c.index-groups-j.result in
    let group : get_or (lent groups) j [] ≡ (get_or groups j d).now = lent_at groups j d (omega (arith, e.room, e.within.0)) in
    let size : length (take count groups) ≡ count = length-take-le count groups (omega (arith, e.room, e.within.0)) in
    let hash : get_or c.make_each-hashes.result j c.index-hashes-j.result ≡ g.P.ParentMaker.hash_of (get_or (lent groups) j []) =
    get_or_default c.make_each-hashes.result j c.index-hashes-j.result [] (search rules)
    ∙ c.make_each-hashes.ensures.hashes j (rw size c.parents-test.true) ∙ ap g.P.ParentMaker.hash_of (lent_of_first groups count j c.parents-test.true) in
    let total : c.group_size.result ≡ total_size (get_or (lent groups) j []) = c.group_size.ensures ∙ ap total_size (sym group) in
    let parent : (get_or c.make_each-hashes.result j c.index-hashes-j.result, c.group_size.result) ≡ make (get_or (lent groups) j []) = λ i. (hash i, total i) in
    record {
      size = length-set parents j _ ∙ inv.size;
      each = λ i h. elim (cases_lt i j) [
        | inl before ↦ get_or-set_other parents j i _ ([], 0) (λ e. omega arith) ∙ inv.each i before
        | inr past ↦
            let here : i ≡ j = omega arith in
            rw here (get_or-set_same parents j _ ([], 0) (omega (arith, inv.size, e.within.0)) ∙ parent)
      ];
    }

pub returns-clause-parents : goal.returns-clause-parents
returns-clause-parents g c =
    let groups = c.first_groups-count.new.groups in
    let count = c.first_groups-count.result.0 in
    let e = c.first_groups-count.ensures in
    let inv = c.parents.invariant in (
      take count (lent groups),
      e.first,
      made_one_by_one (parent_by g.P.ParentMaker.hash_of) (lent groups) c.parents.parents count ([], 0)
          (omega (arith, e.room, e.within.0, length-map groups (λ (l : Bor (List Node)). l.now))) (omega (arith, inv.size, e.within.0)) (λ i h. inv.each i (omega arith)),
      e.stay,
    )
