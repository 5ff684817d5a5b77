use Rattle.std.proofs.Common.{◌≡◌, ℕ, ◌+◌, ◌<◌, ◌≤◌, List, [], inl, inr, get_or, length, set, subst, sym, ap, ◌∙◌, arith, length-set, Bor}
use Rattle.std.proofs.lemmas.Bool.{cases_lt}
use Rattle.std.proofs.lemmas.List.{get_or-set_other, get_or-set_same}
use Rattle.xet_roots.specs.Groups.{Node}
use Rattle.xet_roots.proofs.Lists.Lent.{lent, lent_at}
use Rattle.xet_roots.proofs.Roots.Placed.{IsListed-last, IsListed-more, cases_eq, set_cases}
use Rattle.xet_roots.proofs.groups.by_len.Goals as goal

-- a group has at most nine nodes
at_most : (groups : List (Bor (List Node))) (j : ℕ) (d : Bor (List Node)) → ((i : ℕ) → i < length groups → length (get_or (lent groups) i []) ≤ 9)
    → j < length groups → length (get_or groups j d).now ≤ 9
at_most groups j d few fits = omega (arith, ap length (lent_at groups j d fits), few j fits)

pub offset_bounds-counts-len : goal.offset_bounds-counts-len
offset_bounds-counts-len c = let few = at_most c.args.groups.now c.groups.j c.index-groups-j.result c.requires.few c.groups-test.true in omega arith

pub bounds-counts-len : goal.bounds-counts-len
bounds-counts-len c = let few = at_most c.args.groups.now c.groups.j c.index-groups-j.result c.requires.few c.groups-test.true in omega arith

pub offset_bounds-lists-len : goal.offset_bounds-lists-len
offset_bounds-lists-len c = let few = at_most c.args.groups.now c.groups.j c.index-groups-j.result c.requires.few c.groups-test.true in omega arith

pub bounds-lists-len : goal.bounds-lists-len
bounds-lists-len c = let few = at_most c.args.groups.now c.groups.j c.index-groups-j.result c.requires.few c.groups-test.true in omega arith

pub offset_bounds-counts-len-in-groups : goal.offset_bounds-counts-len-in-groups
offset_bounds-counts-len-in-groups c =
    let few = at_most c.args.groups.now c.groups.j c.index-groups-j.result c.requires.few c.groups-test.true in omega arith

pub bounds-counts-len-in-groups : goal.bounds-counts-len-in-groups
bounds-counts-len-in-groups c =
    let few = at_most c.args.groups.now c.groups.j c.index-groups-j.result c.requires.few c.groups-test.true in omega arith

pub groups-preserved : goal.groups-preserved
groups-preserved c =
    let j = c.groups.j in
    let inv = c.groups.invariant in
    let lists = c.groups.lists in
    let counts = c.groups.counts in
    let groups = c.args.groups.now in
    let d = c.index-groups-j.result in
    let group : List Node = (get_or groups j d).now in
    let len : ℕ = length group in
    let count : ℕ = get_or counts len 0 in
    let same : get_or (lent groups) j [] ≡ group = lent_at groups j d c.groups-test.true in
    let most = at_most groups j d c.requires.few c.groups-test.true in
    let few : len < 10 = omega arith in
    let fits : len < length lists = omega (arith, inv.lists_size) in
    let room : len < length counts = omega (arith, inv.counts_size) in
    let long : count < length (get_or lists len []) = omega (arith, inv.sizes len few, inv.counts len, c.requires.groups, c.groups-test.true) in
    let row : List ℕ = set (get_or lists len []) count j in
    record {
      lists_size = length-set lists len row ∙ inv.lists_size;
      sizes = λ l h. set_cases (λ _ x. length x ≡ 64) [] lists len row fits (length-set (get_or lists len []) count j ∙ inv.sizes len few) l (λ _. inv.sizes l h);
      counts_size = length-set counts len (count + 1) ∙ inv.counts_size;
      counts = λ l. set_cases (λ _ x. x ≤ j + 1) 0 counts len (count + 1) room (omega (arith, inv.counts len)) l (λ _. omega (arith, inv.counts l));
      within = λ l k h. elim (cases_eq l len) [
        | inl e ↦
            let counted : get_or (set counts len (count + 1)) l 0 ≡ count + 1 =
            ap (λ (m : ℕ). get_or (set counts len (count + 1)) m 0) e ∙ get_or-set_same counts len (count + 1) 0 room in
            let below : k < count + 1 = omega arith in
            let here : get_or (set lists len row) l [] ≡ row = ap (λ (m : ℕ). get_or (set lists len row) m []) e ∙ get_or-set_same lists len row [] fits in
            subst (λ (x : List ℕ). get_or x k 0 < j + 1) (sym here)
            (set_cases (λ _ x. x < j + 1) 0 (get_or lists len []) count j long (omega arith) k
            (λ ne. let earlier = inv.within len k (omega (arith, ne)) in omega arith))
        | inr ne ↦
            let counted : get_or (set counts len (count + 1)) l 0 ≡ get_or counts l 0 = get_or-set_other counts len l (count + 1) 0 ne in
            let earlier = inv.within l k (omega arith) in
            subst (λ (x : List ℕ). get_or x k 0 < j + 1) (sym (get_or-set_other lists len l row [] ne)) (omega arith)
      ];
      listed = λ i h. elim (cases_lt i j) [
        | inl before ↦ IsListed-more lists counts len j fits room (length (get_or (lent groups) i [])) i (inv.listed i before)
        | inr past ↦
            let here : i ≡ j = omega arith in
            rw (here, same) (IsListed-last lists counts len j fits room long)
      ];
    }
