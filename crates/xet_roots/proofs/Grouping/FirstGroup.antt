-- The scan of a list by index finds its first group.
use Rattle.std.proofs.Common.{◌≡◌, ℕ, ◌+◌, ◌<◌, ◌≤◌, List, ◌∷◌, length, get_or, take, drop, min, refl, sym, ap, ◌∙◌, subst, inl, inr, arith, length-append, length-take}
use Rattle.std.proofs.lemmas.Bool.{cases_lt}
use Rattle.std.proofs.lemmas.List.{get_or_at, get_or-take, take_more, drop_all}
use Rattle.xet_roots.specs.Groups.{Node, Cut, NotCut, IsGroup}
use Rattle.xet_roots.specs.Steps.Scan.{IsFirstGroup}

-- no cut stands from index 2 to below n
abbrev pub NoCutBelow : List Node → ℕ → Type 0
NoCutBelow nodes n = (k : ℕ) (d : Node) → 2 ≤ k → k < n → NotCut (get_or nodes k d)

take_is_group : (nodes : List Node) (n : ℕ) → 0 < n → n ≤ 9 → n ≤ length nodes → ((k : ℕ) (d : Node) → 2 ≤ k → k + 1 < n → NotCut (get_or nodes k d)) → IsGroup (take n nodes)
take_is_group nodes n some few within no_cut = record {
  not_empty = omega (arith, length-take n nodes);
  at_most_nine = omega (arith, length-take n nodes);
  no_cut_inside = λ before node after e two more.
      let len = ap length e in
      let below : length before + 1 < n = omega (arith, length-take n nodes, length-append before (node ∷ after)) in
      let at : get_or nodes (length before) node ≡ node =
      sym (get_or-take n nodes (length before) node (omega arith)) ∙ ap (λ (l : List Node). get_or l (length before) node) e
      ∙ get_or_at before node after node (length before) refl in
      subst NotCut at (no_cut (length before) node two below);
}

-- the scan stopped at a cut
pub IsFirstGroup-at_cut : (nodes : List Node) (i : ℕ) (d : Node) → 2 ≤ i → i < 9 → i < length nodes → NoCutBelow nodes i → Cut (get_or nodes i d) →
    IsFirstGroup (take (i + 1) nodes) (drop (i + 1) nodes)
IsFirstGroup-at_cut nodes i d two nine within no_cut cut = record {
  is_group = take_is_group nodes (i + 1) (omega arith) (omega arith) (omega arith) (λ k e low high. no_cut k e low (omega arith));
  full = inr (record {
    at_least_three = omega (arith, length-take (i + 1) nodes);
    ends = inl (take i nodes, get_or nodes i d, take_more nodes i d within, cut);
  });
}

-- the scan found no cut
pub IsFirstGroup-at_end : (nodes : List Node) (n : ℕ) → 0 < length nodes → n ≡ min (length nodes) 9 → NoCutBelow nodes n →
    IsFirstGroup (take n nodes) (drop n nodes)
IsFirstGroup-at_end nodes n some e no_cut = record {
  is_group = take_is_group nodes n (omega arith) (omega arith) (omega arith) (λ k d low high. no_cut k d low (omega arith));
  full = elim (cases_lt n (length nodes)) [
    | inl less ↦ inr (record {
      at_least_three = omega (arith, length-take n nodes);
      ends = inr (omega (arith, length-take n nodes));
    })
    | inr all ↦ inl (drop_all n nodes all)
  ];
}
