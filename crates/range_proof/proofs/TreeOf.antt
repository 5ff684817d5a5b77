-- Hash trees: bounds of groups, levels from the chunks up, and the sides of a range on each of them.
use Rattle.std.proofs.Common.{◌≡◌, ℕ, zero, suc, ◌+◌, ◌-◌, ◌^◌, ◌<◌, ◌≤◌, List, [], ◌∷◌, ◌++◌, length, get_or, map, take, drop, refl, sym, ap, subst, ◌∙◌, arith, append_assoc, append-nil, length-append, length-take, length-drop, inl, inr}
use Rattle.std.specs.Prelude.{sum_by}
use Rattle.std.proofs.lemmas.Bool.{cases_lt}
use Rattle.std.proofs.lemmas.List.{length-map, take-append-drop, take_at, drop_at, drop_all, drop_more, take-take, drop-take, drop-drop, take-map, drop-map, get_or-take, get_or-drop, get_or_at, nil_from_length}
use Rattle.std.proofs.lemmas.List.Concat.{flat_map-append}
use Rattle.std.proofs.lemmas.List.Sums.{sum_by-cons, sum_by_more, sum_by_push, sum_by-take-le}
use Rattle.xet_hash.specs.Hash.{default_hash}
use Rattle.xet_roots.specs.Groups.{Node, Groups}
use Rattle.xet_roots.specs.Roots.{total_size, parent, parent_hash, IsRoot}
use Rattle.xet_roots.specs.Roots.IsRootBy.{no_node, one_node as one_root, of_parents}
use Rattle.xet_roots.specs.Steps.Scan.{IsFirstGroup, AreParents}
use Rattle.xet_roots.proofs.Grouping.OneCutting.{Groups-push, Groups-unique, Groups-exist}
use Rattle.xet_roots.proofs.Roots.Making.{total_size-are_parents}
use Rattle.range_proof.specs.Proving.{IsRangeOfBytes}
use Rattle.level_nodes.specs.Level.{Level}
use Rattle.range_proof.specs.RangeProof.{AreSides, IsProofOf, joined}
use Rattle.range_proof.specs.RangeProof.AreSides.{one_node, beside}
use Rattle.range_proof.specs.Steps.Places.{ArePlaces, AreBounds}
use Rattle.range_proof.specs.Steps.Trees.{IsLevelKept, IsKept, IsTree, lowest, IsBeside, AreSidesOf}
use Rattle.range_proof.proofs.PlacesOf.{AreSums-none, AreSums-push, sums_rise, sum_read, IsSearchable, searchable, IsPart, IsIn-from_part}

-- ---- the bounds of groups

-- as many nodes are in the groups as their lengths say
length-joined : (groups : List (List Node)) → length (joined groups) ≡ sum_by length groups
length-joined [] = refl
length-joined (group ∷ groups) = omega (arith, length-joined groups, length-append group (joined groups), sum_by-cons {X = List Node} length group groups)

-- the first groups are known, with their bounds, and whatever groups the rest has complete them
pub record IsBoundedTo (nodes : List Node) (begin : ℕ) (bounds : List ℕ) : Type 0 where
  pub done : List (List Node)
  pub begin_is : begin ≡ sum_by length done
  pub bounds_are : AreBounds done bounds
  pub complete : (more : List (List Node)) → Groups (drop begin nodes) more → Groups nodes (done ++ more)

pub IsBoundedTo-none : (nodes : List Node) (bounds : List ℕ) → bounds ≡ 0 ∷ [] → IsBoundedTo nodes 0 bounds
IsBoundedTo-none nodes bounds e = record {
  done = [];
  begin_is = refl;
  bounds_are = AreSums-none length 0 bounds e;
  complete = λ more h. h;
}

pub IsBoundedTo-more : (nodes : List Node) (begin n : ℕ) (bounds : List ℕ) → IsBoundedTo nodes begin bounds → n ≤ length (drop begin nodes) →
    IsFirstGroup (take n (drop begin nodes)) (drop n (drop begin nodes)) → IsBoundedTo nodes (begin + n) (bounds ++ (begin + n) ∷ [])
IsBoundedTo-more nodes begin n bounds h within first =
    let group = take n (drop begin nodes) in
    let len : length group ≡ n = omega (arith, length-take n (drop begin nodes)) in
    let begin_is = h.begin_is in
    record {
      done = h.done ++ group ∷ [];
      begin_is = omega (arith, sum_by_push {X = List Node} length h.done group);
      bounds_are = AreSums-push length 0 h.done bounds group (begin + n) h.bounds_are (omega arith);
      complete = λ more cutting.
          let rest : Groups (drop n (drop begin nodes)) more = subst (λ (l : List Node). Groups l more) (sym (drop-drop n begin nodes)) cutting in
          let longer : Groups (drop begin nodes) (group ∷ more) =
          subst (λ (l : List Node). Groups l (group ∷ more)) (take-append-drop n (drop begin nodes)) (Groups-push group (drop n (drop begin nodes)) more first rest) in
          subst (Groups nodes) (sym (append_assoc h.done (group ∷ []) more)) (h.complete (group ∷ more) longer);
    }

pub bounds_of_all : (nodes : List Node) (begin : ℕ) (bounds : List ℕ) → length nodes ≤ begin → IsBoundedTo nodes begin bounds →
    (groups : List (List Node)) → Groups nodes groups → AreBounds groups bounds
bounds_of_all nodes begin bounds all h groups cutting =
    let none : Groups (drop begin nodes) [] = subst (λ (l : List Node). Groups l []) (sym (drop_all begin nodes all)) (record { joined = refl; are_groups = tt }) in
    let whole : Groups nodes h.done = subst (Groups nodes) (append-nil h.done) (h.complete [] none) in
    subst (λ (l : List (List Node)). AreBounds l bounds) (Groups-unique nodes h.done groups whole cutting) h.bounds_are

-- ---- the sides of a range on one level

-- the nodes of the first groups, and of the others
groups_front : (nodes : List Node) (groups : List (List Node)) (k : ℕ) → Groups nodes groups → take (sum_by length (take k groups)) nodes ≡ joined (take k groups)
groups_front nodes groups k cutting =
    let parts : nodes ≡ joined (take k groups) ++ joined (drop k groups) =
    sym cutting.joined ∙ ap joined (sym (take-append-drop k groups)) ∙ flat_map-append (λ (group : List Node). group) (take k groups) (drop k groups) in
    ap (take (sum_by length (take k groups))) parts
    ∙ take_at (joined (take k groups)) (joined (drop k groups)) (sum_by length (take k groups)) (length-joined (take k groups))

groups_back : (nodes : List Node) (groups : List (List Node)) (k : ℕ) → Groups nodes groups → drop (sum_by length (take k groups)) nodes ≡ joined (drop k groups)
groups_back nodes groups k cutting =
    let parts : nodes ≡ joined (take k groups) ++ joined (drop k groups) =
    sym cutting.joined ∙ ap joined (sym (take-append-drop k groups)) ∙ flat_map-append (λ (group : List Node). group) (take k groups) (drop k groups) in
    ap (drop (sum_by length (take k groups))) parts
    ∙ drop_at (joined (take k groups)) (joined (drop k groups)) (sum_by length (take k groups)) (length-joined (take k groups))

-- as many nodes are in all groups as in the list
pub groups_sum : (nodes : List Node) (groups : List (List Node)) → Groups nodes groups → sum_by length groups ≡ length nodes
groups_sum nodes groups cutting = sym (length-joined groups) ∙ ap length cutting.joined

-- the group of number g holds the range's first node, and that of number h the last one
pub record AreEnds (groups : List (List Node)) (first end g h : ℕ) : Type 0 where
  pub g_within : g < length groups
  pub h_within : h < length groups
  pub g_begins : sum_by length (take g groups) ≤ first
  pub g_ends : first < sum_by length (take (g + 1) groups)
  pub h_begins : sum_by length (take h groups) < end
  pub h_ends : end ≤ sum_by length (take (h + 1) groups)

ends_in_order : (groups : List (List Node)) (first end g h : ℕ) → first < end → AreEnds groups first end g h → g < h + 1
ends_in_order groups first end g h some e =
    elim (cases_lt g (h + 1)) [
      | inl less ↦ less
      | inr more ↦
          let rise = sums_rise {X = List Node} length groups (h + 1) g more in
          let begins = e.g_begins in
          let ends = e.h_ends in
          absurd (omega arith)
    ]

pub IsBeside-from : (nodes : List Node) (groups : List (List Node)) (first end g h begin stop : ℕ) (sides : Level) → Groups nodes groups → first < end →
    end ≤ length nodes → AreEnds groups first end g h → begin ≡ sum_by length (take g groups) → stop ≡ sum_by length (take (h + 1) groups) →
    sides ≡ record { left = take (first - begin) (drop begin nodes); right = take (stop - end) (drop end nodes) } →
    IsBeside nodes groups first end sides g (h + 1)
IsBeside-from nodes groups first end g h begin stop sides cutting some within e begin_is stop_is is =
    let begins = e.g_begins in
    let g_ends = e.g_ends in
    let h_begins = e.h_begins in
    let h_ends = e.h_ends in
    let h_within = e.h_within in
    let left = take (first - begin) (drop begin nodes) in
    let right = take (stop - end) (drop end nodes) in
    let left_is : sides.left ≡ left = ap (λ (s : Level). s.left) is in
    let right_is : sides.right ≡ right = ap (λ (s : Level). s.right) is in
    let front : take first nodes ≡ joined (take g groups) ++ left =
    sym (take-append-drop begin (take first nodes))
    ∙ (λ i. take-take begin first nodes (let b : begin ≤ first = omega arith in b) i ++ (ap (λ (k : ℕ). drop begin (take k nodes)) (let e : first ≡ begin + (first - begin) = omega arith in e) ∙ drop-take begin (first - begin) nodes) i)
    ∙ ap (λ (l : List Node). l ++ left) (ap (λ (k : ℕ). take k nodes) begin_is ∙ groups_front nodes groups g cutting) in
    let back : drop end nodes ≡ right ++ joined (drop (h + 1) groups) =
    sym (take-append-drop (stop - end) (drop end nodes))
    ∙ ap (λ (l : List Node). right ++ l)
    (drop-drop (stop - end) end nodes ∙ ap (λ (k : ℕ). drop k nodes) (let s : end + (stop - end) ≡ sum_by length (take (h + 1) groups) = omega arith in s) ∙ groups_back nodes groups (h + 1) cutting) in
    let len_left = ap length left_is in
    let len_right = ap length right_is in
    let first_group = sum_by_more {X = List Node} length groups g [] e.g_within in
    let last_group = sum_by_more {X = List Node} length groups h [] e.h_within in
    let same : h + 1 - 1 ≡ h = omega arith in
    record {
      order = ends_in_order groups first end g h some e;
      within = omega arith;
      left_is = front ∙ ap (λ (l : List Node). joined (take g groups) ++ l) (sym left_is);
      right_is = back ∙ ap (λ (l : List Node). l ++ joined (drop (h + 1) groups)) (sym right_is);
      short_left = omega (arith, length-take (first - begin) (drop begin nodes));
      short_right = subst (λ (k : ℕ). length sides.right < length (get_or groups k [])) (sym same) (omega (arith, length-take (stop - end) (drop end nodes)));
    }

-- ---- the sides of a range on all levels

-- a list is three parts of it
three_parts : {X : Type 0} (xs : List X) (a b : ℕ) → a ≤ b → (take a xs ++ take (b - a) (drop a xs)) ++ drop b xs ≡ xs
three_parts xs a b order =
    append_assoc (take a xs) (take (b - a) (drop a xs)) (drop b xs)
    ∙ ap (λ l. take a xs ++ l)
    (ap (λ l. take (b - a) (drop a xs) ++ l) (ap (λ (k : ℕ). drop k xs) (let e : b ≡ a + (b - a) = omega arith in e) ∙ sym (drop-drop (b - a) a xs)) ∙ take-append-drop (b - a) (drop a xs))
    ∙ take-append-drop a xs

-- the sides of a level below those of its parents
AreSides-more : (nodes : List Node) (groups : List (List Node)) (first end from to : ℕ) (sides : Level) (levels : List Level) → 2 ≤ length nodes → first < end →
    Groups nodes groups → IsBeside nodes groups first end sides from to → AreSidesOf (map parent groups) from to levels →
    AreSidesOf nodes first end (sides ∷ levels)
AreSides-more nodes groups first end from to sides levels two some cutting b above =
    let order = b.order in
    let within = b.within in
    let whole = three_parts nodes first end (omega arith) in
    let parts = three_parts groups from to (omega arith) in
    let hit = take (to - from) (drop from groups) in
    let len_hit : length hit ≡ to - from = omega (arith, length-take (to - from) (drop from groups), length-drop from groups) in
    let first_hit : get_or hit 0 [] ≡ get_or groups from [] =
    get_or-take (to - from) (drop from groups) 0 [] (omega arith) ∙ get_or-drop from groups 0 [] ∙ ap (λ (k : ℕ). get_or groups k []) (let e : from + 0 ≡ from = omega arith in e) in
    let last_hit : get_or hit ((to - from) - 1) [] ≡ get_or groups (to - 1) [] =
    get_or-take (to - from) (drop from groups) ((to - from) - 1) [] (omega arith) ∙ get_or-drop from groups ((to - from) - 1) []
    ∙ ap (λ (k : ℕ). get_or groups k []) (let e : from + ((to - from) - 1) ≡ to - 1 = omega arith in e) in
    beside (take from groups) hit (drop to groups)
    (subst (λ (l : List Node). 2 ≤ length l) (sym whole) two)
    (subst (λ (l : List Node). Groups l ((take from groups ++ hit) ++ drop to groups)) (sym whole) (subst (Groups nodes) (sym parts) cutting))
    b.left_is b.right_is
    (λ group more e. subst (λ (l : List Node). length sides.left < length l) (sym first_hit ∙ ap (λ (l : List (List Node)). get_or l 0 []) e) b.short_left)
    (λ more group e.
    let len = ap length e in
    subst (λ (l : List Node). length sides.right < length l)
    (sym last_hit ∙ ap (λ (l : List (List Node)). get_or l ((to - from) - 1) []) e ∙ get_or_at more group [] [] ((to - from) - 1) (omega (arith, length-append more (group ∷ [])))) b.short_right)
    (subst (λ (l : List Node). AreSides (map parent (take from groups)) (map parent hit) l levels) (drop-map parent to groups)
    (subst (λ (l : List Node). AreSides (map parent (take from groups)) l (drop to (map parent groups)) levels)
    (ap (take (to - from)) (drop-map parent from groups) ∙ take-map parent (to - from) (drop from groups))
    (subst (λ (l : List Node). AreSides l (take (to - from) (drop from (map parent groups))) (drop to (map parent groups)) levels) (take-map parent from groups) above)))

-- after some levels a range of nodes is reached: whatever sides it has complete those of the chunks
pub record IsClimbed (chunks : List Node) (first end : ℕ) (levels : List (List Node)) (i from to : ℕ) (sides : List Level) : Type 0 where
  pub nodes : List Node
  pub top : List Node
  pub tree : IsTree (drop i levels) top nodes
  pub order : from < to
  pub within : to ≤ length nodes
  pub complete : (more : List Level) → AreSidesOf nodes from to more → AreSidesOf chunks first end (sides ++ more)

pub IsClimbed-none : (chunks : List Node) (first end : ℕ) (levels : List (List Node)) (top : List Node) (sides : List Level) → IsTree levels top chunks →
    first < end → end ≤ length chunks → sides ≡ [] → IsClimbed chunks first end levels 0 first end sides
IsClimbed-none chunks first end levels top sides tree order within none = record {
  nodes = chunks;
  top = top;
  tree = tree;
  order = order;
  within = within;
  complete = λ more h. subst (λ (l : List Level). AreSidesOf chunks first end (l ++ more)) (sym none) h;
}

-- the tree over a level that is reached
at_level : (levels : List (List Node)) (i : ℕ) (top nodes level : List Node) → i < length levels → level ≡ get_or levels i level →
    IsTree (drop i levels) top nodes → IsTree (level ∷ drop (i + 1) levels) top nodes
at_level levels i top nodes level within here tree =
    subst (λ (l : List (List Node)). IsTree l top nodes) (drop_more levels i level within ∙ ap (λ (l : List Node). l ∷ drop (i + 1) levels) (sym here)) tree

-- the range is within the level
pub range_in_level : (chunks : List Node) (first end : ℕ) (levels : List (List Node)) (i from to : ℕ) (sides : List Level) (level : List Node) → i < length levels →
    level ≡ get_or levels i level → IsClimbed chunks first end levels i from to sides → to ≤ length level
range_in_level chunks first end levels i from to sides level within here h =
    let tree = at_level levels i h.top h.nodes level within here h.tree in
    let len = ap length tree.0 in
    let inside = h.within in
    omega arith

pub IsClimbed-more : (chunks : List Node) (first end : ℕ) (levels : List (List Node)) (i from to : ℕ) (sides : List Level) (level : List Node) (more : Level)
    (next_from next_to : ℕ) → i < length levels → level ≡ get_or levels i level → IsClimbed chunks first end levels i from to sides →
    ((groups : List (List Node)) → Groups level groups → IsBeside level groups from to more next_from next_to) →
    IsClimbed chunks first end levels (i + 1) next_from next_to (sides ++ more ∷ [])
IsClimbed-more chunks first end levels i from to sides level more next_from next_to within here h found =
    let tree = at_level levels i h.top h.nodes level within here h.tree in
    let groups = tree.2.0 in
    let cutting : Groups level groups = subst (λ (l : List Node). Groups l groups) tree.0 tree.2.1 in
    let b = found groups cutting in
    let inside = b.within in
    record {
      nodes = map parent groups;
      top = h.top;
      tree = tree.2.2;
      order = b.order;
      within = omega (arith, length-map groups parent);
      complete = λ rest above.
          let here_too = AreSides-more level groups from to next_from next_to more rest (subst (λ (l : List Node). 2 ≤ length l) tree.0 tree.1) h.order cutting b above in
          subst (AreSidesOf chunks first end) (sym (append_assoc sides (more ∷ []) rest))
          (h.complete (more ∷ rest) (subst (λ (l : List Node). AreSidesOf l from to (more ∷ rest)) (sym tree.0) here_too));
    }

pub IsClimbed-all : (chunks : List Node) (first end : ℕ) (levels : List (List Node)) (i from to : ℕ) (sides : List Level) → length levels ≤ i →
    IsClimbed chunks first end levels i from to sides → AreSidesOf chunks first end sides
IsClimbed-all chunks first end levels i from to sides all h =
    let order = h.order in
    let tree : IsTree [] h.top h.nodes = subst (λ (l : List (List Node)). IsTree l h.top h.nodes) (drop_all i levels all) h.tree in
    subst (AreSidesOf chunks first end) (append-nil sides)
    (h.complete [] (one_node (subst (λ (l : List Node). length l ≤ 1) (sym (three_parts h.nodes from to (omega arith))) tree.1)))

-- ---- the levels of a tree

-- some levels are made: whatever tree stands on the nodes that are left completes them
pub record IsGrown (chunks : List Node) (levels : List (List Node)) (nodes : List Node) : Type 0 where
  pub complete : (more : List (List Node)) (top : List Node) → IsTree more top nodes → IsTree (levels ++ more) top chunks
  pub size : total_size nodes ≡ total_size chunks

pub IsGrown-none : (chunks : List Node) (levels : List (List Node)) (nodes : List Node) → levels ≡ [] → nodes ≡ chunks → IsGrown chunks levels nodes
IsGrown-none chunks levels nodes none same = record {
  complete = λ more top h.
      subst (λ (l : List (List Node)). IsTree (l ++ more) top chunks) (sym none) (subst (λ (l : List Node). IsTree more top l) same h);
  size = ap total_size same;
}

pub IsGrown-more : (chunks : List Node) (levels : List (List Node)) (nodes above : List Node) → 2 ≤ length nodes → IsGrown chunks levels nodes →
    AreParents parent nodes above → IsGrown chunks (levels ++ nodes ∷ []) above
IsGrown-more chunks levels nodes above two h made = record {
  complete = λ more top tree.
      subst (λ (l : List (List Node)). IsTree l top chunks) (sym (append_assoc levels (nodes ∷ []) more))
      (h.complete (nodes ∷ more) top (refl, two, (made.0, made.1, subst (λ (l : List Node). IsTree more top l) made.2 tree)));
  size = total_size-are_parents parent_hash nodes above made ∙ h.size;
}

pub IsGrown-all : (chunks : List Node) (levels : List (List Node)) (nodes : List Node) → length nodes ≤ 1 → IsGrown chunks levels nodes → IsTree levels nodes chunks
IsGrown-all chunks levels nodes few h =
    subst (λ (l : List (List Node)). IsTree l nodes chunks) (append-nil levels) (h.complete [] nodes (refl, few))

pub lowest_is : (levels : List (List Node)) (top nodes : List Node) → IsTree levels top nodes → lowest levels top ≡ nodes
lowest_is [] top nodes tree = sym tree.0
lowest_is (level ∷ levels) top nodes tree = sym tree.0

-- ---- the root of a tree

pub top_few : (levels : List (List Node)) (top nodes : List Node) → IsTree levels top nodes → length top ≤ 1
top_few [] top nodes tree = subst (λ (l : List Node). length l ≤ 1) tree.0 tree.1
top_few (level ∷ levels) top nodes tree = top_few levels top (map parent tree.2.0) tree.2.2

root_of_top : (levels : List (List Node)) (top nodes : List Node) (root : List ℕ) → IsTree levels top nodes → IsRoot top root → IsRoot nodes root
root_of_top [] top nodes root tree is = subst (λ (l : List Node). IsRoot l root) (sym tree.0) is
root_of_top (level ∷ levels) top nodes root tree is =
    of_parents tree.1 tree.2.1 (root_of_top levels top (map parent tree.2.0) root tree.2.2 is)

pub root_if_none : (levels : List (List Node)) (top nodes : List Node) (root : List ℕ) → IsTree levels top nodes → ¬ (length top ≡ 1) → root ≡ default_hash → IsRoot nodes root
root_if_none levels top nodes root tree none is =
    let few = top_few levels top nodes tree in
    root_of_top levels top nodes root tree
    (subst (λ (l : List Node). IsRoot l root) (sym (nil_from_length top (no_one (length top) few none))) (subst (λ (h : List ℕ). IsRoot [] h) (sym is) no_node)) where
      no_one : (n : ℕ) → n ≤ 1 → ¬ (n ≡ 1) → n ≡ 0
      no_one zero few none = refl
      no_one (suc zero) few none = absurd (none refl)
      no_one (suc (suc n)) few none = absurd (omega arith)

pub root_if_one : (levels : List (List Node)) (top nodes : List Node) (root : List ℕ) → IsTree levels top nodes → (size : ℕ) × (top ≡ (root, size) ∷ []) → IsRoot nodes root
root_if_one levels top nodes root tree one =
    root_of_top levels top nodes root tree (subst (λ (l : List Node). IsRoot l root) (sym one.1) one_root)

-- ---- a level that keeps its bounds

module _ (nodes : List Node) (bounds : List ℕ) (kept : IsLevelKept nodes bounds) where
  -- each node is in a group
  pub node_searchable : (node : ℕ) → node < length nodes → IsSearchable bounds node
  node_searchable node within =
      let groups = Groups-exist nodes in
      searchable length groups.0 bounds (kept.bounds_are groups.0 groups.1) node (subst (λ (n : ℕ). node < n) (sym (groups_sum nodes groups.0 groups.1)) within)

  module _ (first end g h begin stop : ℕ) (some : first < end) (within : end ≤ length nodes) (g_is : IsPart bounds first g) (h_is : IsPart bounds (end - 1) h)
      (begin_is : begin ≡ get_or bounds g begin) (stop_is : stop ≡ get_or bounds (h + 1) stop) where
    ends_of : (groups : List (List Node)) → Groups nodes groups → AreEnds groups first end g h
    ends_of groups cutting =
        let are = kept.bounds_are groups cutting in
        let of_first = IsIn-from_part length groups bounds are first g g_is in
        let of_last = IsIn-from_part length groups bounds are (end - 1) h h_is in
        let begins = of_last.begins in
        let ends = of_last.ends in
        record {
          g_within = of_first.within;
          h_within = of_last.within;
          g_begins = of_first.begins;
          g_ends = of_first.ends;
          h_begins = omega arith;
          h_ends = omega arith;
        }

    begin_sum : (groups : List (List Node)) → Groups nodes groups → begin ≡ 0 + sum_by length (take g groups)
    begin_sum groups cutting =
        let inside = (ends_of groups cutting).g_within in
        sum_read {X = List Node} length 0 groups bounds g begin (kept.bounds_are groups cutting) (omega arith) begin_is

    stop_sum : (groups : List (List Node)) → Groups nodes groups → stop ≡ 0 + sum_by length (take (h + 1) groups)
    stop_sum groups cutting =
        let inside = (ends_of groups cutting).h_within in
        sum_read {X = List Node} length 0 groups bounds (h + 1) stop (kept.bounds_are groups cutting) (omega arith) stop_is

    -- where the sides are cut out
    pub record AreCuts : Type 0 where
      pub begin_before : begin ≤ first
      pub stop_after : end ≤ stop
      pub stop_within : stop ≤ length nodes

    pub cuts : AreCuts
    cuts =
        let groups = Groups-exist nodes in
        let e = ends_of groups.0 groups.1 in
        let begins = e.g_begins in
        let ends = e.h_ends in
        let begin_at = begin_sum groups.0 groups.1 in
        let stop_at = stop_sum groups.0 groups.1 in
        let most = sum_by-take-le {X = List Node} length groups.0 (h + 1) in
        let all = groups_sum nodes groups.0 groups.1 in
        record { begin_before = omega arith; stop_after = omega arith; stop_within = omega arith }

    pub beside_of : (sides : Level) → sides ≡ record { left = take (first - begin) (drop begin nodes); right = take (stop - end) (drop end nodes) } →
        (groups : List (List Node)) → Groups nodes groups → IsBeside nodes groups first end sides g (h + 1)
    beside_of sides is groups cutting =
        let begin_at = begin_sum groups cutting in
        let stop_at = stop_sum groups cutting in
        IsBeside-from nodes groups first end g h begin stop sides cutting some within (ends_of groups cutting) (omega arith) (omega arith) is

-- what a tree keeps, if its levels and its places are those of some chunks
pub IsKept-from : (levels : List (List Node)) (top chunks : List Node) (places : List ℕ) → IsTree levels top chunks → ArePlaces 0 chunks places →
    total_size chunks < 2 ^ 64 → IsKept levels top places
IsKept-from levels top chunks places tree are fits =
    let same = lowest_is levels top chunks tree in
    record {
      tree = subst (IsTree levels top) (sym same) tree;
      places_are = subst (λ (l : List Node). ArePlaces 0 l places) (sym same) are;
      fits = subst (λ (l : List Node). total_size l < 2 ^ 64) (sym same) fits;
    }

-- ---- the proof of a range

pub IsProofOf-from : (nodes chunks : List Node) (first end : ℕ) (levels : List Level) → first < end → end ≤ length nodes →
    chunks ≡ take (end - first) (drop first nodes) → AreSidesOf nodes first end levels → IsProofOf nodes first end (record { chunks = chunks; levels = levels })
IsProofOf-from nodes chunks first end levels some within is sides = record { some = some; within = within; chunks = is; sides = sides }

-- ---- the range of chunks that holds some bytes

pub IsRangeOfBytes-from : (nodes : List Node) (places : List ℕ) (from to first last : ℕ) → ArePlaces 0 nodes places → from < to →
    IsPart places from first → IsPart places (to - 1) last → IsRangeOfBytes nodes from to first (last + 1)
IsRangeOfBytes-from nodes places from to first last are order first_is last_is =
    let a = IsIn-from_part (λ (n : Node). n.1) nodes places are from first first_is in
    let b = IsIn-from_part (λ (n : Node). n.1) nodes places are (to - 1) last last_is in
    let begins = b.begins in
    let ends = b.ends in
    let inside = b.within in
    let a_begins = a.begins in
    let same : last + 1 - 1 ≡ last = omega arith in
    record {
      some = elim (cases_lt first (last + 1)) [
        | inl less ↦ less
        | inr more ↦ let rise = sums_rise (λ (n : Node). n.1) nodes (last + 1) first more in absurd (omega arith)
      ];
      within = omega arith;
      first_begins = a_begins;
      first_ends = a.ends;
      last_begins = subst (λ (k : ℕ). total_size (take k nodes) < to) (sym same) (omega arith);
      last_ends = omega arith;
    }
