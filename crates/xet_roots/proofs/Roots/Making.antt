-- Making the parents of a list group by group, and a root level by level.
use Rattle.std.proofs.Common.{◌≡◌, ℕ, ◌+◌, ◌*◌, ◌<◌, ◌≤◌, List, [], ◌∷◌, ◌++◌, length, get_or, map, take, drop, refl, sym, ap, subst, ◌∙◌, arith, append_assoc, append-nil}
use Rattle.std.proofs.lemmas.List.{length-map, map-append, take-append-drop}
use Rattle.std.proofs.lemmas.List.Sums.{sum_by-append, sum_by-cons, sum_by-take-drop}
use Rattle.xet_hash.specs.Blake3.{keyed_hash}
use Rattle.xet_hash.specs.Hash.{default_hash, bytes_of, hash_of}
use Rattle.xet_roots.specs.Groups.{Node, Groups}
use Rattle.xet_roots.specs.Roots.{total_size, parent_by, parent, IsRoot, IsFileHash}
use Rattle.xet_roots.specs.Roots.IsRootBy.{no_node, one_node, of_parents}
use Rattle.xet_roots.specs.Steps.Scan.{IsFirstGroup, AreFirstGroups, AreParents, LeadsTo, PushesParents}
use Rattle.xet_roots.proofs.Grouping.OneCutting.{joined_nodes, Groups-push}
use Rattle.xet_roots.proofs.Roots.OneRoot.{Groups-few, Groups-some}

-- some parents are made that lead to the parents of the groups of some nodes after others
abbrev pub PushedSoFar : (List Node → Node) → List Node → List Node → List Node → List Node → Type 0
PushedSoFar make nodes old made rest = LeadsTo make (PushesParents make nodes old) made rest

module _ (make : List Node → Node) (Wanted : List Node → Type 0) where
  pub LeadsTo-more : (made rest : List Node) (groups : List (List Node)) (after : List Node) → AreFirstGroups rest groups after
      → LeadsTo make Wanted made rest → LeadsTo make Wanted (made ++ map make groups) after
  LeadsTo-more made rest groups after first so_far = λ more cutting.
      let joined : made ++ map make (groups ++ more) ≡ (made ++ map make groups) ++ map make more =
      ap (λ (l : List Node). made ++ l) (map-append make groups more) ∙ sym (append_assoc made (map make groups) (map make more)) in
      subst Wanted joined (so_far (groups ++ more) (first more cutting))

  pub LeadsTo-one : (made rest : List Node) (n : ℕ) → IsFirstGroup (take n rest) (drop n rest) → LeadsTo make Wanted made rest →
      LeadsTo make Wanted (made ++ make (take n rest) ∷ []) (drop n rest)
  LeadsTo-one made rest n first so_far = λ groups cutting.
      let group = take n rest in
      let longer : Groups rest (group ∷ groups) = subst (λ (l : List Node). Groups l (group ∷ groups)) (take-append-drop n rest) (Groups-push group (drop n rest) groups first cutting) in
      subst Wanted (sym (append_assoc made (make group ∷ []) (map make groups))) (so_far (group ∷ groups) longer)

  pub LeadsTo-all : (made rest : List Node) → rest ≡ [] → LeadsTo make Wanted made rest → Wanted made
  LeadsTo-all made rest none so_far =
      subst Wanted (append-nil made)
      (so_far [] (subst (λ (l : List Node). Groups l []) (sym none) (record { joined = refl; are_groups = tt })))

  -- the parents of the whole rest are added
  pub LeadsTo-pushed : (made rest new : List Node) → PushesParents make rest made new → LeadsTo make Wanted made rest → Wanted new
  LeadsTo-pushed made rest new pushed so_far =
      subst Wanted (sym (pushed.2 ∙ ap (λ (l : List Node). made ++ l) pushed.1.2)) (so_far pushed.1.0 pushed.1.1)

-- the sizes of what follows the first nodes
pub total_size-append : (front back : List Node) → total_size (front ++ back) ≡ total_size front + total_size back
total_size-append front back = sum_by-append (λ (node : Node). node.1) front back

pub total_size-drop-le : (n : ℕ) (nodes : List Node) → total_size (drop n nodes) ≤ total_size nodes
total_size-drop-le n nodes = omega (arith, sum_by-take-drop (λ (node : Node). node.1) nodes n)

module _ (hash : List Node → List ℕ) where
  total_size-parents : (groups : List (List Node)) → total_size (map (parent_by hash) groups) ≡ total_size (joined_nodes groups)
  total_size-parents [] = refl
  total_size-parents (group ∷ groups) =
      sum_by-cons (λ (node : Node). node.1) (parent_by hash group) (map (parent_by hash) groups)
      ∙ ap (λ (n : ℕ). total_size group + n) (total_size-parents groups)
      ∙ sym (sum_by-append (λ (node : Node). node.1) group (joined_nodes groups))

  -- parents have the sizes of their nodes
  pub total_size-are_parents : (nodes parents : List Node) → AreParents (parent_by hash) nodes parents → total_size parents ≡ total_size nodes
  total_size-are_parents nodes parents made = ap total_size made.2 ∙ total_size-parents made.0 ∙ ap total_size made.1.joined

module _ (make : List Node → Node) where
  -- a node has a parent, and three times as many nodes as parents are there, but for two
  pub AreParents-some : (nodes parents : List Node) → AreParents make nodes parents → 0 < length nodes → 0 < length parents
  AreParents-some nodes parents made some =
      let len = ap length made.2 in
      let groups = Groups-some nodes made.0 made.1 some in
      omega (arith, length-map made.0 make)

  pub AreParents-few : (nodes parents : List Node) → AreParents make nodes parents → 3 * length parents ≤ length nodes + 2
  AreParents-few nodes parents made =
      let len = ap length made.2 in
      let groups = Groups-few nodes made.0 made.1 in
      omega (arith, length-map made.0 make)

pub IsRoot-from_parents : (nodes parents : List Node) (hash : List ℕ) → AreParents parent nodes parents → 2 ≤ length nodes → IsRoot parents hash → IsRoot nodes hash
IsRoot-from_parents nodes parents hash made two root = of_parents two made.1 (subst (λ (l : List Node). IsRoot l hash) made.2 root)

pub IsRoot-none : (nodes : List Node) (hash : List ℕ) → length nodes < 1 → hash ≡ default_hash → IsRoot nodes hash
IsRoot-none [] hash few e = subst (λ (h : List ℕ). IsRoot [] h) (sym e) no_node
IsRoot-none (node ∷ nodes) hash few e = absurd (omega arith)

pub IsRoot-one : (nodes : List Node) (d : Node) → length nodes ≡ 1 → IsRoot nodes (get_or nodes 0 d).0
IsRoot-one [] d e = absurd (omega arith)
IsRoot-one (node ∷ []) d e = one_node
IsRoot-one (node ∷ next ∷ nodes) d e = absurd (omega arith)

root_of_none : {nodes : List Node} {hash : List ℕ} → length nodes ≡ 0 → IsRoot nodes hash → hash ≡ default_hash
root_of_none e no_node = refl
root_of_none e one_node = absurd (omega arith)
root_of_none e (of_parents two groups root) = absurd (omega arith)

pub IsFileHash-none : (nodes : List Node) (salt root : List ℕ) → length nodes ≡ 0 → IsRoot nodes root → IsFileHash nodes salt root
IsFileHash-none [] salt root e is_root = root_of_none refl is_root
IsFileHash-none (node ∷ nodes) salt root e is_root = absurd (omega arith)

pub IsFileHash-some : (nodes : List Node) (salt root hash : List ℕ) → 0 < length nodes → IsRoot nodes root →
    hash ≡ hash_of (keyed_hash salt (bytes_of root)) → IsFileHash nodes salt hash
IsFileHash-some [] salt root hash some is_root e = absurd (omega arith)
IsFileHash-some (node ∷ nodes) salt root hash some is_root e = (root, is_root, e)
