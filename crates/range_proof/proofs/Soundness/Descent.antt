-- From the top down: on each level of a proof the nodes of the range are those of the file, at the place that the sizes
-- beside them say.
use Rattle.std.proofs.Common.{◌≡◌, ℕ, ◌+◌, ◌<◌, ◌^◌, ◌⊎◌, List, [], ◌∷◌, ◌++◌, length, map, refl, sym, ap, subst, ◌∙◌, inl, inr, arith, append_assoc, length-append}
use Rattle.std.specs.List.{AllByRecursion, sum_by}
use Rattle.std.proofs.lemmas.List.{length-map}
use Rattle.std.proofs.lemmas.List.Concat.{flat_map-append}
use Rattle.std.proofs.lemmas.List.Elements.{recursion_from_All}
use Rattle.std.proofs.lemmas.List.Sums.{sum_by-cons}
use Rattle.xet_hash.specs.Hash.{IsHash}
use Rattle.xet_roots.specs.Groups.{Node, Groups}
use Rattle.xet_roots.specs.Roots.{group_text, parent, total_size}
use Rattle.xet_roots.proofs.Roots.Making.{total_size-append}
use Rattle.xet_roots.proofs.Roots.OneRoot.{Groups-some}
use Rattle.commitment.specs.Commitment.{Message, chunk_node, chunk_nodes, IsLevel, HashedForRoot, Collision}
use Rattle.commitment.specs.Commitment.IsLevel.{lowest, above}
use Rattle.commitment.proofs.Commitment.Texts.{hashes, AllHashes, AllSizes, group_text_tells_nodes}
use Rattle.commitment.proofs.Commitment.Messages.{each_append, each_contained, chunk_message, group_message, same_texts, groups_against_chunks}
use Rattle.commitment.proofs.Commitment.Levels.{AllHashes-chunk_nodes, AllHashes-parents, AllHashes-level, AllHashes-groups, each_joined, each_chunk, each_group}
use Rattle.level_nodes.specs.Level.{Level}
use Rattle.range_proof.specs.RangeProof.{AreHashes, Rises, joined}
use Rattle.range_proof.specs.Soundness.{IsGroupAbove}
use Rattle.range_proof.specs.Soundness.IsGroupAbove.{here, above as further}
use Rattle.range_proof.proofs.Parts.{in_three, each_middle, total_size-parents, AllSizes-total}

-- groups with the same texts are the same groups
groups_from_texts : (groups others : List (List Node)) → AllByRecursion AllHashes groups → AllByRecursion AllSizes groups →
    AllByRecursion AllHashes others → map group_text groups ≡ map group_text others → groups ≡ others
groups_from_texts [] [] h fits k e = refl
groups_from_texts [] (y ∷ others) h fits k e = cc e
groups_from_texts (x ∷ groups) [] h fits k e = cc e
groups_from_texts (x ∷ groups) (y ∷ others) h fits k e =
    let heads : group_text x ≡ group_text y = cc in
    let tails : map group_text groups ≡ map group_text others = cc in
    let head = group_text_tells_nodes x y h.0 fits.0 k.0 heads in
    let tail = groups_from_texts groups others h.1 fits.1 k.1 tails in cc

-- the sums of the sizes on the left sides, on the right sides, and on both
abbrev pub lefts : List Level → ℕ
lefts levels = sum_by (λ sides. total_size sides.left) levels

abbrev pub rights : List Level → ℕ
rights levels = sum_by (λ sides. total_size sides.right) levels

abbrev pub both : List Level → ℕ
both levels = sum_by (λ sides. total_size sides.left + total_size sides.right) levels

-- the nodes that levels lead up from are on a level of the file, with these sizes before and after them. With a level
-- above, the nodes are the same; with none, their hashes are.
pub record Located (file : List (List ℕ)) (levels : List Level) (nodes : List Node) : Type 0 where
  pub level : List Node
  pub is_level : IsLevel (chunk_nodes file) level
  pub before : List Node
  pub range : List Node
  pub after : List Node
  pub parts : level ≡ before ++ (range ++ after)
  pub same_hashes : hashes range ≡ hashes nodes
  pub left : total_size before ≡ lefts levels
  pub right : total_size after ≡ rights levels
  pub same_nodes : (length nodes ≡ 1) ⊎ (range ≡ nodes)

-- what is between the first and the last groups of a level
joined_parts : (first groups last : List (List Node)) (left nodes right : List Node) → joined groups ≡ left ++ nodes ++ right →
    joined (first ++ (groups ++ last)) ≡ (joined first ++ left) ++ (nodes ++ (right ++ joined last))
joined_parts first groups last left nodes right e =
    flat_map-append (λ (group : List Node). group) first (groups ++ last)
    ∙ ap (λ l. joined first ++ l) (flat_map-append (λ (group : List Node). group) groups last ∙ ap (λ l. l ++ joined last) e) ∙ simp append_assoc

module _ (file : List (List ℕ)) (these : Message → Type 0) where
  -- one level down: the groups are those of the file, so their nodes are
  step : (sides : Level) (levels : List Level) (nodes : List Node) (groups : List (List Node)) →
      AllHashes (sides.left ++ nodes ++ sides.right) → total_size (sides.left ++ nodes ++ sides.right) < 2 ^ 64 → 0 < length nodes →
      Groups (sides.left ++ nodes ++ sides.right) groups →
      AllByRecursion (λ group. these (group_message group)) groups →
      (level : List Node) → IsLevel (chunk_nodes file) level → (before range after : List Node) →
      level ≡ before ++ (range ++ after) → hashes range ≡ hashes (map parent groups) → total_size before ≡ lefts levels → total_size after ≡ rights levels →
      Located file (sides ∷ levels) nodes ⊎ Collision these (HashedForRoot file)
  step sides levels nodes groups h fits some cutting each _ lowest before range after parts e left right =
      let own = in_three chunk_node file before range after parts in
      let groups_some = Groups-some _ groups cutting (omega (arith, length-append (sides.left ++ nodes) sides.right, length-append sides.left nodes)) in
      let hashed = each_middle (λ bytes. HashedForRoot file (chunk_message bytes)) own (each_chunk file) in
      inr (groups_against_chunks these (HashedForRoot file) groups own.middle groups_some each hashed (sym e ∙ ap hashes (sym own.is_range)))
  step sides levels nodes groups h fits some cutting each _ (above {level = under} {groups = file_groups} is_level two file_cutting) before range after parts e left right =
      let own = in_three parent file_groups before range after parts in
      let hashed = each_middle (λ group. HashedForRoot file (group_message group)) own (each_group file is_level two file_cutting) in
      let own_hashes = each_middle AllHashes own (AllHashes-groups (AllHashes-level (AllHashes-chunk_nodes file) is_level) file_cutting) in
      elim (same_texts these (HashedForRoot file) groups own.middle each hashed (sym e ∙ ap hashes (sym own.is_range))) [
        | inl texts ↦
            let sizes = each_joined (λ node. node.1 < 2 ^ 64) groups (AllSizes-total (joined groups) (subst (λ (l : List Node). total_size l < 2 ^ 64) (sym cutting.joined) fits)) in
            let are_same : groups ≡ own.middle = groups_from_texts groups own.middle (AllHashes-groups h cutting) sizes own_hashes texts in
            inl (record {
              level = under;
              is_level = is_level;
              before = joined own.first ++ sides.left;
              range = nodes;
              after = sides.right ++ joined own.last;
              parts =
                  sym file_cutting.joined ∙ ap joined (own.parts ∙ ap (λ l. own.first ++ (l ++ own.last)) (sym are_same))
                  ∙ joined_parts own.first groups own.last sides.left nodes sides.right cutting.joined;
              same_hashes = refl;
              left =
                  let front = ap total_size own.is_front in
                  omega (arith, total_size-parents own.first, total_size-append (joined own.first) sides.left, sum_by-cons (λ (s : Level). total_size s.left) sides levels);
              right =
                  let back = ap total_size own.is_back in
                  omega (arith, total_size-parents own.last, total_size-append sides.right (joined own.last), sum_by-cons (λ (s : Level). total_size s.right) sides levels);
              same_nodes = inr refl;
            })
        | inr collision ↦ inr collision
      ]

  -- all levels down
  pub descend : (root : List ℕ) (size claimed : ℕ) → IsLevel (chunk_nodes file) ((root, size) ∷ []) → (levels : List Level) (nodes : List Node) →
      AllHashes nodes → AllByRecursion (λ sides. AreHashes sides.left) levels → AllByRecursion (λ sides. AreHashes sides.right) levels →
      total_size nodes + both levels < 2 ^ 64 → 0 < length nodes → ((group : List Node) → IsGroupAbove levels nodes group → these (group_message group)) →
      Rises levels nodes ((root, claimed) ∷ []) → Located file levels nodes ⊎ Collision these (HashedForRoot file)
  descend root size claimed is_top [] nodes h hl hr fits some each rises = inl (record {
    level = (root, size) ∷ [];
    is_level = is_top;
    before = [];
    range = (root, size) ∷ [];
    after = [];
    parts = refl;
    same_hashes = sym (ap hashes rises);
    left = refl;
    right = refl;
    same_nodes = inl (ap length rises);
  })
  descend root size claimed is_top (sides ∷ levels) nodes h hl hr fits some each rises =
      let groups = rises.0 in
      let cutting = rises.1 in
      let P : Node → Type 0 = λ node. IsHash node.0 in
      let sum = sum_by-cons (λ (s : Level). total_size s.left + total_size s.right) sides levels in
      let total = total_size-append (sides.left ++ nodes) sides.right in
      let total' = total_size-append sides.left nodes in
      let joined_total = ap total_size cutting.joined in
      let parents_total = total_size-parents groups in
      let whole : AllHashes (sides.left ++ nodes ++ sides.right) =
      each_append P (sides.left ++ nodes) sides.right (each_append P sides.left nodes (recursion_from_All P sides.left hl.0) h) (recursion_from_All P sides.right hr.0) in
      let groups_some : 0 < length groups = Groups-some _ groups cutting (omega (arith, length-append (sides.left ++ nodes) sides.right, length-append sides.left nodes)) in
      elim (descend root size claimed is_top levels (map parent groups) (AllHashes-parents groups) hl.1 hr.1 (omega arith) (omega (arith, length-map groups parent)) (λ group up. each group (further cutting up)) rises.2) [
        | inl found ↦
            step sides levels nodes groups whole (omega arith) some cutting (each_contained (λ group. these (group_message group)) groups (λ group c. each group (here cutting c)))
            found.level found.is_level found.before found.range found.after found.parts found.same_hashes found.left found.right
        | inr collision ↦ inr collision
      ]
