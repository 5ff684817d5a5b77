-- Levels, from the top down: two files with the same top have the same nodes on the level below, and so on down to their
-- chunks.
use Rattle.std.proofs.Common.{◌≡◌, ℕ, ◌<◌, ◌≤◌, ◌⊎◌, List, [], ◌∷◌, length, map, refl, sym, ap, subst, ◌∙◌, inl, inr, arith}
use Rattle.std.specs.List.{AllByRecursion}
use Rattle.std.proofs.lemmas.List.{length-map, map-append}
use Rattle.xet_hash.specs.Hash.{bytes_of, hash_of, IsHash}
use Rattle.xet_hash.proofs.Hash.Laws.{hash_of-bytes_of}
use Rattle.xet_roots.specs.Groups.{Node, Groups}
use Rattle.xet_roots.specs.Roots.{group_text, parent, salted_root, IsRoot, IsFileHash}
use Rattle.xet_roots.specs.Roots.IsRootBy.{no_node, one_node, of_parents}
use Rattle.xet_roots.proofs.Grouping.OneCutting.{joined_nodes}
use Rattle.xet_roots.proofs.Roots.OneRoot.{Groups-some}
use Rattle.commitment.specs.Commitment.{Message, chunk_node, chunk_nodes, IsLevel, HashedForRoot, HashedForFile, Collision}
use Rattle.commitment.specs.Commitment.IsLevel.{lowest, above}
use Rattle.commitment.specs.Commitment.HashedForRoot.{chunk as of_chunk, group as of_group}
use Rattle.commitment.specs.Commitment.HashedForFile.{below, root as of_root}
use Rattle.commitment.proofs.Commitment.Texts.{hashes, AllHashes, group_text_tells_hashes}
use Rattle.commitment.proofs.Commitment.Messages.{each_front, each_back, each_map, each_contained, IsHash-blake3_of, IsHash-parent, chunk_message, group_message, same_message, same_chunks, same_texts, groups_against_chunks, chunks_against_groups}

-- ---- The hashes of a level are hashes

pub AllHashes-chunk_nodes : (chunks : List (List ℕ)) → AllHashes (chunk_nodes chunks)
AllHashes-chunk_nodes chunks = each_map (λ node. IsHash node.0) chunk_node chunks (λ bytes. IsHash-blake3_of (chunk_message bytes))

pub AllHashes-parents : (groups : List (List Node)) → AllHashes (map parent groups)
AllHashes-parents groups = each_map (λ node. IsHash node.0) parent groups IsHash-parent

pub AllHashes-level : {nodes level : List Node} → AllHashes nodes → IsLevel nodes level → AllHashes level
AllHashes-level h lowest = h
AllHashes-level h (above {groups = groups} under two cutting) = AllHashes-parents groups

-- what holds of each node of a list, holds of each node of its groups
pub each_joined : (P : Node → Type 0) (groups : List (List Node)) → AllByRecursion P (joined_nodes groups) → AllByRecursion (AllByRecursion P) groups
each_joined P [] h = tt
each_joined P (group ∷ groups) h = (each_front P group (joined_nodes groups) h, each_joined P groups (each_back P group (joined_nodes groups) h))

pub AllHashes-groups : {nodes : List Node} {groups : List (List Node)} → AllHashes nodes → Groups nodes groups → AllByRecursion AllHashes groups
AllHashes-groups {groups = groups} h cutting = each_joined (λ node. IsHash node.0) groups (subst AllHashes (sym cutting.joined) h)

-- ---- The top of a file's levels

pub top_level : {nodes level : List Node} {root : List ℕ} → IsLevel nodes level → IsRoot level root → 0 < length level → (size : ℕ) × IsLevel nodes ((root, size) ∷ [])
top_level is_level no_node some = absurd (omega arith)
top_level is_level (one_node {size = size}) some = (size, is_level)
top_level is_level (of_parents {nodes = level} {groups = groups} two cutting root) some =
    let groups_some = Groups-some level groups cutting some in
    top_level (above is_level two cutting) root (omega (arith, length-map groups parent))

pub top_of_chunks : (chunks : List (List ℕ)) (root : List ℕ) → 0 < length chunks → IsRoot (chunk_nodes chunks) root →
    (size : ℕ) × IsLevel (chunk_nodes chunks) ((root, size) ∷ [])
top_of_chunks chunks root some is_root = top_level lowest is_root (omega (arith, length-map chunks chunk_node))

pub IsHash-root : (chunks : List (List ℕ)) (root : List ℕ) → 0 < length chunks → IsRoot (chunk_nodes chunks) root → IsHash root
IsHash-root chunks root some is_root = (AllHashes-level (AllHashes-chunk_nodes chunks) (top_of_chunks chunks root some is_root).1).0

-- ---- The messages that are hashed for a file

pub each_chunk : (chunks : List (List ℕ)) → AllByRecursion (λ bytes. HashedForRoot chunks (chunk_message bytes)) chunks
each_chunk chunks = each_contained (λ bytes. HashedForRoot chunks (chunk_message bytes)) chunks (λ bytes c. of_chunk c)

pub each_group : (chunks : List (List ℕ)) {level : List Node} {groups : List (List Node)} → IsLevel (chunk_nodes chunks) level → 2 ≤ length level →
    Groups level groups → AllByRecursion (λ group. HashedForRoot chunks (group_message group)) groups
each_group chunks {groups = groups} is_level two cutting =
    each_contained (λ group. HashedForRoot chunks (group_message group)) groups (λ _ c. of_group is_level two cutting c)

-- ---- Two files, from the top down

-- groups with the same texts have the same hashes
hashes-joined : (groups others : List (List Node)) → AllByRecursion AllHashes groups → AllByRecursion AllHashes others →
    map group_text groups ≡ map group_text others → hashes (joined_nodes groups) ≡ hashes (joined_nodes others)
hashes-joined [] [] h k e = refl
hashes-joined [] (y ∷ others) h k e = cc e
hashes-joined (x ∷ groups) [] h k e = cc e
hashes-joined (x ∷ groups) (y ∷ others) h k e =
    let heads : group_text x ≡ group_text y = cc in
    let tails : map group_text groups ≡ map group_text others = cc in
    let head = group_text_tells_hashes x y h.0 k.0 heads in
    let tail = hashes-joined groups others h.1 k.1 tails in
    cc (map-append (λ (node : Node). node.0) x (joined_nodes groups), map-append (λ (node : Node). node.0) y (joined_nodes others))

same_levels : {chunks others : List (List ℕ)} {level other : List Node} → IsLevel (chunk_nodes chunks) level → IsLevel (chunk_nodes others) other →
    0 < length level → hashes level ≡ hashes other → (chunks ≡ others) ⊎ Collision (HashedForRoot chunks) (HashedForRoot others)
same_levels {chunks} {others} lowest lowest some e =
    same_chunks (HashedForRoot chunks) (HashedForRoot others) chunks others (each_chunk chunks) (each_chunk others) e
same_levels {chunks} {others} lowest (above {groups = groups} under two cutting) some e =
    let groups_some = Groups-some _ groups cutting (omega arith) in
    inr (chunks_against_groups (HashedForRoot chunks) (HashedForRoot others) chunks groups groups_some (each_chunk chunks) (each_group others under two cutting) e)
same_levels {chunks} {others} (above {groups = groups} under two cutting) lowest some e =
    let groups_some = Groups-some _ groups cutting (omega arith) in
    inr (groups_against_chunks (HashedForRoot chunks) (HashedForRoot others) groups others groups_some (each_group chunks under two cutting) (each_chunk others) e)
same_levels {chunks} {others} (above {level = level} {groups = groups} under two cutting) (above {level = level'} {groups = groups'} under' two' cutting') some e =
    elim (same_texts (HashedForRoot chunks) (HashedForRoot others) groups groups' (each_group chunks under two cutting) (each_group others under' two' cutting') e) [
      | inl texts ↦
          let joined : hashes (joined_nodes groups) ≡ hashes (joined_nodes groups') =
          hashes-joined groups groups' (AllHashes-groups (AllHashes-level (AllHashes-chunk_nodes chunks) under) cutting) (AllHashes-groups (AllHashes-level (AllHashes-chunk_nodes others) under') cutting') texts in
          same_levels under under' (omega arith) (ap hashes (sym cutting.joined) ∙ joined ∙ ap hashes cutting'.joined)
      | inr collision ↦ inr collision
    ]

pub same_roots : (chunks others : List (List ℕ)) (root : List ℕ) → 0 < length chunks → 0 < length others →
    IsRoot (chunk_nodes chunks) root → IsRoot (chunk_nodes others) root → (chunks ≡ others) ⊎ Collision (HashedForRoot chunks) (HashedForRoot others)
same_roots chunks others root some some' is_root is_root' =
    same_levels (top_of_chunks chunks root some is_root).1 (top_of_chunks others root some' is_root').1 (omega arith) refl

-- ---- File hashes

pub root_of_file_hash : (nodes : List Node) (salt hash : List ℕ) → 0 < length nodes → IsFileHash nodes salt hash →
    (root : List ℕ) × IsRoot nodes root × (hash ≡ salted_root salt root)
root_of_file_hash [] salt hash some h = absurd (omega arith)
root_of_file_hash (node ∷ nodes) salt hash some h = h

-- the bytes of hashes tell them apart
pub bytes_of-injective : (hash other : List ℕ) → IsHash hash → IsHash other → bytes_of hash ≡ bytes_of other → hash ≡ other
bytes_of-injective hash other h k e = sym (hash_of-bytes_of hash h) ∙ ap hash_of e ∙ hash_of-bytes_of other k

-- a collision of fewer messages
pub Collision-more : {these those these' those' : Message → Type 0} → ((message : Message) → these message → these' message) →
    ((message : Message) → those message → those' message) → Collision these those → Collision these' those'
Collision-more f g c = record {
  this = c.this;
  that = c.that;
  is_of_these = f c.this c.is_of_these;
  is_of_those = g c.that c.is_of_those;
  differ = c.differ;
  same_hash = c.same_hash;
}

pub same_file_hashes : (chunks others : List (List ℕ)) (salt other hash : List ℕ) → 0 < length chunks → 0 < length others →
    IsFileHash (chunk_nodes chunks) salt hash → IsFileHash (chunk_nodes others) other hash →
    ((chunks ≡ others) × (salt ≡ other)) ⊎ Collision (HashedForFile chunks salt) (HashedForFile others other)
same_file_hashes chunks others salt other hash some some' h h' =
    let (r, is_root, salted) = root_of_file_hash (chunk_nodes chunks) salt hash (omega (arith, length-map chunks chunk_node)) h in
    let (r', is_root', salted') = root_of_file_hash (chunk_nodes others) other hash (omega (arith, length-map others chunk_node)) h' in
    elim (same_message (HashedForFile chunks salt) (HashedForFile others other) (salt, bytes_of r) (other, bytes_of r') (of_root is_root) (of_root is_root') (sym salted ∙ salted')) [
      | inl same ↦
          let salts : salt ≡ other = ap (λ (m : Message). m.0) same in
          let roots : r ≡ r' = bytes_of-injective r r' (IsHash-root chunks r some is_root) (IsHash-root others r' some' is_root') (ap (λ (m : Message). m.1) same) in
          elim (same_roots chunks others r some some' is_root (subst (IsRoot (chunk_nodes others)) (sym roots) is_root')) [
            | inl files ↦ inl (files, salts)
            | inr collision ↦ inr (Collision-more (λ m. below) (λ m. below) collision)
          ]
      | inr collision ↦ inr collision
    ]
