-- A JSON value describes at most one subtree. The parts of a well-formed subtree break no rule, so its object describes
-- it.
use Rattle.std.proofs.Common.{◌≡◌, ℕ, ◌<◌, ◌^◌, Bool, List, [], ◌∷◌, ◌++◌, length, map, codes, refl, sym, ap, subst, ◌∙◌, arith}
use Rattle.std.specs.List.{AllZip, AllByRecursion}
use Rattle.std.specs.Str.{str_to_ascii_lowercase}
use Rattle.std.proofs.lemmas.List.{length-map}
use Rattle.serde_json.specs.Data.{Data}
use Rattle.serde_json.specs.View.{items_of}
use Rattle.xet_hash.specs.Hash.{IsHash, IsHexText, hex_text}
use Rattle.xet_roots.specs.Groups.{Node}
use Rattle.xet_roots.specs.Roots.{total_size}
use Rattle.subtree_levels.specs.Levels.{Level, levels_size}
use Rattle.subtree_levels.specs.Subtree.{Subtree}
use Rattle.subtree_levels.specs.WellFormed.{IsWellFormed}
use Rattle.level_nodes.specs.FlatLevels.{count_of, flat_nodes, IsFlat}
use Rattle.level_nodes.specs.NodeJson.{node_json, number_json, ReadsNode, whole}
use Rattle.level_nodes.proofs.FlatOf.{one_flat, IsFlat-length}
use Rattle.level_nodes.proofs.Json.{items_of-injective, no_member, one_list, one_node, reads_nodes}
use Rattle.xet_merkle.specs.SubtreeJson.{counts_json, subtree_json}
use Rattle.xet_merkle.specs.JsonParts.{ReadsCounts, HasMembers, ReadsParts, BreaksPartRule}
use Rattle.xet_merkle.specs.JsonParts.BreaksPartRule.{no_object, no_members, no_nodes, no_levels}
use Rattle.subtree_levels.specs.LevelRules.{BreaksLevelRule}
use Rattle.xet_merkle.specs.JsonRules.{Reads, BreaksValueRule, BreaksRule}
use Rattle.xet_merkle.specs.JsonRules.BreaksValueRule.{no_level, wrong_counts, sizes_pass, of_levels}
use Rattle.xet_merkle.specs.JsonRules.BreaksRule.{of_parts, of_value}
use Rattle.xet_merkle.proofs.Levels.Flat.{levels_size-flat}
use Rattle.subtree_levels.proofs.Rules.LevelRules.{levels_kept}

-- the words of each node are those of a hash
abbrev pub AreHashes : List Node → Type 0
AreHashes = AllByRecursion (λ node. IsHash node.0)

pub AreHashes-append : (front back : List Node) → AreHashes front → AreHashes back → AreHashes (front ++ back)
AreHashes-append [] back h k = k
AreHashes-append (node ∷ front) back h k = (h.0, AreHashes-append front back h.1 k)

-- ---- the rules of a value

value_kept : (subtree : Subtree) (counts : List (ℕ × ℕ)) (nodes : List Node) (rule : ℕ) → IsFlat counts nodes subtree.levels [] → IsWellFormed subtree →
    levels_size subtree.levels < 2 ^ 64 → BreaksValueRule subtree.at_start subtree.at_end counts nodes rule → ⊥
value_kept subtree counts nodes rule flat h fits (no_level none) =
    let some = h.some_level in let count = ap length flat.counts_are in omega (arith, length-map subtree.levels count_of)
value_kept subtree counts nodes rule flat h fits (wrong_counts some wrong) =
    wrong (let len = IsFlat-length counts nodes subtree.levels [] flat in omega arith)
value_kept subtree counts nodes rule flat h fits (sizes_pass some sum past) =
    let size = ap total_size flat.nodes_are ∙ levels_size-flat subtree.levels in omega arith
value_kept subtree counts nodes _ flat h fits (of_levels {rule} {levels} some other small broken) =
    levels_kept subtree.at_start subtree.at_end subtree.levels rule h
    (subst (λ (l : List Level). BreaksLevelRule subtree.at_start subtree.at_end l rule) (one_flat counts nodes levels subtree.levels [] [] other flat).0 broken)

-- ---- one subtree for a value

one_counts : (value : Data) (a b : ℕ × ℕ) → ReadsCounts value a → ReadsCounts value b → a ≡ b
one_counts value a b h k =
    let items : items_of (h.left ∷ h.right ∷ []) ≡ items_of (k.left ∷ k.right ∷ []) = cc (sym h.two ∙ k.two) in
    let both = items_of-injective (h.left ∷ h.right ∷ []) (k.left ∷ k.right ∷ []) items in
    let left : h.left ≡ k.left = cc in
    let right : h.right ≡ k.right = cc in
    let first : a.0 ≡ b.0 = cc (sym h.left_is ∙ ap whole left ∙ k.left_is) in
    let second : a.1 ≡ b.1 = cc (sym h.right_is ∙ ap whole right ∙ k.right_is) in
    λ i. (first i, second i)

module _ (apart : (a b : List ℕ) → IsHash a → IsHash b → hex_text a ≡ hex_text b → a ≡ b) where
  -- the parts that a value says
  record SameParts (start other_start end other_end : Bool) (counts other_counts : List (ℕ × ℕ)) (nodes other_nodes : List Node) : Type 0 where
    same_start : start ≡ other_start
    same_end : end ≡ other_end
    same_counts : counts ≡ other_counts
    same_nodes : nodes ≡ other_nodes

  one_members : (json : Data) (start end other_start other_end : Bool) (levels nodes other_levels other_nodes : List Data) →
      HasMembers json start end levels nodes → HasMembers json other_start other_end other_levels other_nodes →
      (start ≡ other_start) × (end ≡ other_end) × (levels ≡ other_levels) × (nodes ≡ other_nodes)
  one_members json start end other_start other_end levels nodes other_levels other_nodes h k =
      let starts : start ≡ other_start = cc (sym h.start_is ∙ k.start_is) in
      let ends : end ≡ other_end = cc (sym h.end_is ∙ k.end_is) in
      let level_items : items_of levels ≡ items_of other_levels = cc (sym h.levels_are ∙ k.levels_are) in
      let node_items : items_of nodes ≡ items_of other_nodes = cc (sym h.nodes_are ∙ k.nodes_are) in
      (starts, ends, items_of-injective levels other_levels level_items, items_of-injective nodes other_nodes node_items)

  one_parts : (json : Data) (start end other_start other_end : Bool) (counts other_counts : List (ℕ × ℕ)) (nodes other_nodes : List Node) →
      ReadsParts json start end counts nodes → ReadsParts json other_start other_end other_counts other_nodes →
      SameParts start other_start end other_end counts other_counts nodes other_nodes
  one_parts json start end other_start other_end counts other_counts nodes other_nodes h k =
      let same = one_members json start end other_start other_end h.level_values h.node_values k.level_values k.node_values h.members k.members in record {
        same_start = same.0;
        same_end = same.1;
        same_counts = one_list ReadsCounts one_counts k.level_values counts other_counts
            (subst (λ (values : List Data). AllZip ReadsCounts values counts) same.2 h.counts_are) k.counts_are;
        same_nodes = one_list ReadsNode (one_node apart) k.node_values nodes other_nodes
            (subst (λ (values : List Data). AllZip ReadsNode values nodes) same.3 h.nodes_are) k.nodes_are;
      }

  pub one_subtree : (json : Data) (a b : Subtree) → Reads json a → Reads json b → a ≡ b
  one_subtree json a b h k =
      let same = one_parts json a.at_start a.at_end b.at_start b.at_end h.counts k.counts h.nodes k.nodes h.parts k.parts in
      let flat = subst (λ (counts : List (ℕ × ℕ)). IsFlat counts k.nodes a.levels []) same.same_counts
      (subst (λ (nodes : List Node). IsFlat h.counts nodes a.levels []) same.same_nodes h.flat) in
      let levels = (one_flat k.counts k.nodes a.levels b.levels [] [] flat k.flat).0 in
      λ i. record { at_start = same.same_start i; at_end = same.same_end i; levels = levels i }

  -- ---- parts that a well formed subtree has

  module _ (json : Data) (start end : Bool) (counts : List (ℕ × ℕ)) (nodes : List Node) (parts : ReadsParts json start end counts nodes) where
    parts_kept : (rule : ℕ) → BreaksPartRule json rule → ⊥
    parts_kept rule (no_object e) = no_member json (codes "at_start") _ e parts.members.start_is
    parts_kept rule (no_members e none) = none _ _ _ _ parts.members
    parts_kept rule (no_nodes {at_start} {at_end} {levels} {node_values} members none) =
        let same = one_members json at_start at_end start end levels node_values _ _ members parts.members in
        none nodes (subst (λ (values : List Data). AllZip ReadsNode values nodes) (sym same.3) parts.nodes_are)
    parts_kept rule (no_levels {at_start} {at_end} {level_values} {node_values} _ members read none) =
        let same = one_members json at_start at_end start end level_values node_values _ _ members parts.members in
        none counts (subst (λ (values : List Data). AllZip ReadsCounts values counts) (sym same.2) parts.counts_are)

    all_kept : ((rule : ℕ) → BreaksValueRule start end counts nodes rule → ⊥) → (rule : ℕ) → BreaksRule json rule → ⊥
    all_kept kept rule (of_parts broken) = parts_kept rule broken
    all_kept kept _ (of_value {rule} {at_start} {at_end} {counts = others} {nodes = other_nodes} other_parts broken) =
        let same = one_parts json at_start at_end start end others counts other_nodes nodes other_parts parts in
        let first = subst (λ (s : Bool). BreaksValueRule s at_end others other_nodes rule) same.same_start broken in
        let second = subst (λ (e : Bool). BreaksValueRule start e others other_nodes rule) same.same_end first in
        let third = subst (λ (c : List (ℕ × ℕ)). BreaksValueRule start end c other_nodes rule) same.same_counts second in
        kept rule (subst (λ (n : List Node). BreaksValueRule start end counts n rule) same.same_nodes third)

  pub Reads-parts : (json : Data) (subtree : Subtree) (counts : List (ℕ × ℕ)) (nodes : List Node) → ReadsParts json subtree.at_start subtree.at_end counts nodes →
      IsFlat counts nodes subtree.levels [] → IsWellFormed subtree → levels_size subtree.levels < 2 ^ 64 → Reads json subtree
  Reads-parts json subtree counts nodes parts flat well_formed fits = record {
    counts = counts;
    nodes = nodes;
    parts = parts;
    flat = flat;
    kept = all_kept json subtree.at_start subtree.at_end counts nodes parts (λ rule broken. value_kept subtree counts nodes rule flat well_formed fits broken);
  }

  -- ---- the object of a subtree

  module _ (digits : (words : List ℕ) → IsHash words → IsHexText (hex_text words))
      (lowercase : (words : List ℕ) → IsHash words → str_to_ascii_lowercase (hex_text words) ≡ hex_text words) where
    reads_counts : (counts : List (ℕ × ℕ)) → AllZip ReadsCounts (map counts_json counts) counts
    reads_counts [] = tt
    reads_counts (count ∷ counts) = (
      record { left = number_json count.0; right = number_json count.1; two = refl; left_is = refl; right_is = refl },
      reads_counts counts,
    )

    object_members : (subtree : Subtree) →
        HasMembers (subtree_json subtree) subtree.at_start subtree.at_end (map counts_json (map count_of subtree.levels)) (map node_json (flat_nodes subtree.levels []))
    object_members subtree = record { start_is = refl; end_is = refl; levels_are = refl; nodes_are = refl }

    object_parts : (subtree : Subtree) → AreHashes (flat_nodes subtree.levels []) →
        ReadsParts (subtree_json subtree) subtree.at_start subtree.at_end (map count_of subtree.levels) (flat_nodes subtree.levels [])
    object_parts subtree h = record {
      level_values = map counts_json (map count_of subtree.levels);
      node_values = map node_json (flat_nodes subtree.levels []);
      members = object_members subtree;
      counts_are = reads_counts (map count_of subtree.levels);
      nodes_are = reads_nodes digits lowercase (flat_nodes subtree.levels []) h;
    }

    pub Reads-object : (subtree : Subtree) → AreHashes (flat_nodes subtree.levels []) → IsWellFormed subtree → levels_size subtree.levels < 2 ^ 64 →
        Reads (subtree_json subtree) subtree
    Reads-object subtree hashes well_formed fits =
        Reads-parts (subtree_json subtree) subtree (map count_of subtree.levels) (flat_nodes subtree.levels []) (object_parts subtree hashes)
        (record { counts_are = refl; nodes_are = refl }) well_formed fits
