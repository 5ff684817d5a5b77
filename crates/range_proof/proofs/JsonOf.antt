-- A JSON value describes at most one proof. The parts of a well-formed proof break no rule, so its object describes it.
use Rattle.std.proofs.Common.{◌≡◌, ℕ, ◌^◌, ◌<◌, ◌≤◌, List, [], ◌∷◌, length, map, is_some, true, false, codes, inl, inr, refl, sym, subst, ◌∙◌, arith}
use Rattle.std.proofs.lemmas.Bool.{cases_lt}
use Rattle.std.specs.Prelude.{All}
use Rattle.std.specs.List.{AllZip}
use Rattle.std.specs.Str.{str_to_ascii_lowercase}
use Rattle.std.proofs.lemmas.List.Elements.{All-nil, All-cons, All-head, All-tail, recursion_from_All}
use Rattle.serde_json.specs.Data.{Data}
use Rattle.serde_json.specs.Find.{as_object}
use Rattle.serde_json.specs.View.{items_of}
use Rattle.xet_hash.specs.Hash.{IsHash, IsHexText, hex_text}
use Rattle.xet_roots.specs.Groups.{Node}
use Rattle.level_nodes.specs.NodeJson.{node_json, ReadsNode}
use Rattle.level_nodes.proofs.Json.{items_of-injective, none_of, some_of, no_member, one_list, one_node, reads_nodes}
use Rattle.level_nodes.specs.Level.{Level}
use Rattle.range_proof.specs.RangeProof.{Proof, AreHashes, HasHashes, IsWellFormed, file_size_of}
use Rattle.range_proof.specs.ProofJson.{HasMembers, HasSides, ReadsSides, ReadsProof, AreLevels, BreaksPartRule, BreaksValueRule, BreaksRule, Reads, sides_json, proof_json}
use Rattle.range_proof.specs.ProofJson.BreaksPartRule.{no_object, no_arrays, no_levels, no_nodes}
use Rattle.range_proof.specs.ProofJson.BreaksValueRule.{no_chunk, many_levels, many_beside, sizes_pass}
use Rattle.range_proof.specs.ProofJson.BreaksRule.{of_parts, of_value}

-- ---- one proof for a value

one_members : (json : Data) (chunks levels others other_levels : List Data) → HasMembers json chunks levels → HasMembers json others other_levels →
    (chunks ≡ others) × (levels ≡ other_levels)
one_members json chunks levels others other_levels h k =
    let chunk_items : items_of chunks ≡ items_of others = cc (sym h.chunks_are ∙ k.chunks_are) in
    let level_items : items_of levels ≡ items_of other_levels = cc (sym h.levels_are ∙ k.levels_are) in
    (items_of-injective chunks others chunk_items, items_of-injective levels other_levels level_items)

one_pair : (value : Data) (left right other_left other_right : List Data) → HasSides value left right → HasSides value other_left other_right →
    (left ≡ other_left) × (right ≡ other_right)
one_pair value left right other_left other_right h k =
    let left_items : items_of left ≡ items_of other_left = cc (sym h.left_is ∙ k.left_is) in
    let right_items : items_of right ≡ items_of other_right = cc (sym h.right_is ∙ k.right_is) in
    (items_of-injective left other_left left_items, items_of-injective right other_right right_items)

-- values that are read as levels have two arrays each
pub are_levels : (values : List Data) (levels : List Level) → AllZip ReadsSides values levels → AreLevels values
are_levels [] [] h = All-nil (λ value. (left : List Data) × (right : List Data) × HasSides value left right)
are_levels [] (sides ∷ levels) h = elim h [ ]
are_levels (value ∷ values) [] h = elim h [ ]
are_levels (value ∷ values) (sides ∷ levels) h =
    All-cons (λ v. (left : List Data) × (right : List Data) × HasSides v left right) value values
    (h.0.left_values, h.0.right_values, h.0.members) (are_levels values levels h.1)

-- ---- the rules of a value

pub value_kept : (proof : Proof) (rule : ℕ) → IsWellFormed proof → BreaksValueRule proof rule → ⊥
value_kept proof rule h (no_chunk none) = let some = h.some in omega arith
value_kept proof rule h (many_levels some many) = let few = h.few_levels in omega arith
value_kept proof rule h (many_beside some few many) = many (record { left = h.few_left; right = h.few_right })
value_kept proof rule h (sizes_pass some few beside past) = let fits = h.fits in omega arith

-- a number isn't above one that it can't be above
at_most : (n most : ℕ) → (most < n → ⊥) → n ≤ most
at_most n most not_above = elim (cases_lt most n) [ inl above ↦ absurd (not_above above) | inr le ↦ le ]

-- a proof that breaks no rule is well-formed
pub IsWellFormed-kept : (proof : Proof) → ((rule : ℕ) → BreaksValueRule proof rule → ⊥) → IsWellFormed proof
IsWellFormed-kept proof kept =
    let some : 0 < length proof.chunks = elim (cases_lt 0 (length proof.chunks)) [ inl lt ↦ lt | inr le ↦ absurd (kept 5 (no_chunk (omega arith))) ] in
    let few : length proof.levels ≤ 64 = at_most (length proof.levels) 64 (λ above. kept 6 (many_levels some above)) in
    let few_left : All (λ sides. length sides.left ≤ 8) proof.levels =
    (λ i d lt. at_most _ 8 (λ above. kept 7 (many_beside some few (λ h. let le = h.left i d lt in omega arith)))) in
    let few_right : All (λ sides. length sides.right ≤ 8) proof.levels =
    (λ i d lt. at_most _ 8 (λ above. kept 7 (many_beside some few (λ h. let le = h.right i d lt in omega arith)))) in
    record {
      some = some;
      few_levels = few;
      few_left = few_left;
      few_right = few_right;
      fits = elim (cases_lt (file_size_of proof) (2 ^ 64)) [
        | inl fits ↦ fits
        | inr past ↦ absurd (kept 8 (sizes_pass some few (record { left = few_left; right = few_right }) past))
      ];
    }

-- ---- what a value describes

pub IsWellFormed-read : (json : Data) (proof : Proof) → Reads json proof → IsWellFormed proof
IsWellFormed-read json proof reads = IsWellFormed-kept proof (λ rule broken. reads.kept rule (of_value reads.parts broken))

hashes_read : (values : List Data) (nodes : List Node) → AllZip ReadsNode values nodes → AreHashes nodes
hashes_read [] [] h = All-nil (λ (node : Node). IsHash node.0)
hashes_read [] (node ∷ nodes) h = elim h [ ]
hashes_read (value ∷ values) [] h = elim h [ ]
hashes_read (value ∷ values) (node ∷ nodes) h = All-cons (λ (node : Node). IsHash node.0) node nodes h.0.is_hash (hashes_read values nodes h.1)

left_hashes_read : (values : List Data) (levels : List Level) → AllZip ReadsSides values levels → All (λ sides. AreHashes sides.left) levels
left_hashes_read [] [] h = All-nil (λ (sides : Level). AreHashes sides.left)
left_hashes_read [] (sides ∷ levels) h = elim h [ ]
left_hashes_read (value ∷ values) [] h = elim h [ ]
left_hashes_read (value ∷ values) (sides ∷ levels) h =
    All-cons (λ (sides : Level). AreHashes sides.left) sides levels (hashes_read h.0.left_values sides.left h.0.left_are) (left_hashes_read values levels h.1)

right_hashes_read : (values : List Data) (levels : List Level) → AllZip ReadsSides values levels → All (λ sides. AreHashes sides.right) levels
right_hashes_read [] [] h = All-nil (λ (sides : Level). AreHashes sides.right)
right_hashes_read [] (sides ∷ levels) h = elim h [ ]
right_hashes_read (value ∷ values) [] h = elim h [ ]
right_hashes_read (value ∷ values) (sides ∷ levels) h =
    All-cons (λ (sides : Level). AreHashes sides.right) sides levels (hashes_read h.0.right_values sides.right h.0.right_are) (right_hashes_read values levels h.1)

pub HasHashes-read : (json : Data) (proof : Proof) → Reads json proof → HasHashes proof
HasHashes-read json proof reads = record {
  chunks = hashes_read reads.parts.chunk_values proof.chunks reads.parts.chunks_are;
  left = left_hashes_read reads.parts.level_values proof.levels reads.parts.levels_are;
  right = right_hashes_read reads.parts.level_values proof.levels reads.parts.levels_are;
}

-- ---- what breaks a rule of the parts

pub breaks_rule_1 : (json : Data) → is_some (as_object json) ≡ false → BreaksPartRule json 1
breaks_rule_1 json e = no_object (none_of (as_object json) e)

pub breaks_rule_2 : (json : Data) → is_some (as_object json) ≡ true →
    ((chunks levels : List Data) → HasMembers json chunks levels → ⊥) → BreaksPartRule json 2
breaks_rule_2 json e none = no_arrays (some_of (as_object json) e).1 none

pub no_left : (value : Data) (left right : List Data) → HasSides value left right → ((nodes : List Node) → AllZip ReadsNode left nodes → ⊥) →
    (sides : Level) → ReadsSides value sides → ⊥
no_left value left right members none sides h =
    let same = one_pair value h.left_values h.right_values left right h.members members in
    none sides.left (subst (λ (values : List Data). AllZip ReadsNode values sides.left) same.0 h.left_are)

pub no_right : (value : Data) (left right : List Data) → HasSides value left right → ((nodes : List Node) → AllZip ReadsNode right nodes → ⊥) →
    (sides : Level) → ReadsSides value sides → ⊥
no_right value left right members none sides h =
    let same = one_pair value h.left_values h.right_values left right h.members members in
    none sides.right (subst (λ (values : List Data). AllZip ReadsNode values sides.right) same.1 h.right_are)

pub no_chunks_read : (json : Data) (chunks levels : List Data) → HasMembers json chunks levels → ((nodes : List Node) → AllZip ReadsNode chunks nodes → ⊥) →
    (proof : Proof) → ReadsProof json proof → ⊥
no_chunks_read json chunks levels members none proof h =
    let same = one_members json h.chunk_values h.level_values chunks levels h.members members in
    none proof.chunks (subst (λ (values : List Data). AllZip ReadsNode values proof.chunks) same.0 h.chunks_are)

pub no_levels_read : (json : Data) (chunks levels : List Data) → HasMembers json chunks levels → ((all : List Level) → AllZip ReadsSides levels all → ⊥) →
    (proof : Proof) → ReadsProof json proof → ⊥
no_levels_read json chunks levels members none proof h =
    let same = one_members json h.chunk_values h.level_values chunks levels h.members members in
    none proof.levels (subst (λ (values : List Data). AllZip ReadsSides values proof.levels) same.1 h.levels_are)

-- parts that were read are those of a proof
pub parts_of : (json : Data) (chunk_values level_values : List Data) (chunks : List Node) (levels : List Level) → HasMembers json chunk_values level_values →
    AllZip ReadsNode chunk_values chunks → AllZip ReadsSides level_values levels → ReadsProof json (record { chunks = chunks; levels = levels })
parts_of json chunk_values level_values chunks levels members chunks_are levels_are = record {
  chunk_values = chunk_values;
  level_values = level_values;
  members = members;
  chunks_are = chunks_are;
  levels_are = levels_are;
}

module _ (apart : (a b : List ℕ) → IsHash a → IsHash b → hex_text a ≡ hex_text b → a ≡ b) where
  one_sides : (value : Data) (a b : Level) → ReadsSides value a → ReadsSides value b → a ≡ b
  one_sides value a b h k =
      let same = one_pair value h.left_values h.right_values k.left_values k.right_values h.members k.members in
      let left = one_list ReadsNode (one_node apart) k.left_values a.left b.left
      (subst (λ (values : List Data). AllZip ReadsNode values a.left) same.0 h.left_are) k.left_are in
      let right = one_list ReadsNode (one_node apart) k.right_values a.right b.right
      (subst (λ (values : List Data). AllZip ReadsNode values a.right) same.1 h.right_are) k.right_are in
      λ i. record { left = left i; right = right i }

  one_parts : (json : Data) (a b : Proof) → ReadsProof json a → ReadsProof json b → a ≡ b
  one_parts json a b h k =
      let same = one_members json h.chunk_values h.level_values k.chunk_values k.level_values h.members k.members in
      let chunks = one_list ReadsNode (one_node apart) k.chunk_values a.chunks b.chunks
      (subst (λ (values : List Data). AllZip ReadsNode values a.chunks) same.0 h.chunks_are) k.chunks_are in
      let levels = one_list ReadsSides one_sides k.level_values a.levels b.levels
      (subst (λ (values : List Data). AllZip ReadsSides values a.levels) same.1 h.levels_are) k.levels_are in
      λ i. record { chunks = chunks i; levels = levels i }

  pub one_proof : (json : Data) (a b : Proof) → Reads json a → Reads json b → a ≡ b
  one_proof json a b h k = one_parts json a b h.parts k.parts

  -- ---- parts that a well-formed proof has

  parts_kept : (json : Data) (proof : Proof) → ReadsProof json proof → (rule : ℕ) → BreaksPartRule json rule → ⊥
  parts_kept json proof parts rule (no_object e) = no_member json (codes "chunks") _ e parts.members.chunks_are
  parts_kept json proof parts rule (no_arrays e none) = none _ _ parts.members
  parts_kept json proof parts rule (no_levels {chunks} {levels} members none) =
      let same = one_members json parts.chunk_values parts.level_values chunks levels parts.members members in
      none (subst AreLevels same.1 (are_levels parts.level_values proof.levels parts.levels_are))
  parts_kept json proof parts rule (no_nodes members are none) = none proof parts

  all_kept : (json : Data) (proof : Proof) → ReadsProof json proof → IsWellFormed proof → (rule : ℕ) → BreaksRule json rule → ⊥
  all_kept json proof parts well_formed rule (of_parts broken) = parts_kept json proof parts rule broken
  all_kept json proof parts well_formed _ (of_value {rule} {proof = other} other_parts broken) =
      value_kept proof rule well_formed (subst (λ (p : Proof). BreaksValueRule p rule) (one_parts json other proof other_parts parts) broken)

  pub Reads-parts : (json : Data) (proof : Proof) → ReadsProof json proof → IsWellFormed proof → Reads json proof
  Reads-parts json proof parts well_formed = record { parts = parts; kept = all_kept json proof parts well_formed }

  -- ---- the object of a proof

  module _ (digits : (words : List ℕ) → IsHash words → IsHexText (hex_text words))
      (lowercase : (words : List ℕ) → IsHash words → str_to_ascii_lowercase (hex_text words) ≡ hex_text words) where
    written : (nodes : List Node) → AreHashes nodes → AllZip ReadsNode (map node_json nodes) nodes
    written nodes h = reads_nodes digits lowercase nodes (recursion_from_All (λ node. IsHash node.0) nodes h)

    reads_levels : (levels : List Level) → All (λ sides. AreHashes sides.left) levels → All (λ sides. AreHashes sides.right) levels →
        AllZip ReadsSides (map sides_json levels) levels
    reads_levels [] left right = tt
    reads_levels (sides ∷ levels) left right = (
      record {
        left_values = map node_json sides.left;
        right_values = map node_json sides.right;
        members = record { left_is = refl; right_is = refl };
        left_are = written sides.left (All-head (λ s. AreHashes s.left) sides levels left);
        right_are = written sides.right (All-head (λ s. AreHashes s.right) sides levels right);
      },
      reads_levels levels (All-tail (λ s. AreHashes s.left) sides levels left) (All-tail (λ s. AreHashes s.right) sides levels right),
    )

    pub Reads-object : (proof : Proof) → HasHashes proof → IsWellFormed proof → Reads (proof_json proof) proof
    Reads-object proof hashes well_formed = Reads-parts (proof_json proof) proof
        (record {
          chunk_values = map node_json proof.chunks;
          level_values = map sides_json proof.levels;
          members = record { chunks_are = refl; levels_are = refl };
          chunks_are = written proof.chunks hashes.chunks;
          levels_are = reads_levels proof.levels hashes.left hashes.right;
        })
        well_formed
