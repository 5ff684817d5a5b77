-- The binary form of a range proof: bytes say one proof, and break no rule if they say one.
use Rattle.std.proofs.Common.{◌≡◌, ℕ, ◌+◌, ◌-◌, ◌*◌, ◌%◌, ◌<◌, ◌≤◌, ◌^◌, All, Result, Ok, Err, List, [], ◌∷◌, ◌++◌, length, map, take, drop, get_or, refl, sym, ap, ◌∙◌, arith, append_assoc, length-append}
use Rattle.std.specs.Int.{w64, to_le_bytes, from_le_bytes}
use Rattle.std.specs.List.{flat_map}
use Rattle.std.specs.Prelude.{IfOk, IfErr}
use Rattle.std.proofs.lemmas.List.{take_at, drop_at, drop_more, flat_map_more, map_more, take_rest}
use Rattle.std.proofs.lemmas.List.Elements.{All-append, All-cons, All-drop, All-head, All-nil, All-same, All-tail, All-take, All-weaker}
use Rattle.std.proofs.lemmas.List.Sums.{sum_by-cons}
use Rattle.std.proofs.lemmas.Nat.{from_le_bytes-to_le_bytes_8}
use Rattle.xet_hash.specs.Hash.{IsHash, bytes_of, hash_of}
use Rattle.xet_hash.proofs.Hash.Laws.{IsHashBytes-bytes_of, hash_of-bytes_of}
use Rattle.xet_roots.specs.Groups.{Node}
use Rattle.xet_roots.specs.Roots.{total_size}
use Rattle.level_nodes.specs.Level.{Level}
use Rattle.level_nodes.specs.FlatLevels.{count_of, left_nodes, right_nodes, flat_nodes, IsFlat}
use Rattle.range_proof.specs.RangeProof.{Proof, AreHashes, HasHashes, IsWellFormed}
use Rattle.range_proof.specs.ProofBytes.{AreNodes, BreakRule, SayProof, count_bytes, list_bytes, node_bytes}
use Rattle.range_proof.specs.ProofBytes.BreakRule.{no_byte, few_counts, no_nodes, of_lists}
use Rattle.range_proof.proofs.FlatOf.{IsFlat-size, flat_kept, one_flat_proof}

-- ---- lists

-- fronts of the same length are the same, and so is what follows them
same_front : {X : Type 0} (a b c d : List X) → length a ≡ length b → a ++ c ≡ b ++ d → (a ≡ b) × (c ≡ d)
same_front a b c d len e = (
  sym (take_at a c (length a) refl) ∙ ap (take (length a)) e ∙ take_at b d (length a) (sym len),
  sym (drop_at a c (length a) refl) ∙ ap (drop (length a)) e ∙ drop_at b d (length a) (sym len),
)

all_front : {X : Type 0} (P : X → Type 0) (a b : List X) → All P (a ++ b) → All P a
all_front P a b h = All-same P a (take (length a) (a ++ b)) (sym (take_at a b (length a) refl)) (All-take P (length a) (a ++ b) h)

all_back : {X : Type 0} (P : X → Type 0) (a b : List X) → All P (a ++ b) → All P b
all_back P a b h = All-same P b (drop (length a) (a ++ b)) (sym (drop_at a b (length a) refl)) (All-drop P (length a) (a ++ b) h)

-- ---- bytes of nodes

-- what holds of each node
abbrev IsNode : Node → Type 0
IsNode node = IsHash node.0 × (node.1 < 2 ^ 64)

hash_len : (node : Node) → IsNode node → length (bytes_of node.0) ≡ 32
hash_len node h = (IsHashBytes-bytes_of node.0 h.0).0

node_len : (node : Node) → IsNode node → length (node_bytes node) ≡ 40
node_len node h = omega (arith, length-append (bytes_of node.0) (to_le_bytes w64 node.1), hash_len node h)

one_node : (a b : Node) → IsNode a → IsNode b → node_bytes a ≡ node_bytes b → a ≡ b
one_node a b h k e =
    let parts = same_front (bytes_of a.0) (bytes_of b.0) (to_le_bytes w64 a.1) (to_le_bytes w64 b.1) (hash_len a h ∙ sym (hash_len b k)) e in
    let hashes = sym (hash_of-bytes_of a.0 h.0) ∙ ap hash_of parts.0 ∙ hash_of-bytes_of b.0 k.0 in
    let sizes = sym (from_le_bytes-to_le_bytes_8 a.1 h.1) ∙ ap (from_le_bytes w64) parts.1 ∙ from_le_bytes-to_le_bytes_8 b.1 k.1 in
    λ i. (hashes i, sizes i)

pub nodes_len : (nodes : List Node) → AreNodes nodes → length (flat_map node_bytes nodes) ≡ 40 * length nodes
nodes_len [] h = refl
nodes_len (node ∷ nodes) h =
    let first = node_len node (All-head IsNode node nodes h) in
    let rest = nodes_len nodes (All-tail IsNode node nodes h) in
    omega (arith, length-append (node_bytes node) (flat_map node_bytes nodes))

one_nodes : (a b : List Node) → AreNodes a → AreNodes b → flat_map node_bytes a ≡ flat_map node_bytes b → a ≡ b
one_nodes [] [] h k e = refl
one_nodes [] (y ∷ b) h k e = absurd (omega (arith, nodes_len (y ∷ b) k, ap length e))
one_nodes (x ∷ a) [] h k e = absurd (omega (arith, nodes_len (x ∷ a) h, ap length e))
one_nodes (x ∷ a) (y ∷ b) h k e =
    let hx = All-head IsNode x a h in
    let hy = All-head IsNode y b k in
    let parts = same_front (node_bytes x) (node_bytes y) (flat_map node_bytes a) (flat_map node_bytes b) (node_len x hx ∙ sym (node_len y hy)) e in
    let first = one_node x y hx hy parts.0 in
    let rest = one_nodes a b (All-tail IsNode x a h) (All-tail IsNode y b k) parts.1 in
    λ i. first i ∷ rest i

-- ---- bytes of counts

pub counts_len : (counts : List (ℕ × ℕ)) → length (count_bytes counts) ≡ 2 * length counts
counts_len [] = refl
counts_len (count ∷ counts) = omega (arith, counts_len counts)

one_counts : (a b : List (ℕ × ℕ)) → count_bytes a ≡ count_bytes b → a ≡ b
one_counts [] [] e = refl
one_counts [] (y ∷ b) e = absurd (omega (arith, ap length e))
one_counts (x ∷ a) [] e = absurd (omega (arith, ap length e))
one_counts (x ∷ a) (y ∷ b) e =
    let left : x.0 ≡ y.0 = cc in
    let right : x.1 ≡ y.1 = cc in
    let tails : count_bytes a ≡ count_bytes b = cc in
    let rest = one_counts a b tails in
    λ i. (left i, right i) ∷ rest i

-- the counts of one level more
pub counts_more : (levels : List Level) (i : ℕ) (level : Level) (old items one two : List ℕ) (a b : ℕ) → i < length levels →
    level ≡ get_or levels i level → a ≡ length level.left → b ≡ length level.right → items ≡ old ++ count_bytes (map count_of (take i levels)) →
    one ≡ items ++ a ∷ [] → two ≡ one ++ b ∷ [] → two ≡ old ++ count_bytes (map count_of (take (i + 1) levels))
counts_more levels i level old items one two a b lt is left right written e f =
    let counts = map count_of (take i levels) in
    let both : (items ++ a ∷ []) ++ b ∷ [] ≡ items ++ a ∷ b ∷ [] = append_assoc items (a ∷ []) (b ∷ []) in
    let pair : a ∷ b ∷ [] ≡ length (get_or levels i level).left ∷ length (get_or levels i level).right ∷ [] =
    (λ k. (left ∙ ap (λ (l : Level). length l.left) is) k ∷ (right ∙ ap (λ (l : Level). length l.right) is) k ∷ []) in
    f ∙ ap (λ (l : List ℕ). l ++ b ∷ []) e ∙ both ∙ (λ k. written k ++ pair k)
    ∙ flat_map_more (λ (c : ℕ × ℕ). c.0 ∷ c.1 ∷ []) old counts (count_of (get_or levels i level))
    ∙ ap (λ (c : List (ℕ × ℕ)). old ++ count_bytes c) (sym (map_more count_of levels i level lt))

-- ---- bytes of flat lists

pub one_lists : (counts others : List (ℕ × ℕ)) (nodes more : List Node) → AreNodes nodes → AreNodes more →
    list_bytes counts nodes ≡ list_bytes others more → (counts ≡ others) × (nodes ≡ more)
one_lists counts others nodes more h k e =
    let heads : length counts ≡ length others = cc in
    let tails : count_bytes counts ++ flat_map node_bytes nodes ≡ count_bytes others ++ flat_map node_bytes more = cc in
    let len : length (count_bytes counts) ≡ length (count_bytes others) = omega (arith, counts_len counts, counts_len others) in
    let parts = same_front (count_bytes counts) (count_bytes others) (flat_map node_bytes nodes) (flat_map node_bytes more) len tails in
    (one_counts counts others parts.0, one_nodes nodes more h k parts.1)

-- ---- nodes of a proof

left_hashes : (levels : List Level) → All (λ sides. AreHashes sides.left) levels → AreHashes (left_nodes levels)
left_hashes [] h = All-nil (λ (node : Node). IsHash node.0)
left_hashes (sides ∷ levels) h =
    All-append (λ (node : Node). IsHash node.0) sides.left (left_nodes levels) (All-head (λ (s : Level). AreHashes s.left) sides levels h)
    (left_hashes levels (All-tail (λ (s : Level). AreHashes s.left) sides levels h))

right_hashes : (levels : List Level) → All (λ sides. AreHashes sides.right) levels → AreHashes (right_nodes levels)
right_hashes [] h = All-nil (λ (node : Node). IsHash node.0)
right_hashes (sides ∷ levels) h =
    All-append (λ (node : Node). IsHash node.0) (right_nodes levels) sides.right
    (right_hashes levels (All-tail (λ (s : Level). AreHashes s.right) sides levels h)) (All-head (λ (s : Level). AreHashes s.right) sides levels h)

all_hashes : (proof : Proof) → HasHashes proof → AreHashes (flat_nodes proof.levels proof.chunks)
all_hashes proof h =
    All-append (λ (node : Node). IsHash node.0) (left_nodes proof.levels) (proof.chunks ++ right_nodes proof.levels) (left_hashes proof.levels h.left)
    (All-append (λ (node : Node). IsHash node.0) proof.chunks (right_nodes proof.levels) h.chunks (right_hashes proof.levels h.right))

each_fits : (nodes : List Node) (most : ℕ) → total_size nodes < most → All (λ node. node.1 < most) nodes
each_fits [] most h = All-nil (λ (node : Node). node.1 < most)
each_fits (node ∷ nodes) most h =
    let sum = sum_by-cons (λ (n : Node). n.1) node nodes in
    All-cons (λ (n : Node). n.1 < most) node nodes (omega arith) (each_fits nodes most (omega arith))

proof_nodes : (proof : Proof) → HasHashes proof → IsWellFormed proof → AreNodes (flat_nodes proof.levels proof.chunks)
proof_nodes proof h well_formed =
    let nodes = flat_nodes proof.levels proof.chunks in
    let size = IsFlat-size (map count_of proof.levels) nodes proof (record { counts_are = refl; nodes_are = refl }) in
    let fits = well_formed.fits in
    let sizes = each_fits nodes (2 ^ 64) (omega arith) in
    let hashes = all_hashes proof h in
    λ k d lt. (hashes k d lt, sizes k d lt)

-- and back
hashes_left : (levels : List Level) → AreHashes (left_nodes levels) → All (λ sides. AreHashes sides.left) levels
hashes_left [] h = All-nil (λ (s : Level). AreHashes s.left)
hashes_left (sides ∷ levels) h =
    All-cons (λ (s : Level). AreHashes s.left) sides levels (all_front (λ (node : Node). IsHash node.0) sides.left (left_nodes levels) h)
    (hashes_left levels (all_back (λ (node : Node). IsHash node.0) sides.left (left_nodes levels) h))

hashes_right : (levels : List Level) → AreHashes (right_nodes levels) → All (λ sides. AreHashes sides.right) levels
hashes_right [] h = All-nil (λ (s : Level). AreHashes s.right)
hashes_right (sides ∷ levels) h =
    All-cons (λ (s : Level). AreHashes s.right) sides levels (all_back (λ (node : Node). IsHash node.0) (right_nodes levels) sides.right h)
    (hashes_right levels (all_front (λ (node : Node). IsHash node.0) (right_nodes levels) sides.right h))

proof_hashes : (proof : Proof) → AreNodes (flat_nodes proof.levels proof.chunks) → HasHashes proof
proof_hashes proof h =
    let all = All-weaker IsNode (λ (node : Node). IsHash node.0) (λ node is. is.0) (flat_nodes proof.levels proof.chunks) h in
    let back = all_back (λ (node : Node). IsHash node.0) (left_nodes proof.levels) (proof.chunks ++ right_nodes proof.levels) all in
    record {
      chunks = all_front (λ (node : Node). IsHash node.0) proof.chunks (right_nodes proof.levels) back;
      left = hashes_left proof.levels (all_front (λ (node : Node). IsHash node.0) (left_nodes proof.levels) (proof.chunks ++ right_nodes proof.levels) all);
      right = hashes_right proof.levels (all_back (λ (node : Node). IsHash node.0) proof.chunks (right_nodes proof.levels) back);
    }

-- ---- what bytes say

-- the bytes of flat lists say the proof that has these lists
pub lists_say : (bytes : List ℕ) (counts : List (ℕ × ℕ)) (nodes : List Node) (proof : Proof) → bytes ≡ list_bytes counts nodes → AreNodes nodes →
    IsFlat counts nodes proof.levels proof.chunks → IsWellFormed proof → SayProof bytes proof
lists_say bytes counts nodes proof e are flat well_formed = record {
  bytes_are = e ∙ (λ i. list_bytes (flat.counts_are i) (flat.nodes_are i));
  well_formed = well_formed;
  hashes = proof_hashes proof (All-same IsNode (flat_nodes proof.levels proof.chunks) nodes (sym flat.nodes_are) are);
}

pub one_said : (bytes : List ℕ) (a b : Proof) → SayProof bytes a → SayProof bytes b → a ≡ b
one_said bytes a b h k =
    let same = one_lists (map count_of a.levels) (map count_of b.levels) (flat_nodes a.levels a.chunks) (flat_nodes b.levels b.chunks)
    (proof_nodes a h.hashes h.well_formed) (proof_nodes b k.hashes k.well_formed) (sym h.bytes_are ∙ k.bytes_are) in
    one_flat_proof (map count_of a.levels) (flat_nodes a.levels a.chunks) a b (record { counts_are = refl; nodes_are = refl })
    (record { counts_are = same.0; nodes_are = same.1 })

-- ---- reading

-- a list is its first element and the rest, as a pattern cuts it
first_and_rest : (bytes : List ℕ) (levels : ℕ) → 1 ≤ length bytes → levels ≡ get_or bytes 0 0 →
    bytes ≡ levels ∷ take (length bytes - 1) (drop 1 bytes)
first_and_rest bytes levels some is =
    drop_more bytes 0 0 (omega arith) ∙ (λ i. sym is i ∷ sym (take_rest bytes 1) i)

pub breaks_rule_3 : (bytes : List ℕ) (levels : ℕ) → 1 ≤ length bytes → levels ≡ get_or bytes 0 0 →
    length (take (length bytes - 1) (drop 1 bytes)) < 2 * levels → BreakRule bytes 3
breaks_rule_3 bytes levels some is short = few_counts (first_and_rest bytes levels some is) short

pub breaks_rule_4 : (bytes : List ℕ) (levels : ℕ) (front back : List ℕ) → 1 ≤ length bytes → levels ≡ get_or bytes 0 0 →
    take (length bytes - 1) (drop 1 bytes) ≡ front ++ back → length front ≡ 2 * levels → ¬ (length back % 40 ≡ 0) → BreakRule bytes 4
breaks_rule_4 bytes levels front back some is cut len part =
    let all = ap length cut in
    let sum = length-append front back in
    no_nodes (first_and_rest bytes levels some is) (omega arith) (λ whole. part (omega arith))

pub lists_read : (bytes : List ℕ) (levels : ℕ) (front back : List ℕ) (counts : List (ℕ × ℕ)) (nodes : List Node) → 1 ≤ length bytes →
    levels ≡ get_or bytes 0 0 → take (length bytes - 1) (drop 1 bytes) ≡ front ++ back → length front ≡ 2 * levels → count_bytes counts ≡ front →
    flat_map node_bytes nodes ≡ back → bytes ≡ list_bytes counts nodes
lists_read bytes levels front back counts nodes some is cut len of_counts of_nodes =
    let all : length (count_bytes counts) ≡ length front = ap length of_counts in
    let same : levels ≡ length counts = omega (arith, counts_len counts) in
    first_and_rest bytes levels some is ∙ (λ i. same i ∷ (cut ∙ (λ j. sym of_counts j ++ sym of_nodes j)) i)

-- what two facts of a value that is returned show, and one of an error
pub both_of : {X E : Type 0} (P Q R : X → Type 0) (result : Result X E) → ((x : X) → P x → Q x → R x) → IfOk result P → IfOk result Q → IfOk result R
both_of P Q R (Ok x) f p q = f x p q
both_of P Q R (Err e) f p q = tt

pub error_of : {X E : Type 0} (P Q : E → Type 0) (result : Result X E) → ((e : E) → P e → Q e) → IfErr result P → IfErr result Q
error_of P Q (Ok x) f p = tt
error_of P Q (Err e) f p = f e p

-- ---- rules

-- the bytes of flat lists have two bytes for each level, and whole nodes
pub lists_whole : (counts : List (ℕ × ℕ)) (nodes : List Node) (levels : ℕ) (rest : List ℕ) → AreNodes nodes → list_bytes counts nodes ≡ levels ∷ rest →
    length rest ≡ 2 * levels + 40 * length nodes
lists_whole counts nodes levels rest are e =
    let heads : length counts ≡ levels = cc in
    let tails : count_bytes counts ++ flat_map node_bytes nodes ≡ rest = cc in
    let len = ap length tails in
    omega (arith, counts_len counts, nodes_len nodes are, length-append (count_bytes counts) (flat_map node_bytes nodes))

pub said_kept : (bytes : List ℕ) (proof : Proof) (rule : ℕ) → SayProof bytes proof → BreakRule bytes rule → ⊥
said_kept bytes proof rule h (no_byte e) = omega (arith, ap length (sym e ∙ h.bytes_are))
said_kept bytes proof rule h (few_counts {levels} {rest} e short) =
    let whole = lists_whole (map count_of proof.levels) (flat_nodes proof.levels proof.chunks) levels rest
    (proof_nodes proof h.hashes h.well_formed) (sym h.bytes_are ∙ e) in
    omega arith
said_kept bytes proof rule h (no_nodes {levels} {rest} e long part) =
    let whole = lists_whole (map count_of proof.levels) (flat_nodes proof.levels proof.chunks) levels rest
    (proof_nodes proof h.hashes h.well_formed) (sym h.bytes_are ∙ e) in
    part (omega arith)
said_kept bytes proof _ h (of_lists {rule} {counts} {nodes} e are broken) =
    let same = one_lists counts (map count_of proof.levels) nodes (flat_nodes proof.levels proof.chunks) are
    (proof_nodes proof h.hashes h.well_formed) (sym e ∙ h.bytes_are) in
    flat_kept counts nodes proof rule (record { counts_are = same.0; nodes_are = same.1 }) h.well_formed broken
