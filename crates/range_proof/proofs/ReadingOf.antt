-- Cutting data into chunks by the sizes of their nodes.
use Rattle.std.proofs.Common.{◌≡◌, ℕ, ◌+◌, ◌-◌, ◌<◌, ◌≤◌, List, [], ◌∷◌, ◌++◌, length, get_or, take, drop, refl, sym, ap, ◌∙◌, arith, append_assoc, append-nil, length-append}
use Rattle.std.specs.Prelude.{Some, slice_get}
use Rattle.std.proofs.lemmas.List.Concat.{flat_map-append}
use Rattle.std.proofs.lemmas.Option.{slice_get_within, get_or_from_slice_get}
use Rattle.std.proofs.lemmas.List.{take_more, drop_more, drop_all, take_all, take-append-drop, take-append-le, drop-append-le, drop-drop, length-drop, drop_at, take_at, map-append, length-map, get_or-map, nil_from_length}
use Rattle.std.proofs.lemmas.List.Sums.{sum_by-cons}
use Rattle.xet_roots.specs.Groups.{Node}
use Rattle.xet_roots.specs.Roots.{total_size}
use Rattle.commitment.specs.Commitment.{chunk_node, chunk_nodes}
use Rattle.range_proof.specs.RangeProof.{Proof, offset_of}
use Rattle.range_proof.specs.Reading.{bytes_of_chunks, AreChunksOf, IsRead, IsPartOfFile}
use Rattle.range_proof.specs.Soundness.{AreChunksAt, HasChunksAt}

pub bytes_of_chunks-push : (chunks : List (List ℕ)) (chunk : List ℕ) → bytes_of_chunks (chunks ++ chunk ∷ []) ≡ bytes_of_chunks chunks ++ chunk
bytes_of_chunks-push [] chunk = let e : chunk ++ [] ≡ [] ++ chunk = simp append-nil in e
bytes_of_chunks-push (first ∷ chunks) chunk =
    ap (λ (l : List ℕ). first ++ l) (bytes_of_chunks-push chunks chunk) ∙ sym (append_assoc first (bytes_of_chunks chunks) chunk)

-- the first nodes have chunks, whose bytes are those before the rest; and chunks of all nodes leave the rest to the others
pub record IsReadSoFar (nodes : List Node) (bytes : List ℕ) (i : ℕ) (rest : List ℕ) : Type 0 where
  pub done : List (List ℕ)
  pub nodes_are : chunk_nodes done ≡ take i nodes
  pub bytes_are : bytes_of_chunks done ++ rest ≡ bytes
  pub only : (chunks : List (List ℕ)) → AreChunksOf nodes bytes chunks → bytes_of_chunks (drop i chunks) ≡ rest

pub IsReadSoFar-none : (nodes : List Node) (bytes rest : List ℕ) → rest ≡ bytes → IsReadSoFar nodes bytes 0 rest
IsReadSoFar-none nodes bytes rest e = record {
  done = [];
  nodes_are = refl;
  bytes_are = e;
  only = λ chunks h. h.bytes_are ∙ sym e;
}

-- the next of the chunks of all nodes stands at the front of the rest
next_chunk : (nodes : List Node) (bytes rest : List ℕ) (i : ℕ) (node : Node) (chunks : List (List ℕ)) → i < length nodes → node ≡ get_or nodes i node →
    IsReadSoFar nodes bytes i rest → AreChunksOf nodes bytes chunks →
    (chunk_node (get_or chunks i []) ≡ node) × (get_or chunks i [] ++ bytes_of_chunks (drop (i + 1) chunks) ≡ rest)
next_chunk nodes bytes rest i node chunks within here h k =
    let len = ap length k.nodes_are in
    let inside : i < length chunks = omega (arith, length-map chunks chunk_node) in (
      sym (get_or-map chunk_node chunks i [] node inside) ∙ ap (λ (l : List Node). get_or l i node) k.nodes_are ∙ sym here,
      ap bytes_of_chunks (sym (drop_more chunks i [] inside)) ∙ h.only chunks k,
    )

-- the rest is too short for the next node
pub none_if_short : (nodes : List Node) (bytes rest : List ℕ) (i : ℕ) (node : Node) → i < length nodes → node ≡ get_or nodes i node →
    IsReadSoFar nodes bytes i rest → length rest < node.1 → (chunks : List (List ℕ)) → ¬ (AreChunksOf nodes bytes chunks)
none_if_short nodes bytes rest i node within here h short chunks k =
    let next = next_chunk nodes bytes rest i node chunks within here h k in
    let size = ap (λ (n : Node). n.1) next.0 in
    let len = ap length next.1 in
    omega (arith, size, len, length-append (get_or chunks i []) (bytes_of_chunks (drop (i + 1) chunks)))

-- the next bytes are not those of the next node
pub none_if_other : (nodes : List Node) (bytes rest chunk after : List ℕ) (i : ℕ) (node : Node) → i < length nodes → node ≡ get_or nodes i node →
    IsReadSoFar nodes bytes i rest → node.1 ≤ length rest → chunk ≡ take node.1 rest → ¬ (node ≡ chunk_node chunk) →
    (chunks : List (List ℕ)) → ¬ (AreChunksOf nodes bytes chunks)
none_if_other nodes bytes rest chunk after i node within here h long cut other chunks k =
    let next = next_chunk nodes bytes rest i node chunks within here h k in
    let size : length (get_or chunks i []) ≡ node.1 = ap (λ (n : Node). n.1) next.0 in
    let same : chunk ≡ get_or chunks i [] =
    cut ∙ ap (take node.1) (sym next.1) ∙ take_at (get_or chunks i []) (bytes_of_chunks (drop (i + 1) chunks)) node.1 size in
    other (sym next.0 ∙ ap chunk_node (sym same))

-- one chunk more
pub IsReadSoFar-more : (nodes : List Node) (bytes rest chunk after : List ℕ) (i : ℕ) (node : Node) → i < length nodes → node ≡ get_or nodes i node →
    IsReadSoFar nodes bytes i rest → node.1 ≤ length rest → chunk ≡ take node.1 rest → after ≡ drop node.1 rest → node ≡ chunk_node chunk →
    IsReadSoFar nodes bytes (i + 1) after
IsReadSoFar-more nodes bytes rest chunk after i node within here h long cut left same = record {
  done = h.done ++ chunk ∷ [];
  nodes_are =
      map-append chunk_node h.done (chunk ∷ []) ∙ ap (λ (l : List Node). l ++ chunk_node chunk ∷ []) h.nodes_are
      ∙ ap (λ (n : Node). take i nodes ++ n ∷ []) (sym same ∙ here) ∙ sym (take_more nodes i node within);
  bytes_are =
      ap (λ (l : List ℕ). l ++ after) (bytes_of_chunks-push h.done chunk) ∙ append_assoc (bytes_of_chunks h.done) chunk after
      ∙ ap (λ (l : List ℕ). bytes_of_chunks h.done ++ l) ((λ i. cut i ++ left i) ∙ take-append-drop node.1 rest) ∙ h.bytes_are;
  only = λ chunks k.
      let next = next_chunk nodes bytes rest i node chunks within here h k in
      let size : length (get_or chunks i []) ≡ node.1 = ap (λ (n : Node). n.1) next.0 in
      sym (drop_at (get_or chunks i []) (bytes_of_chunks (drop (i + 1) chunks)) node.1 size) ∙ ap (drop node.1) next.1 ∙ sym left;
}

-- all nodes have chunks, and nothing is left
pub all_chunks : (nodes : List Node) (bytes rest : List ℕ) (i : ℕ) → length nodes ≤ i → length rest ≡ 0 → IsReadSoFar nodes bytes i rest →
    (chunks : List (List ℕ)) × AreChunksOf nodes bytes chunks
all_chunks nodes bytes rest i all none h = (
  h.done,
  record {
    nodes_are = h.nodes_are ∙ take_all i nodes all;
    bytes_are = sym (append-nil (bytes_of_chunks h.done)) ∙ ap (λ (l : List ℕ). bytes_of_chunks h.done ++ l) (sym (nil_from_length rest none)) ∙ h.bytes_are;
  },
)

-- chunks of all nodes leave nothing
pub nothing_left : (nodes : List Node) (bytes rest : List ℕ) (i : ℕ) → length nodes ≤ i → IsReadSoFar nodes bytes i rest →
    (chunks : List (List ℕ)) → AreChunksOf nodes bytes chunks → length rest ≡ 0
nothing_left nodes bytes rest i all h chunks k =
    let len = ap length k.nodes_are in
    sym (ap length (sym (ap bytes_of_chunks (drop_all i chunks (omega (arith, length-map chunks chunk_node)))) ∙ h.only chunks k))

-- chunks have as many bytes as their nodes say
pub length-chunks : (nodes : List Node) (bytes : List ℕ) (chunks : List (List ℕ)) → AreChunksOf nodes bytes chunks → length bytes ≡ total_size nodes
length-chunks nodes bytes chunks h = sym (ap length h.bytes_are) ∙ sizes chunks ∙ ap total_size h.nodes_are where
  sizes : (chunks : List (List ℕ)) → length (bytes_of_chunks chunks) ≡ total_size (chunk_nodes chunks)
  sizes [] = refl
  sizes (chunk ∷ chunks) =
      omega (arith, sizes chunks, length-append chunk (bytes_of_chunks chunks), sum_by-cons (λ (n : Node). n.1) (chunk_node chunk) (chunk_nodes chunks))

-- the bytes between two places of the file
pub IsRead-from : (proof : Proof) (from to begin end : ℕ) (all : List ℕ) (chunks : List (List ℕ)) → begin ≡ offset_of proof →
    end ≡ offset_of proof + total_size proof.chunks → begin ≤ from → from ≤ to → to ≤ end → AreChunksOf proof.chunks all chunks →
    IsRead proof from to all (take ((to - begin) - (from - begin)) (drop (from - begin) all))
IsRead-from proof from to begin end all chunks begin_is end_is after order before h = record {
  chunks = chunks;
  are_chunks = h;
  begin = omega arith;
  in_order = order;
  end = omega arith;
  bytes_are = ap (λ (b : ℕ). take ((to - b) - (from - b)) (drop (from - b) all)) begin_is;
}

-- one chunk is that of its node
pub AreChunksAt-one : (proof : Proof) (k : ℕ) (bytes : List ℕ) → slice_get proof.chunks k ≡ Some (chunk_node bytes) → AreChunksAt proof k (bytes ∷ [])
AreChunksAt-one proof k bytes here =
    let within = slice_get_within proof.chunks k (chunk_node bytes) here in
    let node = get_or_from_slice_get proof.chunks k (chunk_node bytes) (chunk_node bytes) here in
    sym (ap (take 1) (drop_more proof.chunks k (chunk_node bytes) within) ∙ ap (λ (n : Node). n ∷ []) node)

-- all chunks are those of their nodes
pub AreChunksAt-all : (proof : Proof) (bytes : List ℕ) (chunks : List (List ℕ)) → AreChunksOf proof.chunks bytes chunks → AreChunksAt proof 0 chunks
AreChunksAt-all proof bytes chunks h =
    let len = ap length h.nodes_are in
    h.nodes_are ∙ sym (take_all (length chunks) proof.chunks (omega (arith, length-map chunks chunk_node)))

-- a file that has the chunks of the range at their place has these bytes
pub IsPartOfFile-from : (proof : Proof) (from to : ℕ) (all bytes : List ℕ) (file : List (List ℕ)) (h : IsRead proof from to all bytes) →
    HasChunksAt file proof 0 h.chunks → IsPartOfFile file proof from to bytes
IsPartOfFile-from proof from to all bytes file h found =
    let offset = offset_of proof in
    let joined : bytes_of_chunks file ≡ (bytes_of_chunks found.before ++ all) ++ bytes_of_chunks found.after =
    ap bytes_of_chunks found.parts ∙ flat_map-append (λ (b : List ℕ). b) (found.before ++ h.chunks) found.after
    ∙ ap (λ (l : List ℕ). l ++ bytes_of_chunks found.after) (flat_map-append (λ (b : List ℕ). b) found.before h.chunks
    ∙ ap (λ (l : List ℕ). bytes_of_chunks found.before ++ l) h.are_chunks.bytes_are) in
    let place : length (bytes_of_chunks found.before) ≡ offset = let p = found.place in omega arith in
    let size = length-chunks proof.chunks all h.chunks h.are_chunks in
    let begin = h.begin in
    let order = h.in_order in
    let end = h.end in
    let m = from - offset in
    let n = to - offset in
    let dropped : drop from (bytes_of_chunks file) ≡ drop m all ++ bytes_of_chunks found.after =
    ap (drop from) joined ∙ ap (λ (k : ℕ). drop k ((bytes_of_chunks found.before ++ all) ++ bytes_of_chunks found.after)) (let e : from ≡ offset + m = omega arith in e)
    ∙ sym (drop-drop m offset ((bytes_of_chunks found.before ++ all) ++ bytes_of_chunks found.after))
    ∙ ap (drop m) (ap (drop offset) (append_assoc (bytes_of_chunks found.before) all (bytes_of_chunks found.after))
    ∙ drop_at (bytes_of_chunks found.before) (all ++ bytes_of_chunks found.after) offset place)
    ∙ drop-append-le m all (bytes_of_chunks found.after) (omega arith) in
    record {
      bytes_are =
          h.bytes_are ∙ sym (take-append-le (n - m) (drop m all) (bytes_of_chunks found.after) (omega (arith, length-drop m all)))
          ∙ ap (take (n - m)) (sym dropped) ∙ ap (λ (k : ℕ). take k (drop from (bytes_of_chunks file))) (let e : n - m ≡ to - from = omega arith in e);
      size = found.size;
    }
