-- Chunks of a part, and the data that they are checked against.
use Rattle.std.proofs.Common.{arith, ◌≡◌, ◌<◌, ◌≤◌, ◌+◌, ◌-◌, ◌⊎◌, ℕ, List, [], ◌∷◌, ◌++◌, length, get_or, take, drop, refl, sym, ap, subst, ◌∙◌, inl, inr, append-nil, append_assoc}
use Rattle.std.specs.Prelude.{Some, slice_get, slice_range}
use Rattle.std.proofs.lemmas.Bool.{cases_lt}
use Rattle.std.proofs.lemmas.List.{length-map, length-take-le, map-append, nil_from_length, take-append-drop, take_all, take_more}
use Rattle.std.proofs.lemmas.List.Sums.{sum_by_push}
use Rattle.std.proofs.lemmas.Option.{get_or_from_slice_get, slice_get-get_or, slice_get_within}
use Rattle.xet_roots.specs.Groups.{Node}
use Rattle.xet_roots.specs.Roots.{total_size}
use Rattle.commitment.specs.Commitment.{chunk_node}
use Rattle.range_proof.specs.RangeProof.{Proof, begin_of, offset_of}
use Rattle.range_proof.specs.Reading.{AreChunksOf, IsRead, bytes_of_chunks}
use Rattle.range_proof.proofs.ReadingOf.{IsReadSoFar, IsReadSoFar-more, bytes_of_chunks-push, none_if_other, none_if_short}
use Rattle.verified_reader.specs.Kept.{Chunk}
use Rattle.verified_reader.specs.Reader.{AreCopies, AreRight, BeginsWith, Part}

-- the next chunk begins where this one ends
pub next_place : (proof : Proof) (k : ℕ) (node : Node) → slice_get proof.chunks k ≡ Some node → begin_of proof (k + 1) ≡ begin_of proof k + node.1
next_place proof k node here =
    let within = slice_get_within proof.chunks k node here in
    let more : total_size (take (k + 1) proof.chunks) ≡ total_size (take k proof.chunks) + node.1 =
    ap total_size (take_more proof.chunks k node within ∙ ap (λ (n : Node). take k proof.chunks ++ n ∷ []) (get_or_from_slice_get proof.chunks k node node here))
    ∙ sum_by_push (λ (n : Node). n.1) (take k proof.chunks) node in
    omega (arith, more)

-- bytes that are too few don't begin with a chunk
pub too_short : (proof : Proof) (k from to : ℕ) (rest : List ℕ) → from ≡ begin_of proof k → to ≡ begin_of proof (k + 1) →
    (to < from) ⊎ (length rest < to - from) → ¬ (BeginsWith proof k rest)
too_short proof k from to rest from_is to_is short (count, within, here) =
    let size : begin_of proof (k + 1) ≡ begin_of proof k + length (take count rest) = next_place proof k (chunk_node (take count rest)) here in
    let all = length-take-le count rest within in
    elim short [
      | inl less ↦ omega (arith, less, size, all, from_is, to_is)
      | inr few ↦ omega (arith, few, size, all, from_is, to_is, within)
    ]

-- nor do others
pub other_chunk : (proof : Proof) (k from to : ℕ) (rest : List ℕ) → from ≡ begin_of proof k → to ≡ begin_of proof (k + 1) →
    ¬ (slice_get proof.chunks k ≡ Some (chunk_node (take (to - from) rest))) → ¬ (BeginsWith proof k rest)
other_chunk proof k from to rest from_is to_is other (count, within, here) =
    let size : begin_of proof (k + 1) ≡ begin_of proof k + length (take count rest) = next_place proof k (chunk_node (take count rest)) here in
    let all = length-take-le count rest within in
    let same : count ≡ to - from = omega (arith, size, all, from_is, to_is) in
    other (subst (λ (n : ℕ). slice_get proof.chunks k ≡ Some (chunk_node (take n rest))) same here)

-- there is no such chunk
pub no_chunk : (proof : Proof) (k : ℕ) (rest : List ℕ) → ¬ (k < length proof.chunks) → ¬ (BeginsWith proof k rest)
no_chunk proof k rest past (count, within, here) = past (slice_get_within proof.chunks k (chunk_node (take count rest)) here)

-- one more chunk is read
pub read_more : (nodes : List Node) (all rest : List ℕ) (k size : ℕ) → IsReadSoFar nodes all k rest → size ≤ length rest →
    slice_get nodes k ≡ Some (chunk_node (take size rest)) → IsReadSoFar nodes all (k + 1) (drop size rest)
read_more nodes all rest k size so_far within here =
    let node = chunk_node (take size rest) in
    let count : node.1 ≡ size = length-take-le size rest within in
    IsReadSoFar-more nodes all rest (take size rest) (drop size rest) k node (slice_get_within nodes k node here) (sym (get_or_from_slice_get nodes k node node here))
    so_far (omega (arith, count, within)) (ap (λ (n : ℕ). take n rest) (sym count)) (ap (λ (n : ℕ). drop n rest) (sym count)) refl

-- no chunks of all nodes have these bytes if the next one isn't there
pub none_if_stopped : (proof : Proof) (all rest : List ℕ) (k : ℕ) (d : Node) → k < length proof.chunks → IsReadSoFar proof.chunks all k rest →
    ¬ (BeginsWith proof k rest) → (chunks : List (List ℕ)) → ¬ (AreChunksOf proof.chunks all chunks)
none_if_stopped proof all rest k d within so_far stops =
    let node = get_or proof.chunks k d in
    let here : slice_get proof.chunks k ≡ Some node = slice_get-get_or proof.chunks k d within in
    let is : node ≡ get_or proof.chunks k node = sym (get_or_from_slice_get proof.chunks k node node here) in
    elim (cases_lt (length rest) node.1) [
      | inl short ↦ none_if_short proof.chunks all rest k node within is so_far short
      | inr long ↦
          none_if_other proof.chunks all rest (take node.1 rest) (drop node.1 rest) k node within is so_far long refl
          (λ same. stops (node.1, long, subst (λ (n : Node). slice_get proof.chunks k ≡ Some n) same here))
    ]

-- what is read so far is right
pub right_so_far : (proof : Proof) (all rest : List ℕ) (k : ℕ) → IsReadSoFar proof.chunks all k rest → AreRight proof k all rest
right_so_far proof all rest k so_far = record { chunks = so_far.done; nodes_are = so_far.nodes_are; bytes_are = so_far.bytes_are }

-- chunks that are right up to the end are all
pub all_right : (proof : Proof) (number : ℕ) (all rest : List ℕ) → length proof.chunks ≤ number → length rest ≡ 0 → AreRight proof number all rest →
    (chunks : List (List ℕ)) × AreChunksOf proof.chunks all chunks
all_right proof number all rest past none right = (
  right.chunks,
  record {
    nodes_are = right.nodes_are ∙ take_all number proof.chunks past;
    bytes_are = sym (append-nil (bytes_of_chunks right.chunks)) ∙ ap (λ (l : List ℕ). bytes_of_chunks right.chunks ++ l) (sym (nil_from_length rest none)) ∙ right.bytes_are;
  },
)

-- the wanted bytes of the data of all chunks are read
pub wanted_read : (part : Part) (whole bytes : List ℕ) (chunks : List (List ℕ)) → AreChunksOf part.proof.chunks whole chunks →
    begin_of part.proof 0 ≤ part.from → part.from ≤ part.to → part.to ≤ begin_of part.proof (length part.proof.chunks) →
    bytes ≡ slice_range whole (part.from - begin_of part.proof 0) (part.to - begin_of part.proof 0) → IsRead part.proof part.from part.to whole bytes
wanted_read part whole bytes chunks are begin order end is =
    let zero : begin_of part.proof 0 ≡ offset_of part.proof = omega arith in
    let all = ap total_size (take_all (length part.proof.chunks) part.proof.chunks (omega arith)) in
    record {
      chunks = chunks;
      are_chunks = are;
      begin = omega (arith, begin);
      in_order = order;
      end = omega (arith, end, all);
      bytes_are = is ∙ ap (λ (b : ℕ). slice_range whole (part.from - b) (part.to - b)) zero;
    }

-- ---- Copies

-- the first chunks are right, and copies of some of them stand after earlier ones
pub record AreCopiedSoFar (proof : Proof) (number : ℕ) (all rest : List ℕ) (old new : List Chunk) : Type 0 where
  pub right : AreRight proof number all rest
  pub copies : List Chunk
  pub are : AreCopies proof right.chunks copies
  pub new_is : new ≡ old ++ copies

pub copied_none : (proof : Proof) (all rest : List ℕ) (old : List Chunk) → rest ≡ all → AreCopiedSoFar proof 0 all rest old old
copied_none proof all rest old same = record {
  right = record { chunks = []; nodes_are = refl; bytes_are = same };
  copies = [];
  are = AreCopies.none;
  new_is = sym (append-nil old);
}

-- one more chunk is right, and may be copied
pub copied_more : (proof : Proof) (all rest : List ℕ) (number size : ℕ) (old between new : List Chunk) → AreCopiedSoFar proof number all rest old between →
    slice_get proof.chunks number ≡ Some (chunk_node (take size rest)) →
    (new ≡ between) ⊎ (new ≡ between ++ record { begin = begin_of proof number; bytes = take size rest } ∷ []) →
    AreCopiedSoFar proof (number + 1) all (drop size rest) old new
copied_more proof all rest number size old between new so_far here step = elim step [
  | inl same ↦ record {
    right = right;
    copies = so_far.copies;
    are = AreCopies.left_out so_far.right.chunks chunk so_far.are;
    new_is = same ∙ so_far.new_is;
  }
  | inr one ↦ record {
    right = right;
    copies = so_far.copies ++ record { begin = begin_of proof (length so_far.right.chunks); bytes = chunk } ∷ [];
    are = AreCopies.more so_far.right.chunks chunk so_far.are;
    new_is =
        one ∙ ap (λ (n : ℕ). between ++ record { begin = begin_of proof n; bytes = chunk } ∷ []) (sym count)
        ∙ ap (λ (l : List Chunk). l ++ record { begin = begin_of proof (length so_far.right.chunks); bytes = chunk } ∷ []) so_far.new_is
        ∙ append_assoc old so_far.copies (record { begin = begin_of proof (length so_far.right.chunks); bytes = chunk } ∷ []);
  }
]
  where
    chunk : List ℕ
    chunk = take size rest

    within : number < length proof.chunks
    within = slice_get_within proof.chunks number (chunk_node chunk) here

    count : length so_far.right.chunks ≡ number
    count =
        let all = ap length so_far.right.nodes_are in
        omega (arith, all, within, length-map so_far.right.chunks chunk_node, length-take-le number proof.chunks (omega (arith, within)))

    right : AreRight proof (number + 1) all (drop size rest)
    right = record {
      chunks = so_far.right.chunks ++ chunk ∷ [];
      nodes_are =
          map-append chunk_node so_far.right.chunks (chunk ∷ []) ∙ ap (λ (l : List Node). l ++ chunk_node chunk ∷ []) so_far.right.nodes_are
          ∙ ap (λ (n : Node). take number proof.chunks ++ n ∷ []) (sym (get_or_from_slice_get proof.chunks number (chunk_node chunk) (chunk_node chunk) here))
          ∙ sym (take_more proof.chunks number (chunk_node chunk) within);
      bytes_are =
          ap (λ (l : List ℕ). l ++ drop size rest) (bytes_of_chunks-push so_far.right.chunks chunk)
          ∙ append_assoc (bytes_of_chunks so_far.right.chunks) chunk (drop size rest)
          ∙ ap (λ (l : List ℕ). bytes_of_chunks so_far.right.chunks ++ l) (take-append-drop size rest) ∙ so_far.right.bytes_are;
    }
