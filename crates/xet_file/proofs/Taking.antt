-- What a piece adds to the chunks of a file.
use Rattle.std.proofs.Common.{◌≡◌, ℕ, ◌+◌, List, [], ◌∷◌, ◌++◌, length, map, refl, sym, ap, ◌∙◌, arith, length-append}
use Rattle.std.proofs.lemmas.List.{append_assoc, append-nil, map-append}
use Rattle.keyed_blake3.specs.Blake3Hasher as blake3
use Rattle.keyed_blake3.specs.declared.hasher.Hasher.{Hasher}
use Rattle.xet_hash.specs.Hash.{data_key}
use Rattle.xet_chunker.specs.Cuts.{cuts_at}
use Rattle.xet_chunker.specs.Chunker as chunker
use Rattle.xet_chunker.specs.Pieces.{joined}
use Rattle.xet_chunker.specs.declared.chunker.Chunker.{Chunker}
use Rattle.xet_roots.specs.Groups.{Node}
use Rattle.commitment.specs.Commitment.{chunk_node, chunk_nodes}
use Rattle.xet_file.specs.FileHasher.{ends_of, Takes}

pub joined-append : (parts more : List (List ℕ)) → joined (parts ++ more) ≡ joined parts ++ joined more
unfolding joined
joined-append [] more = refl
joined-append (part ∷ parts) more = ap (λ (l : List ℕ). part ++ l) (joined-append parts more) ∙ sym (append_assoc part (joined parts) (joined more))

pub joined-last : (parts : List (List ℕ)) (last : List ℕ) → joined (parts ++ last ∷ []) ≡ joined parts ++ last
unfolding joined
joined-last parts last = joined-append parts (last ∷ []) ∙ ap (λ (l : List ℕ). joined parts ++ l) (append-nil last)

pub ends-append : (at : ℕ) (parts more : List (List ℕ)) →
    ends_of at (parts ++ more) ≡ ends_of at parts ++ ends_of (at + length (joined parts)) more
unfolding ends_of joined
ends-append at [] more = ap (λ (n : ℕ). ends_of n more) (omega arith)
ends-append at (part ∷ parts) more =
    let size : length (part ++ joined parts) ≡ length part + length (joined parts) = length-append part (joined parts) in
    let e : (at + length part) + length (joined parts) ≡ at + length (part ++ joined parts) = omega arith in
    ap (λ (l : List ℕ). (at + length part) ∷ l)
    (ends-append (at + length part) parts more
    ∙ ap (λ (n : ℕ). ends_of (at + length part) parts ++ ends_of n more) e)

-- nothing of the piece is taken yet
pub takes-none : (chunk : List ℕ) (cut : Chunker) (hashed : Hasher) → chunker.Holds cut chunk → blake3.Holds data_key hashed chunk →
    Takes chunk [] cut hashed []
unfolding joined ends_of
takes-none chunk cut hashed is_open hashes = record {
  ended = [];
  open_chunk = chunk;
  bytes = append-nil chunk;
  cut_is = is_open;
  hashed_is = hashes;
  cuts_are = λ at rest. ap (λ (n : ℕ). cuts_at n (chunk ++ rest)) (omega arith);
  nodes_are = refl;
}

-- a chunk ends
pub takes-ended : (chunk front more : List ℕ) (cut next : Chunker) (hashed begun : Hasher) (nodes : List Node) →
    (t : Takes chunk front cut hashed nodes) →
    chunker.Holds next [] → blake3.Holds data_key begun [] →
    ((at : ℕ) (rest : List ℕ) → cuts_at at (t.open_chunk ++ (more ++ rest))
    ≡ (at + (length t.open_chunk + length more)) ∷ cuts_at (at + (length t.open_chunk + length more)) rest) →
    Takes chunk (front ++ more) next begun (nodes ++ chunk_node (t.open_chunk ++ more) ∷ [])
unfolding joined ends_of
takes-ended chunk front more cut next hashed begun nodes t is_open hashes ends =
    let last : List ℕ = t.open_chunk ++ more in
    let whole : joined (t.ended ++ last ∷ []) ≡ joined t.ended ++ last = joined-last t.ended last in
    let size : length last ≡ length t.open_chunk + length more = length-append t.open_chunk more in
    let sizes : length (joined t.ended ++ last) ≡ length (joined t.ended) + length last = length-append (joined t.ended) last in
    record {
      ended = t.ended ++ last ∷ [];
      open_chunk = [];
      bytes = sym (append_assoc chunk front more)
          ∙ ap (λ (l : List ℕ). l ++ more) t.bytes
          ∙ append_assoc (joined t.ended) t.open_chunk more
          ∙ sym whole ∙ sym (append-nil (joined (t.ended ++ last ∷ [])));
      cut_is = is_open;
      hashed_is = hashes;
      cuts_are = λ at rest.
          let here : ℕ = at + length (joined t.ended) in
          let e : here + (length t.open_chunk + length more) ≡ here + length last = omega (arith, size) in
          let f : here + length last ≡ at + length (joined (t.ended ++ last ∷ [])) = omega (arith, sizes, ap length whole) in
          ap (λ (l : List ℕ). cuts_at at (chunk ++ l)) (append_assoc front more rest)
          ∙ t.cuts_are at (more ++ rest)
          ∙ ap (λ (l : List ℕ). ends_of at t.ended ++ l)
          (ends here rest ∙ ap (λ (n : ℕ). n ∷ cuts_at n rest) e)
          ∙ sym (append_assoc (ends_of at t.ended) ((here + length last) ∷ []) (cuts_at (here + length last) rest))
          ∙ ap (λ (l : List ℕ). l ++ cuts_at (here + length last) rest) (sym (ends-append at t.ended (last ∷ [])))
          ∙ ap (λ (n : ℕ). ends_of at (t.ended ++ last ∷ []) ++ cuts_at n rest) f;
      nodes_are = ap (λ (l : List Node). l ++ chunk_node last ∷ []) t.nodes_are ∙ sym (map-append chunk_node t.ended (last ∷ []));
    }

-- the rest of the piece belongs to the open chunk
pub takes-all : (chunk front more : List ℕ) (cut next : Chunker) (hashed grown : Hasher) (nodes : List Node) →
    (t : Takes chunk front cut hashed nodes) →
    chunker.Holds next (t.open_chunk ++ more) → blake3.Holds data_key grown (t.open_chunk ++ more) →
    Takes chunk (front ++ more) next grown nodes
takes-all chunk front more cut next hashed grown nodes t is_open hashes = record {
  ended = t.ended;
  open_chunk = t.open_chunk ++ more;
  bytes = sym (append_assoc chunk front more) ∙ ap (λ (l : List ℕ). l ++ more) t.bytes ∙ append_assoc (joined t.ended) t.open_chunk more;
  cut_is = is_open;
  hashed_is = hashes;
  cuts_are = λ at rest.
      ap (λ (l : List ℕ). cuts_at at (chunk ++ l)) (append_assoc front more rest)
      ∙ t.cuts_are at (more ++ rest)
      ∙ ap (λ (l : List ℕ). ends_of at t.ended ++ cuts_at (at + length (joined t.ended)) l) (sym (append_assoc t.open_chunk more rest));
  nodes_are = t.nodes_are;
}
