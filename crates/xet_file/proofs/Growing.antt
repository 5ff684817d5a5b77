-- What a hasher of a file holds after more bytes, and the chunks of the file so far.
use Rattle.std.proofs.Common.{◌≡◌, ℕ, ◌+◌, ◌-◌, ◌^◌, ◌<◌, ◌≤◌, false, true, List, [], ◌∷◌, ◌++◌, length, map, take, drop, refl, sym, ap, subst, ◌∙◌, arith, length-append}
use Rattle.std.proofs.lemmas.List.{append_assoc, append-nil, map-append}
use Rattle.std.proofs.lemmas.List.Sums.{sum_by-append, sum_by-cons}
use Rattle.std.proofs.Math.Seq.{drop-append_seam, take-append_seam}
use Rattle.keyed_blake3.specs.declared.hasher.Hasher.{Hasher}
use Rattle.keyed_blake3.specs.Blake3.{keyed_hash}
use Rattle.xet_hash.specs.Hash.{data_key, hash_of}
use Rattle.xet_chunker.specs.Chosen.{AreSized}
use Rattle.xet_chunker.specs.Cuts.{cuts, cuts_at, cuts_from}
use Rattle.xet_chunker.specs.Pieces.{joined}
use Rattle.xet_chunker.specs.declared.chunker.Chunker.{Chunker}
use Rattle.xet_roots.specs.Groups.{Node}
use Rattle.xet_roots.specs.Roots.{total_size}
use Rattle.chunk_ranges.specs.declared.chunk_range.ChunkRange as chunk_range
use Rattle.commitment.specs.Commitment.{chunk_node, chunk_nodes}
use Rattle.xet_file.specs.Chunks.{chunks_of, parts_at}
use Rattle.xet_file.specs.FileHasher.{ends_of, Holds, Parts, Takes}
use Rattle.xet_file.proofs.Taking.{ends-append, joined-append, joined-last}

pub total-append : (nodes more : List Node) → total_size (nodes ++ more) ≡ total_size nodes + total_size more
total-append nodes more = sum_by-append (λ (node : Node). node.1) nodes more

-- the sizes of chunks add up to their bytes
pub sizes-of : (chunks : List (List ℕ)) → total_size (chunk_nodes chunks) ≡ length (joined chunks)
unfolding joined
sizes-of [] = refl
sizes-of (chunk ∷ chunks) =
    let cons = sum_by-cons (λ (node : Node). node.1) (chunk_node chunk) (chunk_nodes chunks) in
    let rest = sizes-of chunks in
    let size = length-append chunk (joined chunks) in
    omega arith

-- the parts of a message up to their ends are these parts
pub parts-of : (at : ℕ) (parts : List (List ℕ)) → parts_at at (ends_of at parts) (joined parts) ≡ parts
unfolding parts_at ends_of joined
parts-of at [] = refl
parts-of at (part ∷ parts) =
    let e : (at + length part) - at ≡ length part = omega arith in
    let front : take ((at + length part) - at) (part ++ joined parts) ≡ part = ap (λ (n : ℕ). take n (part ++ joined parts)) e ∙ take-append_seam part (joined parts) in
    let back : drop ((at + length part) - at) (part ++ joined parts) ≡ joined parts = ap (λ (n : ℕ). drop n (part ++ joined parts)) e ∙ drop-append_seam part (joined parts) in
    ap (λ (p : List ℕ). p ∷ parts_at (at + length part) (ends_of (at + length part) parts) (drop ((at + length part) - at) (part ++ joined parts))) front
    ∙ ap (λ (l : List ℕ). part ∷ parts_at (at + length part) (ends_of (at + length part) parts) l) back
    ∙ ap (λ (l : List (List ℕ)). part ∷ l) (parts-of (at + length part) parts)

-- the open chunk as the last one of a file, if it has bytes
pub last_of : List ℕ → List (List ℕ)
last_of [] = []
last_of (byte ∷ chunk) = (byte ∷ chunk) ∷ []

joined-last_of : (chunk : List ℕ) → joined (last_of chunk) ≡ chunk
unfolding joined last_of
joined-last_of [] = refl
joined-last_of (byte ∷ chunk) = append-nil (byte ∷ chunk)

-- it ends the file, if it has bytes
ends-last_of : (at : ℕ) (chunk : List ℕ) → (length chunk ≡ 0 → cuts_at at chunk ≡ []) →
    (0 < length chunk → cuts_at at chunk ≡ (at + length chunk) ∷ []) → cuts_at at chunk ≡ ends_of at (last_of chunk)
unfolding ends_of last_of
ends-last_of at [] none some = none refl
ends-last_of at (byte ∷ chunk) none some = some (omega arith)

-- its node, if it has bytes
pub last-nodes : (chunk hash : List ℕ) (count n : ℕ) → hash ≡ hash_of (keyed_hash data_key chunk) → count ≡ length chunk →
    (count ≡ 0 → n ≡ 0) → (0 < count → n ≡ 1) → take n ((hash, count) ∷ []) ≡ chunk_nodes (last_of chunk)
unfolding last_of
last-nodes [] hash count n hash_is count_is none some = ap (λ (k : ℕ). take k ((hash, count) ∷ [])) (none count_is)
last-nodes (byte ∷ chunk) hash count n hash_is count_is none some =
    ap (λ (k : ℕ). take k ((hash, count) ∷ [])) (some (omega arith))
    ∙ ap (λ (h : List ℕ). (h, count) ∷ []) hash_is
    ∙ ap (λ (k : ℕ). (hash_of (keyed_hash data_key (byte ∷ chunk)), k) ∷ []) count_is

pub last-size : (chunk : List ℕ) → total_size (chunk_nodes (last_of chunk)) ≡ length chunk
last-size chunk = sizes-of (last_of chunk) ∙ ap length (joined-last_of chunk)

-- a file without bytes is one without chunks
pub no-chunks : (file : List ℕ) → length file ≡ 0 → length (chunk_nodes (chunks_of file)) ≡ 0
unfolding parts_at cuts_from
no-chunks [] none = refl
no-chunks (byte ∷ file) none = absurd (omega (arith, none))

no-bytes-of : (ends file : List ℕ) → AreSized (length file) 0 ends → length (chunk_nodes (parts_at 0 ends file)) ≡ 0 → length file ≡ 0
unfolding parts_at AreSized
no-bytes-of [] file sized none = omega (arith, sized)
no-bytes-of (end ∷ ends) file sized none = absurd (omega (arith, none))

pub no-bytes : (file : List ℕ) → AreSized (length file) 0 (cuts file) → length (chunk_nodes (chunks_of file)) ≡ 0 → length file ≡ 0
no-bytes file sized none = no-bytes-of (cuts file) file sized none

-- the chunks of a file
pub chunks-held : (ended : List (List ℕ)) (chunk : List ℕ) →
    ((rest : List ℕ) → cuts (joined ended ++ (chunk ++ rest)) ≡ ends_of 0 ended ++ cuts_at (length (joined ended)) (chunk ++ rest)) →
    ((at : ℕ) → length chunk ≡ 0 → cuts_at at chunk ≡ []) → ((at : ℕ) → 0 < length chunk → cuts_at at chunk ≡ (at + length chunk) ∷ []) →
    chunks_of (joined ended ++ chunk) ≡ ended ++ last_of chunk
chunks-held ended chunk cuts_are none some =
    let all : List (List ℕ) = ended ++ last_of chunk in
    let n : ℕ = length (joined ended) in
    let whole : joined all ≡ joined ended ++ chunk = joined-append ended (last_of chunk) ∙ ap (λ (l : List ℕ). joined ended ++ l) (joined-last_of chunk) in
    let here : 0 + n ≡ n = omega arith in
    let ends : cuts (joined ended ++ chunk) ≡ ends_of 0 all =
    ap (λ (l : List ℕ). cuts (joined ended ++ l)) (sym (append-nil chunk))
    ∙ cuts_are []
    ∙ ap (λ (l : List ℕ). ends_of 0 ended ++ cuts_at n l) (append-nil chunk)
    ∙ ap (λ (l : List ℕ). ends_of 0 ended ++ l) (ends-last_of n chunk (none n) (some n))
    ∙ ap (λ (k : ℕ). ends_of 0 ended ++ ends_of k (last_of chunk)) (sym here)
    ∙ sym (ends-append 0 ended (last_of chunk)) in
    ap (λ (l : List ℕ). parts_at 0 l (joined ended ++ chunk)) ends
    ∙ ap (λ (l : List ℕ). parts_at 0 (ends_of 0 all) l) (sym whole)
    ∙ parts-of 0 all

module _ {C A : Type 0} (kind : chunk_range.Ghosts C A) where
  -- the sizes of the ended chunks fit
  pub ended-fit : (s : Parts C) (file : List ℕ) → Holds kind s file → kind.total s.range + total_size s.waiting < 2 ^ 64
  ended-fit s file h =
      let total = h.total in
      let sizes = sizes-of h.ended in
      let nodes = ap total_size h.nodes in
      let both = total-append h.ranged s.waiting in
      let size = ap length h.file_is in
      let parts = length-append (joined h.ended) h.open_chunk in
      let size_is = h.size_is in
      let fits = h.fits in
      omega arith

  -- and so do they with the open chunk
  pub whole-size : (s : Parts C) (file : List ℕ) (h : Holds kind s file) →
      (kind.total s.range + total_size s.waiting) + total_size (chunk_nodes (last_of h.open_chunk)) < 2 ^ 64
  whole-size s file h =
      let total = h.total in
      let sizes = sizes-of h.ended in
      let nodes = ap total_size h.nodes in
      let both = total-append h.ranged s.waiting in
      let size = ap length h.file_is in
      let parts = length-append (joined h.ended) h.open_chunk in
      let last = last-size h.open_chunk in
      let size_is = h.size_is in
      let fits = h.fits in
      omega arith

  -- more bytes are taken
  pub grown : (s : Parts C) (file piece : List ℕ) (h : Holds kind s file) (range : C) (waiting nodes : List Node)
      (cut : Chunker) (hashed : Hasher) (size : ℕ) →
      ((ranged : List Node) × kind.stands range ranged × (kind.total range ≡ total_size ranged) × (h.ranged ++ s.waiting ≡ ranged ++ waiting)) →
      kind.start range ≡ true → kind.end range ≡ false →
      Takes h.open_chunk piece cut hashed nodes → size ≡ s.size + length piece → size < 2 ^ 64 →
      Holds kind (record { chunker = cut; hasher = hashed; range = range; waiting = waiting ++ nodes; size = size }) (file ++ piece)
  grown s file piece h range waiting nodes cut hashed size (ranged, stands, total, same) start end t size_is fits =
      let n : ℕ = length (joined h.ended) in
      let whole : joined (h.ended ++ t.ended) ≡ joined h.ended ++ joined t.ended = joined-append h.ended t.ended in
      let lengths = length-append (joined h.ended) (joined t.ended) in
      let length_of = length-append file piece in
      let old_size = h.size_is in
      let here : 0 + n ≡ n = omega arith in
      let there : n + length (joined t.ended) ≡ length (joined (h.ended ++ t.ended)) = omega (arith, ap length whole) in
      record {
        ended = h.ended ++ t.ended;
        open_chunk = t.open_chunk;
        file_is = ap (λ (l : List ℕ). l ++ piece) h.file_is
            ∙ append_assoc (joined h.ended) h.open_chunk piece
            ∙ ap (λ (l : List ℕ). joined h.ended ++ l) t.bytes
            ∙ sym (append_assoc (joined h.ended) (joined t.ended) t.open_chunk)
            ∙ ap (λ (l : List ℕ). l ++ t.open_chunk) (sym whole);
        cut = t.cut_is;
        hashed = t.hashed_is;
        cuts_are = λ rest.
            let more : joined t.ended ++ (t.open_chunk ++ rest) ≡ h.open_chunk ++ (piece ++ rest) =
            sym (append_assoc (joined t.ended) t.open_chunk rest) ∙ ap (λ (l : List ℕ). l ++ rest) (sym t.bytes) ∙ append_assoc h.open_chunk piece rest in
            ap (λ (l : List ℕ). cuts (l ++ (t.open_chunk ++ rest))) whole
            ∙ ap cuts (append_assoc (joined h.ended) (joined t.ended) (t.open_chunk ++ rest))
            ∙ ap (λ (l : List ℕ). cuts (joined h.ended ++ l)) more
            ∙ h.cuts_are (piece ++ rest)
            ∙ ap (λ (l : List ℕ). ends_of 0 h.ended ++ l) (t.cuts_are n rest)
            ∙ sym (append_assoc (ends_of 0 h.ended) (ends_of n t.ended) (cuts_at (n + length (joined t.ended)) (t.open_chunk ++ rest)))
            ∙ ap (λ (k : ℕ). (ends_of 0 h.ended ++ ends_of k t.ended) ++ cuts_at (n + length (joined t.ended)) (t.open_chunk ++ rest)) (sym here)
            ∙ ap (λ (l : List ℕ). l ++ cuts_at (n + length (joined t.ended)) (t.open_chunk ++ rest)) (sym (ends-append 0 h.ended t.ended))
            ∙ ap (λ (k : ℕ). ends_of 0 (h.ended ++ t.ended) ++ cuts_at k (t.open_chunk ++ rest)) there;
        ranged = ranged;
        nodes = map-append chunk_node h.ended t.ended
            ∙ ap (λ (l : List Node). l ++ chunk_nodes t.ended) (h.nodes ∙ same)
            ∙ ap (λ (l : List Node). (ranged ++ waiting) ++ l) (sym t.nodes_are)
            ∙ append_assoc ranged waiting nodes;
        stands = stands;
        start = start;
        end = end;
        total = total;
        size_is = omega arith;
        fits = fits;
      }
