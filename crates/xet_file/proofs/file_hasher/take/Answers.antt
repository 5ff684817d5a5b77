use Rattle.std.proofs.Common.{arith, ◌≡◌, ℕ, ◌+◌, ◌-◌, ◌*◌, ◌/◌, ◌<◌, ◌≤◌, List, [], ◌∷◌, ◌++◌, length, take, drop, vec_capacity, vec_len, refl, sym, ap, subst, ◌∙◌, length-append}
use Rattle.std.proofs.lemmas.List.{append_assoc, append-nil, take-append-drop}
use Rattle.keyed_blake3.specs.Blake3.{keyed_hash}
use Rattle.keyed_blake3.specs.Blake3Hasher.{Holds as Hashes, count_of}
use Rattle.xet_hash.specs.Hash.{data_key, hash_of}
use Rattle.xet_chunker.specs.Chunker.{Holds as IsOpen}
use Rattle.xet_chunker.specs.Cuts.{cuts_at}
use Rattle.xet_roots.specs.Groups.{Node}
use Rattle.commitment.specs.Commitment.{chunk_node}
use Rattle.xet_file.specs.FileHasher.{Takes}
use Rattle.xet_file.proofs.Taking.{takes-all, takes-ended, takes-none}
use Rattle.xet_file.proofs.file_hasher.take.Goals as goal

pub chunks-init : goal.chunks-init
unfolding IsOpen
chunks-init g c =
    let (chunk, is_open, hashes) = c.requires.open_chunk in
    let small = is_open.1 in
    let room = c.requires.room in
    record {
      taken = λ chunk o h. ([], [], refl, sym (append-nil c.args.ended.now.items), takes-none chunk c.args.chunker.now c.args.hasher.now o h);
      room = (chunk, is_open, hashes, omega arith);
    }

pub update-requires : goal.update-requires
unfolding IsOpen Hashes count_of
update-requires g c =
    let (chunk, is_open, hashes, room) = c.chunks.invariant.room in
    let (first, first_open, first_hashes) = c.requires.open_chunk in
    let (front, nodes, pieces, items, t) = c.chunks.invariant.taken first first_open first_hashes in
    let count = hashes.0 in
    let small = is_open.1 in
    let size = ap length pieces in
    let sizes = length-append front c.chunks.rest.now in
    let last = c.split_at.ensures.front_len in
    omega arith

pub update-requires-2 : goal.update-requires-2
unfolding IsOpen Hashes count_of
update-requires-2 g c =
    let (chunk, is_open, hashes, room) = c.chunks.invariant.room in
    let (first, first_open, first_hashes) = c.requires.open_chunk in
    let (front, nodes, pieces, items, t) = c.chunks.invariant.taken first first_open first_hashes in
    let count = hashes.0 in
    let small = is_open.1 in
    let size = ap length pieces in
    let sizes = length-append front c.chunks.rest.now in
    omega arith

pub chunks-preserved : goal.chunks-preserved
unfolding IsOpen
chunks-preserved g c =
    let m : List ℕ = c.split_at.result.0.now in
    let after : List ℕ = c.split_at.result.1.now in
    let rest : List ℕ = c.chunks.rest.now in
    let end = c.in-Some.end in
    let front_is = c.split_at.ensures.front in
    let back_is = c.split_at.ensures.back in
    let front_len = c.split_at.ensures.front_len in
    let back_len = c.split_at.ensures.back_len in
    let (open_chunk, is_open, hashes, room) = c.chunks.invariant.room in
    let least = c.in-Some.ensures.least open_chunk is_open in
    let len = c.in-Ok.ensures.len in
    let capacity = c.in-Ok.ensures.capacity in
    record {
      taken = λ chunk o h.
          let (front, nodes, pieces, items, t) = c.chunks.invariant.taken chunk o h in
          let x : List ℕ = t.open_chunk ++ m in
          let held = c.update.ensures.message data_key t.open_chunk t.hashed_is in
          let hash = c.from.ensures.0 ∙ ap hash_of (c.finalize.ensures data_key x held) in
          let size = c.count.ensures.message data_key x held in
          let node : (c.from.result, c.count.result) ≡ chunk_node x = ap (λ (w : List ℕ). (w, c.count.result)) hash ∙ ap (λ (n : ℕ). (hash_of (keyed_hash data_key x), n)) size in
          let split : rest ≡ m ++ after = sym (take-append-drop end rest) ∙ ap (λ (l : List ℕ). l ++ drop end rest) (sym front_is) ∙ ap (λ (l : List ℕ). m ++ l) (sym back_is) in (
            front ++ m,
            nodes ++ chunk_node x ∷ [],
            pieces ∙ ap (λ (l : List ℕ). front ++ l) split ∙ sym (append_assoc front m after),
            c.in-Ok.ensures.items ∙ ap (λ (l : List Node). l ++ (c.from.result, c.count.result) ∷ []) items
                ∙ append_assoc c.args.ended.now.items nodes ((c.from.result, c.count.result) ∷ [])
                ∙ ap (λ (v : Node). c.args.ended.now.items ++ (nodes ++ v ∷ [])) node,
            takes-ended chunk front m c.chunks.chunker c.next_boundary.new.self c.chunks.hasher c.new_keyed.result nodes t
                c.in-Some.ensures.next c.new_keyed.ensures.message
                (λ at more.
                ap (λ (l : List ℕ). cuts_at at (t.open_chunk ++ (l ++ more))) front_is
                ∙ c.in-Some.ensures.end at t.open_chunk more t.cut_is
                ∙ ap (λ (n : ℕ). (at + (length t.open_chunk + n)) ∷ cuts_at (at + (length t.open_chunk + n)) more) (sym front_len)),
          );
      room = ([], c.in-Some.ensures.next, c.new_keyed.ensures.message, omega arith);
    }

pub returns : goal.returns
returns g c = λ chunk o h.
    let (front, nodes, pieces, items, t) = c.chunks.invariant.taken chunk o h in (
      nodes,
      items,
      subst (λ (p : List ℕ). Takes chunk p c.next_boundary.new.self c.update-2.new.self nodes) (sym pieces)
          (takes-all chunk front c.chunks.rest.now c.chunks.chunker c.next_boundary.new.self c.chunks.hasher c.update-2.new.self nodes t
          (c.in_default.ensures.goes_on t.open_chunk t.cut_is)
          (c.update-2.ensures.message data_key t.open_chunk t.hashed_is)),
    )
