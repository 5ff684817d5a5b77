use Rattle.std.proofs.Common.{arith, ◌≡◌, ◌≤◌, ◌<◌, ◌+◌, ℕ, suc, List, [], ◌∷◌, ◌++◌, length, take, get_or, slice_index_or, ap, sym, ◌∙◌, add-one, length-set}
use Rattle.std.proofs.lemmas.List.{take_more_set, map-append}
use Rattle.std.specs.Prelude.{slice_range}
use Rattle.xet_hash.specs.Blake3.{keyed_hash}
use Rattle.xet_hash.specs.Hash.{data_key, hash_of}
use Rattle.yurewha_c.specs.Pieces.{hashes_between, words_of}
use Rattle.yurewha_c.specs.declared.hash.Hash.{Hash}
use Rattle.yurewha_c.proofs.Offsets.{rises_between, hashes-more, length-hashes, take_whole}
use Rattle.yurewha_c.proofs.data_hashes.write_hashes.Goals as goal

pub slice_bounds-piece-count : goal.slice_bounds-piece-count
slice_bounds-piece-count c =
    let i = c.hashes.i in
    let xs = c.args.offsets.now in
    let among : suc i < length xs = omega (arith, c.requires.0) in
    rw (add-one i) (rises_between 0 (length c.args.bytes.now) i xs c.requires.1 among).0

pub slice_bounds-piece-start : goal.slice_bounds-piece-start
slice_bounds-piece-start c =
    let i = c.hashes.i in
    let xs = c.args.offsets.now in
    let among : suc i < length xs = omega (arith, c.requires.0) in
    let up : slice_index_or xs i 0 ≤ slice_index_or xs (i + 1) 0 = rw (add-one i) (rises_between 0 (length c.args.bytes.now) i xs c.requires.1 among).0 in
    up

pub slice_bounds-piece-end : goal.slice_bounds-piece-end
slice_bounds-piece-end c =
    let i = c.hashes.i in
    let xs = c.args.offsets.now in
    let among : suc i < length xs = omega (arith, c.requires.0) in
    let up : slice_index_or xs (i + 1) 0 ≤ length c.args.bytes.now = rw (add-one i) (rises_between 0 (length c.args.bytes.now) i xs c.requires.1 among).1 in
    up

pub hashes-preserved : goal.hashes-preserved
hashes-preserved c =
    let i = c.hashes.i in
    let hashes = c.hashes.hashes in
    let xs = c.args.offsets.now in
    let bytes = c.args.bytes.now in
    let within : i < length hashes = omega arith in
    let among : suc i < length xs = omega (arith, c.requires.0) in
    let hash : c.of.result.words ≡ hash_of (keyed_hash data_key (slice_range bytes (get_or xs i 0) (get_or xs (i + 1) 0))) = c.of.ensures ∙ c.compute_data_hash.ensures in
    record {
      written = ap words_of (take_more_set hashes i c.of.result within)
          ∙ map-append (λ (one : Hash). one.words) (take i hashes) (c.of.result ∷ [])
          ∙ ap (λ (words : List (List ℕ)). words ++ c.of.result.words ∷ []) c.hashes.invariant.written
          ∙ ap (λ (words : List ℕ). take i (hashes_between bytes xs) ++ words ∷ []) hash
          ∙ ap (λ (n : ℕ). take i (hashes_between bytes xs) ++ hash_of (keyed_hash data_key (slice_range bytes (get_or xs i 0) (get_or xs n 0))) ∷ []) (add-one i)
          ∙ sym (ap (λ (n : ℕ). take n (hashes_between bytes xs)) (add-one i) ∙ hashes-more bytes xs i among);
      len = length-set hashes i c.of.result ∙ c.hashes.invariant.len;
    }

pub returns : goal.returns
returns c =
    let i = c.hashes.i in
    let xs = c.args.offsets.now in
    let bytes = c.args.bytes.now in
    let past = c.hashes-test.false in
    let some : 0 < length xs = omega (arith, c.requires.0) in
    let count = length-hashes bytes xs some in
    let all : length c.hashes.hashes ≤ i = omega (arith, past, c.hashes.invariant.len) in
    let both : length (hashes_between bytes xs) ≤ i = omega (arith, past, count, c.requires.0) in
    sym (ap words_of (take_whole i c.hashes.hashes all)) ∙ c.hashes.invariant.written ∙ take_whole i (hashes_between bytes xs) both
