use Rattle.std.proofs.Common.{◌≡◌, ℕ, ◌+◌, ◌<◌, ◌≤◌, List, [], inl, inr, get_or, length, map, sym, ap, ◌∙◌, arith, length-set}
use Rattle.std.proofs.lemmas.Bool.{cases_lt}
use Rattle.std.proofs.lemmas.List.{get_or-set_same, get_or-set_other}
use Rattle.std.specs.Int.{to_le_bytes, w32}
use Rattle.std.specs.List.{flat_map}
use Rattle.keyed_blake3.specs.Blake3.{block, keyed_hash, words_at}
use Rattle.keyed_blake3.specs.Steps.Lanes.{chunk_at}
use Rattle.keyed_blake3.proofs.Blake3.Blocks.{subtree_value-chunk}
use Rattle.keyed_blake3.proofs.Blake3.Messages.{chunk_at_row, message_at, short_at}
use Rattle.keyed_blake3.proofs.messages.hash_side_by_side.Goals as goal

pub hashes-preserved : goal.hashes-preserved
unfolding keyed_hash
hashes-preserved g c =
    let at = c.args.at in
    let j = c.hashes.j in
    let hashes = c.hashes.hashes in
    let key : List ℕ = words_at 8 c.args.key.now in
    let messages = c.args.messages.now in
    let m : List ℕ = get_or (map (λ m. m.now) messages) j [] in
    let same = message_at messages j c.hashes-test.true in
    let short : length m ≤ 1024 = rw same (short_at messages j c.requires.short c.hashes-test.true) in
    let fits : j < g.row.L = omega (arith, c.requires.few) in
    let place = c.neighbours.ensures j fits in
    let chunks = c.put_side_by_side.new.chunks in
    let chunk : chunk_at (get_or c.neighbours.result j 0) c.as_flattened-bytes.result.now ≡ get_or chunks j [] =
    ap (λ (k : ℕ). chunk_at k c.as_flattened-bytes.result.now) (place.1 (omega arith))
    ∙ ap (chunk_at j) c.as_flattened-bytes.ensures.value ∙ chunk_at_row chunks j (λ i h. c.put_side_by_side.ensures.sizes i (omega arith)) (omega arith) in
    let put = c.put_side_by_side.ensures in
    let ended = c.ended_values-ended.ensures.lanes j m fits (c.most_before_last-most.ensures.most j c.hashes-test.true) (record {
      blocks = λ n within. ap (λ (x : List ℕ). block x n) chunk ∙ put.padded j n c.hashes-test.true within;
      last_block = put.last j c.hashes-test.true;
      in_last = put.rest j c.hashes-test.true;
    }) in
    let hash : c.output.result ≡ keyed_hash c.args.key.now m = c.output.ensures ∙ ap (flat_map (to_le_bytes w32)) (c.lane.ensures ∙ ended ∙ sym (subtree_value-chunk key 54 0 m 8 short)) in
    let inv = c.hashes.invariant in
    record {
      size = length-set hashes (at + j) c.output.result ∙ inv.size;
      before = λ i h. get_or-set_other hashes (at + j) i c.output.result [] (λ e. omega arith) ∙ inv.before i h;
      after = λ i h. get_or-set_other hashes (at + j) i c.output.result [] (λ e. omega arith) ∙ inv.after i (omega arith);
      hashes = λ i h. elim (cases_lt i j) [
        | inl less ↦ get_or-set_other hashes (at + j) (at + i) c.output.result [] (λ e. omega arith) ∙ inv.hashes i less
        | inr past ↦
            let here : i ≡ j = omega arith in
            rw here (get_or-set_same hashes (at + j) c.output.result [] (omega (arith, inv.size, c.requires.room)) ∙ hash)
      ];
    }

pub returns : goal.returns
returns g c = record { before = c.hashes.invariant.before; after = λ i h. c.hashes.invariant.after i (omega arith); hashes = λ j h. c.hashes.invariant.hashes j (omega arith) }
