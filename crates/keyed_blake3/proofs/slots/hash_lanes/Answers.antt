use Rattle.std.proofs.Common.{◌≡◌, ℕ, ◌+◌, ◌-◌, ◌*◌, ◌/◌, ◌<◌, ◌≤◌, List, [], inl, inr, get_or, length, take, drop, sym, ap, ◌∙◌, arith, length-drop, length-set}
use Rattle.std.proofs.lemmas.Bool.{cases_lt}
use Rattle.std.proofs.lemmas.List.{get_or-set_same, get_or-set_other, length-take-le, take_rest}
use Rattle.std.specs.Int.{to_le_bytes, w32}
use Rattle.std.specs.List.{flat_map}
use Rattle.keyed_blake3.specs.Blake3.{block, blocks_before_last, keyed_hash, words_at}
use Rattle.keyed_blake3.specs.Steps.Lanes.{chunk_at}
use Rattle.keyed_blake3.specs.Steps.Messages.{message_in}
use Rattle.keyed_blake3.proofs.Blake3.Blocks.{subtree_value-chunk}
use Rattle.keyed_blake3.proofs.Blake3.Slots.{chunk_at_slot, len_in, length-message}
use Rattle.keyed_blake3.proofs.slots.hash_lanes.Goals as goal

pub hashes-preserved : goal.hashes-preserved
unfolding keyed_hash
hashes-preserved g c =
    let n : ℕ = g.row.N in
    let done = c.args.done in
    let j = c.hashes.j in
    let hashes = c.hashes.hashes in
    let slots = c.args.slots.now in
    let lens = c.args.lens.now in
    let are = c.requires.slots in
    let inv = c.hashes.invariant in
    let m : List ℕ = message_in slots lens (done + j) in
    let within : done + j < length lens = omega (arith, c.min-count.ensures) in
    let size : length m ≡ get_or lens (done + j) 0 = length-message n slots lens (done + j) are within in
    let at_j : ℕ = get_or lens (done + j) 0 in
    let part : get_or (take (done + c.min-count.result - done) (drop done lens)) j 0 ≡ at_j = len_in lens done (done + c.min-count.result - done) j (omega arith) in
    let blocks : blocks_before_last m ≡ (at_j - 1) / 64 = ap (λ (k : ℕ). (k - 1) / 64) size in
    let long : j < length (take (done + c.min-count.result - done) (drop done lens)) =
    omega (arith, length-take-le (done + c.min-count.result - done) (drop done lens), length-drop done lens) in
    let of_last = c.last_blocks-last.ensures in
    let fits : j < g.row.L = omega (arith, c.min-count.ensures) in
    let chunk : chunk_at (get_or c.neighbours-places.result j 0) c.as_flattened-bytes.result.now ≡ get_or slots (done + j) [] =
    ap (λ (k : ℕ). chunk_at k c.as_flattened-bytes.result.now) ((c.neighbours-places.ensures j fits).1 (omega arith))
    ∙ ap (chunk_at j) (c.as_flattened-bytes.ensures.value ∙ ap (flat_map (λ (x : List ℕ). x)) (take_rest slots done)) ∙ chunk_at_slot n slots lens done j are (omega (arith, are.few)) in
    let value = c.ended_values-ended.ensures.lanes j m fits (rw blocks (rw part at (of_last.most j long))) (record {
      blocks = λ k within'. ap (λ (x : List ℕ). block x k) chunk ∙ c.requires.filled (done + j) within k within';
      last_block = of_last.last j long ∙ ap (λ (k : ℕ). (k - 1) / 64) part ∙ sym blocks;
      in_last = of_last.rest j long ∙ ap (λ (k : ℕ). k - 64 * ((k - 1) / 64)) part ∙ sym (ap (λ (k : ℕ). k - 64 * ((k - 1) / 64)) size);
    }) in
    let short : length m ≤ 1024 = omega (arith, are.short (done + j) within) in
    let ended : c.output.result ≡ keyed_hash c.args.key.now m =
    c.output.ensures ∙ ap (flat_map (to_le_bytes w32)) (c.lane.ensures ∙ value ∙ sym (subtree_value-chunk (words_at 8 c.args.key.now) 54 0 m 8 short)) in
    record {
      size = length-set hashes (done + j) c.output.result ∙ inv.size;
      before = λ i h. get_or-set_other hashes (done + j) i c.output.result [] (λ e. omega arith) ∙ inv.before i h;
      hashes = λ i h. elim (cases_lt i j) [
        | inl less ↦ get_or-set_other hashes (done + j) (done + i) c.output.result [] (λ e. omega arith) ∙ inv.hashes i less
        | inr past ↦
            let here : i ≡ j = omega arith in
            rw here (get_or-set_same hashes (done + j) c.output.result [] (omega (arith, inv.size, are.few)) ∙ ended)
      ];
    }

pub returns-clause-hashes : goal.returns-clause-hashes
returns-clause-hashes g c = λ i low high.
    let j : ℕ = i - c.args.done in
    let place : c.args.done + j ≡ i = omega arith in
    rw place at (c.hashes.invariant.hashes j (omega arith))
