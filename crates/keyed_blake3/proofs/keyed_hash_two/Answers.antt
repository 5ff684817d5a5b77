use Rattle.std.proofs.Common.{ℕ, List, sym, ap, ◌∙◌, arith}
use Rattle.std.specs.Int.{w32, to_le_bytes}
use Rattle.std.specs.List.{flat_map}
use Rattle.keyed_blake3.specs.Blake3.{chunk_value, keyed_hash, words_at}
use Rattle.keyed_blake3.proofs.Blake3.Blocks.{subtree_value-chunk}
use Rattle.keyed_blake3.proofs.keyed_hash_two.Goals as goal

pub returns-clause-first : goal.returns-clause-first
unfolding keyed_hash
returns-clause-first c =
    let m = c.args.first.now in
    c.output.ensures ∙ ap (flat_map (to_le_bytes w32))
    (c.two_chunk_values.ensures.first ∙ ap (λ (key : List ℕ). chunk_value key 0 m 8) c.words.ensures
    ∙ sym (subtree_value-chunk (words_at 8 c.args.key.now) 54 0 m 8 (omega arith)))

pub returns-clause-second : goal.returns-clause-second
unfolding keyed_hash
returns-clause-second c =
    let m = c.args.second.now in
    c.output-2.ensures ∙ ap (flat_map (to_le_bytes w32))
    (c.two_chunk_values.ensures.second ∙ ap (λ (key : List ℕ). chunk_value key 0 m 8) c.words.ensures
    ∙ sym (subtree_value-chunk (words_at 8 c.args.key.now) 54 0 m 8 (omega arith)))
