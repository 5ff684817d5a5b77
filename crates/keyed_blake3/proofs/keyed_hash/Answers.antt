use Rattle.std.proofs.Common.{ℕ, List, sym, ap, ◌∙◌}
use Rattle.std.specs.Int.{w32, to_le_bytes}
use Rattle.std.specs.List.{flat_map}
use Rattle.keyed_blake3.specs.Blake3.{chunk_value, keyed_hash, words_at}
use Rattle.keyed_blake3.proofs.Blake3.Blocks.{subtree_value-chunk}
use Rattle.keyed_blake3.proofs.keyed_hash.Goals as goal

pub returns-then-data-le-CHUNK_LEN : goal.returns-then-data-le-CHUNK_LEN
unfolding keyed_hash
returns-then-data-le-CHUNK_LEN c =
    let m = c.args.data.now in
    c.output.ensures ∙ ap (flat_map (to_le_bytes w32))
    (c.chunk_value.ensures ∙ ap (λ (key : List ℕ). chunk_value key 0 m 8) c.words.ensures
    ∙ sym (subtree_value-chunk (words_at 8 c.args.key.now) 54 0 m 8 c.if-data-le-CHUNK_LEN.true))
