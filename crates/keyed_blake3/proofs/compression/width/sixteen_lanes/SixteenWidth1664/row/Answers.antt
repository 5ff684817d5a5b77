use Rattle.std.proofs.Common.{◌≡◌, ◌-◌, ◌++◌, List, ℕ, arith, drop, length, refl, take, ◌∙◌}
use Rattle.std.proofs.lemmas.List.{length-drop, take_all}
use Rattle.keyed_blake3.specs.Blake3.{words_at}
use Rattle.keyed_blake3.proofs.Blake3.FourRows.{length-eight_words, words_by_halves}
use Rattle.keyed_blake3.proofs.Blake3.Rows.{eight}
use Rattle.keyed_blake3.proofs.compression.width.sixteen_lanes.SixteenWidth1664.row.Goals as goal

pub returns : goal.returns
returns c =
    let bytes : List ℕ = c.args.bytes.now in
    let low : List ℕ = c.vector-low.result in
    let high : List ℕ = c.vector-high.result in
    let is_low : low ≡ words_at 8 bytes = c.vector-low.ensures ∙ c.row.ensures in
    let after : take (length bytes - 32) (drop 32 bytes) ≡ drop 32 bytes =
    take_all (length bytes - 32) (drop 32 bytes) (omega (arith, length-drop 32 bytes)) in
    let is_high : high ≡ words_at 8 (drop 32 bytes) = rw after at (c.vector-high.ensures ∙ c.row-2.ensures) in
    let size_low : length low ≡ 8 = rw is_low (length-eight_words bytes) in
    let size_high : length high ≡ 8 = rw is_high (length-eight_words (drop 32 bytes)) in
    let both : c.lanes_of.result ≡ low ++ high = c.lanes_of.ensures ∙ rw (eight low size_low, eight high size_high) refl in
    both ∙ rw (is_low, is_high) (words_by_halves bytes)
