use Rattle.std.proofs.Common.{ℕ, ◌+◌, ◌*◌, List, drop, get_or, refl, ◌∙◌}
use Rattle.keyed_blake3.specs.Blake3.{words_at}
use Rattle.keyed_blake3.proofs.Blake3.FourRows.{beside-four, length-four_words}
use Rattle.keyed_blake3.proofs.four_chunks.quads_from.Goals as goal

pub returns-clause-quads : goal.returns-clause-quads
returns-clause-quads c = λ j h.
    let words : ℕ → List ℕ = λ i. words_at 4 (drop (1024 * get_or c.args.places.now i 0 + c.args.at) c.args.chunks.now) in
    beside-four j words c.beside.result h
    (c.beside.ensures.words ∙ rw (c.quad_from.ensures.words, c.quad_from-2.ensures.words, c.quad_from-3.ensures.words, c.quad_from-4.ensures.words) refl)
    (λ i. length-four_words (drop (1024 * get_or c.args.places.now i 0 + c.args.at) c.args.chunks.now))
