use Rattle.std.proofs.Common.{◌≡◌, ℕ, ◌+◌, drop, List, sym, ap, ◌∙◌, arith, length-drop}
use Rattle.std.proofs.lemmas.List.{take_all}
use Rattle.keyed_blake3.specs.Blake3.{chunk_value}
use Rattle.keyed_blake3.specs.Steps.Lanes.{chunk_at, lane}
use Rattle.keyed_blake3.proofs.Blake3.Subtrees.{two_lanes}
use Rattle.keyed_blake3.proofs.subtrees.values_of_two.Goals as goal

pub returns-clause-lanes : goal.returns-clause-lanes
returns-clause-lanes g c =
    let key = c.args.key.now in
    let chunks = c.args.chunks.now in
    let first = c.args.first in
    let value : ℕ → List ℕ → List ℕ = λ i chunk. chunk_value key i chunk 0 in
    let back : c.split_at.result.1.now ≡ chunk_at 1 chunks =
    c.split_at.ensures.back ∙ sym (take_all 1024 (drop 1024 chunks) (omega (arith, length-drop 1024 chunks))) in
    two_lanes (λ (j : ℕ). lane j c.lanes_of_two.result ≡ chunk_value key (first + j) (chunk_at j chunks) 0)
    (c.lanes_of_two.ensures.first ∙ c.two_chunk_values.ensures.first ∙ ap (value first) c.split_at.ensures.front ∙ ap (λ (i : ℕ). value i (chunk_at 0 chunks)) (omega arith))
    (c.lanes_of_two.ensures.second ∙ c.two_chunk_values.ensures.second ∙ ap (value (first + 1)) back)
