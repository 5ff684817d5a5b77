use Rattle.std.proofs.Common.{◌≡◌, ℕ, ◌+◌, ◌-◌, ◌*◌, ◌/◌, ◌<◌, inl, inr, List, [], drop, get_or, arith, sym, ap, ◌∙◌}
use Rattle.std.proofs.lemmas.Bool.{cases_lt}
use Rattle.std.proofs.lemmas.List.{drop-drop, length-map}
use Rattle.std.proofs.Math.Nat.{mul-add, mul_assoc, mul_comm}
use Rattle.std.proofs.lemmas.List.FromFn.{fill_by_all, get_or-map-range_with_len}
use Rattle.std.specs.Int.{from_le_bytes, w32}
use Rattle.keyed_blake3.specs.Blake3.{block, words_at}
use Rattle.keyed_blake3.specs.Steps.Lanes.{chunk_at, lane}
use Rattle.keyed_blake3.proofs.Blake3.Blocks.{word_at_place}
use Rattle.keyed_blake3.proofs.Blake3.Lanes.{lane_at}
use Rattle.keyed_blake3.proofs.chunks.block_of_each.Goals as goal

pub rows-preserved : goal.rows-preserved
unfolding words_at
rows-preserved g c =
    let l : ℕ = g.row.L in
    let b : ℕ = g.row.B in
    let bytes = c.args.chunks.now in
    let i : ℕ = c.rows.i in
    let part = c.transposed.result in
    let in_bytes : b * i ≡ 4 * (l * i) = ap (λ (n : ℕ). n * i) g.met.W.Width.bytes_per_word ∙ mul_assoc 4 l i in
    let rows : (j : ℕ) → j < l → lane j part ≡ get_or c.row_of_each-rows.result j [] =
    λ j h. sym (get_or-map-range_with_len (λ j. lane j part) 0 l j j [] h (omega arith))
    ∙ ap (λ (rows : List (List ℕ)). get_or rows j []) (c.transposed.ensures.lanes c.row_of_each-rows.ensures.full) in
    record {
      size = c.put_columns.ensures.size;
      words = λ k below j h. let at_j : ℕ = get_or c.args.places.now j 0 in elim (cases_lt k (l * i)) [
        | inl before ↦ ap (λ (w : List ℕ). get_or w j 0) (c.put_columns.ensures.before k before) ∙ c.rows.invariant.words k before j h
        | inr past ↦
            let at : ℕ = k - l * i in
            let place : k ≡ l * i + at = omega arith in
            let within : at < l = omega (arith, mul-add l i 1) in
            ap (λ (w : List ℕ). get_or w j 0) (ap (λ (n : ℕ). get_or c.put_columns.new.words n []) place ∙ c.put_columns.ensures.columns at within)
            ∙ lane_at j part at ∙ ap (λ (row : List ℕ). get_or row at 0) (rows j h ∙ c.row_of_each-rows.ensures.rows j h)
            ∙ get_or-map-range_with_len (λ k. from_le_bytes w32 (drop (4 * k) (drop (1024 * at_j + (64 * c.args.n + b * i)) bytes))) 0 l at at 0 within (omega arith)
            ∙ ap (from_le_bytes w32) (drop-drop (4 * at) (1024 * at_j + (64 * c.args.n + b * i)) bytes ∙ ap (λ (n : ℕ). drop n bytes) (omega (arith, in_bytes, place)))
      ];
    }

pub returns : goal.returns
unfolding words_at
returns g c = λ j h.
    let bytes = c.args.chunks.now in
    let words = c.rows.words in
    let l : ℕ = g.row.L in
    let end : c.rows.i ≡ 16 / l = omega arith in
    let all : l * c.rows.i ≡ 16 = ap (λ (n : ℕ). l * n) end ∙ mul_comm l (16 / l) ∙ g.met.W.Width.lanes.2 in
    fill_by_all (λ (k : ℕ). from_le_bytes w32 (drop (4 * k) (block (chunk_at (get_or c.args.places.now j 0) bytes) c.args.n))) (lane j words) 16 0
    (length-map _ _ ∙ c.rows.invariant.size)
    (λ k fits. sym (lane_at j words k) ∙ c.rows.invariant.words k (omega (arith, all)) j h
    ∙ word_at_place bytes (get_or c.args.places.now j 0) c.args.n k (c.requires.places j h) c.requires.block fits)
