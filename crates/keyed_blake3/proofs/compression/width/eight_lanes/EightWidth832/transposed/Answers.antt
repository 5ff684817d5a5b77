use Rattle.std.proofs.Common.{◌≡◌, ℕ, ◌<◌, List, [], get_or, length, arith}
use Rattle.std.proofs.lemmas.List.Elements.{All-get_or}
use Rattle.keyed_blake3.proofs.Blake3.Lanes.{words_of_rows}
use Rattle.keyed_blake3.proofs.Blake3.Rows.{eight}
use Rattle.keyed_blake3.proofs.compression.width.eight_lanes.EightWidth832.transposed.Goals as goal

pub returns-clause-lanes : goal.returns-clause-lanes
returns-clause-lanes c = λ full.
    let rows = c.args.rows.now in
    let size : length rows ≡ 8 = c.told-rows in
    let is_row : (i : ℕ) → i < 8 → length (get_or rows i []) ≡ 8 =
    λ i h. All-get_or (λ (row : List ℕ). length row ≡ 8) rows i [] (rw size h) full in
    rw (
      c.lanes_of.ensures,
      c.lanes_of-2.ensures,
      c.lanes_of-3.ensures,
      c.lanes_of-4.ensures,
      c.lanes_of-5.ensures,
      c.lanes_of-6.ensures,
      c.lanes_of-7.ensures,
      c.lanes_of-8.ensures,
      c.vector-a.ensures,
      c.vector-b.ensures,
      c.vector-c.ensures,
      c.vector-d.ensures,
      c.vector-e.ensures,
      c.vector-f.ensures,
      c.vector-g.ensures,
      c.vector-h.ensures,
      eight (get_or rows 0 []) (is_row 0 (omega arith)),
      eight (get_or rows 1 []) (is_row 1 (omega arith)),
      eight (get_or rows 2 []) (is_row 2 (omega arith)),
      eight (get_or rows 3 []) (is_row 3 (omega arith)),
      eight (get_or rows 4 []) (is_row 4 (omega arith)),
      eight (get_or rows 5 []) (is_row 5 (omega arith)),
      eight (get_or rows 6 []) (is_row 6 (omega arith)),
      eight (get_or rows 7 []) (is_row 7 (omega arith)),
    ) (words_of_rows 8 rows size full)
