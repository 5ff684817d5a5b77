use Rattle.std.proofs.Common.{◌≡◌, ℕ, ◌<◌, List, [], get_or, length, arith}
use Rattle.std.proofs.lemmas.List.Elements.{All-get_or}
use Rattle.keyed_blake3.proofs.Blake3.Lanes.{words_of_rows}
use Rattle.keyed_blake3.proofs.Blake3.Rows.{four}
use Rattle.keyed_blake3.proofs.compression.width.four_lanes.FourWidth416.transposed.Goals as goal

pub returns-clause-lanes : goal.returns-clause-lanes
returns-clause-lanes c = λ full.
    let rows = c.args.rows.now in
    let size : length rows ≡ 4 = c.told-rows in
    let is_row : (i : ℕ) → i < 4 → length (get_or rows i []) ≡ 4 =
    λ i h. All-get_or (λ (row : List ℕ). length row ≡ 4) rows i [] (rw size h) full in
    rw (
      c.lanes_of.ensures,
      c.lanes_of-2.ensures,
      c.lanes_of-3.ensures,
      c.lanes_of-4.ensures,
      c.vector-a.ensures,
      c.vector-b.ensures,
      c.vector-c.ensures,
      c.vector-d.ensures,
      four (get_or rows 0 []) (is_row 0 (omega arith)),
      four (get_or rows 1 []) (is_row 1 (omega arith)),
      four (get_or rows 2 []) (is_row 2 (omega arith)),
      four (get_or rows 3 []) (is_row 3 (omega arith)),
    ) (words_of_rows 4 rows size full)
