use Rattle.std.proofs.Common.{◌≡◌, ℕ, ◌<◌, List, [], ◌∷◌, get_or, length, map, ◌∙◌, arith}
use Rattle.std.proofs.lemmas.List.Elements.{All-get_or}
use Rattle.std.specs.List.{range_with_len}
use Rattle.keyed_blake3.specs.Steps.Lanes.{AreFull}
use Rattle.keyed_blake3.specs.Steps.Transposition.{by_turns, by_twos, halves, quarters}
use Rattle.keyed_blake3.proofs.Blake3.Lanes.{words_of_rows}
use Rattle.keyed_blake3.proofs.Blake3.Rows.{sixteen}
use Rattle.keyed_blake3.proofs.Blake3.Turned.{columns, columns_full, columns_one_by_one, lanes_of_columns, step}
use Rattle.keyed_blake3.proofs.compression.width.sixteen_lanes.SixteenWidth1664.transposed.Goals as goal

pub returns : goal.returns
returns c =
    let rows = c.args.rows.now in
    let size : length rows ≡ 16 = c.told-rows in
    let word : ℕ → ℕ → ℕ = λ i k. get_or (get_or rows i []) k 0 in
    let turned : List (List ℕ) = c.lanes_of.result ∷ c.lanes_of-2.result ∷ c.lanes_of-3.result ∷ c.lanes_of-4.result ∷ c.lanes_of-5.result ∷ c.lanes_of-6.result ∷ c.lanes_of-7.result ∷ c.lanes_of-8.result ∷ c.lanes_of-9.result ∷ c.lanes_of-10.result ∷ c.lanes_of-11.result ∷ c.lanes_of-12.result ∷ c.lanes_of-13.result ∷ c.lanes_of-14.result ∷ c.lanes_of-15.result ∷ c.lanes_of-16.result ∷ [] in
    let is : AreFull 16 rows → turned ≡ columns word = λ full.
    let row : (i : ℕ) (x : List ℕ) → i < 16 → x ≡ get_or rows i [] → x ≡ map (word i) (range_with_len 0 16) =
    λ i x h same. same ∙ sixteen (get_or rows i []) (All-get_or (λ (w : List ℕ). length w ≡ 16) rows i [] (rw size h) full) in
    let ab0 = step halves 8 (row 0 c.vector.result (omega arith) c.vector.ensures) (row 4 c.vector-2.result (omega arith) c.vector-2.ensures) c.halves.ensures in
    let ab1 = step halves 8 (row 1 c.vector-3.result (omega arith) c.vector-3.ensures) (row 5 c.vector-4.result (omega arith) c.vector-4.ensures) c.halves-2.ensures in
    let ab2 = step halves 8 (row 2 c.vector-5.result (omega arith) c.vector-5.ensures) (row 6 c.vector-6.result (omega arith) c.vector-6.ensures) c.halves-3.ensures in
    let ab3 = step halves 8 (row 3 c.vector-7.result (omega arith) c.vector-7.ensures) (row 7 c.vector-8.result (omega arith) c.vector-8.ensures) c.halves-4.ensures in
    let cd0 = step halves 8 (row 8 c.vector-9.result (omega arith) c.vector-9.ensures) (row 12 c.vector-10.result (omega arith) c.vector-10.ensures) c.halves-5.ensures in
    let cd1 = step halves 8 (row 9 c.vector-11.result (omega arith) c.vector-11.ensures) (row 13 c.vector-12.result (omega arith) c.vector-12.ensures) c.halves-6.ensures in
    let cd2 = step halves 8 (row 10 c.vector-13.result (omega arith) c.vector-13.ensures) (row 14 c.vector-14.result (omega arith) c.vector-14.ensures) c.halves-7.ensures in
    let cd3 = step halves 8 (row 11 c.vector-15.result (omega arith) c.vector-15.ensures) (row 15 c.vector-16.result (omega arith) c.vector-16.ensures) c.halves-8.ensures in
    let t0 = step by_turns 2 ab0.0 ab1.0 c.by_turns.ensures in
    let t1 = step by_turns 2 ab2.0 ab3.0 c.by_turns-2.ensures in
    let t2 = step by_turns 2 cd0.0 cd1.0 c.by_turns-3.ensures in
    let t3 = step by_turns 2 cd2.0 cd3.0 c.by_turns-4.ensures in
    let t4 = step by_turns 2 ab0.1 ab1.1 c.by_turns-5.ensures in
    let t5 = step by_turns 2 ab2.1 ab3.1 c.by_turns-6.ensures in
    let t6 = step by_turns 2 cd0.1 cd1.1 c.by_turns-7.ensures in
    let t7 = step by_turns 2 cd2.1 cd3.1 c.by_turns-8.ensures in
    let u0 = step by_twos 2 t0.0 t1.0 c.by_twos.ensures in
    let u1 = step by_twos 2 t0.1 t1.1 c.by_twos-2.ensures in
    let u2 = step by_twos 2 t2.0 t3.0 c.by_twos-3.ensures in
    let u3 = step by_twos 2 t2.1 t3.1 c.by_twos-4.ensures in
    let u4 = step by_twos 2 t4.0 t5.0 c.by_twos-5.ensures in
    let u5 = step by_twos 2 t4.1 t5.1 c.by_twos-6.ensures in
    let u6 = step by_twos 2 t6.0 t7.0 c.by_twos-7.ensures in
    let u7 = step by_twos 2 t6.1 t7.1 c.by_twos-8.ensures in
    let r0 = step quarters 4 u0.0 u2.0 c.quarters.ensures in
    let r1 = step quarters 4 u0.1 u2.1 c.quarters-2.ensures in
    let r2 = step quarters 4 u1.0 u3.0 c.quarters-3.ensures in
    let r3 = step quarters 4 u1.1 u3.1 c.quarters-4.ensures in
    let r4 = step quarters 4 u4.0 u6.0 c.quarters-5.ensures in
    let r5 = step quarters 4 u4.1 u6.1 c.quarters-6.ensures in
    let r6 = step quarters 4 u5.0 u7.0 c.quarters-7.ensures in
    let r7 = step quarters 4 u5.1 u7.1 c.quarters-8.ensures in
    columns_one_by_one word _ _ _ _ _ _ _ _ _ _ _ _ _ _ _ _
    (c.lanes_of.ensures ∙ r0.0)
    (c.lanes_of-2.ensures ∙ r1.0)
    (c.lanes_of-3.ensures ∙ r2.0)
    (c.lanes_of-4.ensures ∙ r3.0)
    (c.lanes_of-5.ensures ∙ r0.1)
    (c.lanes_of-6.ensures ∙ r1.1)
    (c.lanes_of-7.ensures ∙ r2.1)
    (c.lanes_of-8.ensures ∙ r3.1)
    (c.lanes_of-9.ensures ∙ r4.0)
    (c.lanes_of-10.ensures ∙ r5.0)
    (c.lanes_of-11.ensures ∙ r6.0)
    (c.lanes_of-12.ensures ∙ r7.0)
    (c.lanes_of-13.ensures ∙ r4.1)
    (c.lanes_of-14.ensures ∙ r5.1)
    (c.lanes_of-15.ensures ∙ r6.1)
    (c.lanes_of-16.ensures ∙ r7.1) in
    record {
      full = λ full. columns_full word turned (is full);
      lanes = λ full. lanes_of_columns word turned (is full) ∙ words_of_rows 16 rows size full;
    }
