use Rattle.std.proofs.Common.{List, ℕ, bit_xor, refl, ap, ◌∙◌}
use Rattle.keyed_blake3.specs.Steps.LaneRows.{byte_row_at, row_at}
use Rattle.keyed_blake3.proofs.Blake3.InStep.{folded_by_steps}
use Rattle.keyed_blake3.proofs.compression.lanes.folded.Goals as goal
use lib.Lanes.{zip2}

pub returns-clause-lanes : goal.returns-clause-lanes
returns-clause-lanes g c = λ j h.
    let v = c.args.v.now in
    c.words_of_rows.ensures.lanes j h
    ∙ folded_by_steps (row_at j v.a) (row_at j v.b) (row_at j v.c) (byte_row_at g.row.L j v.d) (row_at j c.xor-x.result) (row_at j c.xor-y.result) refl refl refl refl
    (c.xor-x.ensures j h) (c.xor-y.ensures j h ∙ ap (λ (d : List ℕ). zip2 bit_xor (row_at j v.b) d) (c.word_row.ensures j))
