use Rattle.std.proofs.Common.{List, ℕ, ap, ◌∙◌}
use Rattle.keyed_blake3.specs.Blake3.{compress, parent_value}
use Rattle.keyed_blake3.specs.Steps.Rows.{words_in}
use Rattle.keyed_blake3.proofs.subtrees.four_parent_values.Goals as goal

pub returns-clause-lanes : goal.returns-clause-lanes
unfolding parent_value
returns-clause-lanes g c = λ j h.
    c.lanes_of_values.ensures.lanes j h
    ∙ c.compress_all.ensures j 0 64 20 h (c.each-d.ensures.quads j h ∙ c.last_row.ensures.words)
    ∙ ap (λ (value : List ℕ). compress value (words_in j c.parent_blocks-m.result) 0 64 20) (c.four_times.ensures j h)
    ∙ ap (λ (words : List ℕ). compress c.args.key.now words 0 64 20) (c.parent_blocks-m.ensures j h)
