use Rattle.std.proofs.Common.{refl}
use Rattle.keyed_blake3.specs.Steps.Rows.{value_in, words_in}
use Rattle.keyed_blake3.proofs.Blake3.Rows.{compress_by_steps}
use Rattle.keyed_blake3.proofs.compression.states.compress_all.Goals as goal

pub returns : goal.returns
returns g c = λ j counter block_len flags h d.
    compress_by_steps (value_in j c.args.h.now) (words_in j c.args.m.now) counter block_len flags _ _ _ _ _ _ _ _ _ _ _ _ _ _ _ _
    (c.first_state-v.ensures j counter block_len flags h d) refl (c.round-v.ensures j h) (c.permuted-m.ensures j h) (c.round-v-2.ensures j h) (c.permuted-m-2.ensures j h)
    (c.round-v-3.ensures j h) (c.permuted-m-3.ensures j h) (c.round-v-4.ensures j h) (c.permuted-m-4.ensures j h) (c.round-v-5.ensures j h) (c.permuted-m-5.ensures j h)
    (c.round-v-6.ensures j h) (c.permuted-m-6.ensures j h) (c.round-v-7.ensures j h) (c.folded.ensures j h)
