use Rattle.std.proofs.Common.{length, refl, ap, ◌∙◌}
use Rattle.keyed_blake3.proofs.Blake3.LaneBytes.{length-words}
use Rattle.keyed_blake3.proofs.compression.in_step.word_row.Goals as goal

pub invariant_of-result : goal.invariant_of-result
invariant_of-result g c =
    let x = c.args.x.now in
    record {
      full = (
        ap length c.words_of.ensures ∙ length-words g.row.L x.w0,
        ap length c.words_of-2.ensures ∙ length-words g.row.L x.w1,
        ap length c.words_of-3.ensures ∙ length-words g.row.L x.w2,
        ap length c.words_of-4.ensures ∙ length-words g.row.L x.w3,
      );
    }

pub returns : goal.returns
returns g c = λ j. rw (c.words_of.ensures, c.words_of-2.ensures, c.words_of-3.ensures, c.words_of-4.ensures) refl
