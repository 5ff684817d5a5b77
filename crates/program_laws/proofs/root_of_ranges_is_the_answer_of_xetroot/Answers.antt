use Rattle.program_laws.proofs.root_of_ranges_is_the_answer_of_xetroot.Goals as goal

pub returns : goal.returns
returns c = λ text output input pieces cut within inputs answer.
    let of = c.however_it_was_cut.ensures in
    let quiet = of.no_positions text output input pieces cut within inputs answer in
    (c.texts_without_positions_keep_their_answers.ensures.answer text output quiet).1 (of.answer text output input pieces cut within inputs answer)
