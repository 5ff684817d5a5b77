use Rattle.xetrange_text.proofs.Verifying.{answers-more}
use Rattle.xetrange_text.proofs.verify.verify.Goals as goal

pub returns-clause-sound : goal.returns-clause-sound
returns-clause-sound g c = λ file is_hash.
    let hash = c.args.file_hash.now in
    answers-more _ _ _ _ _ (λ text output verified. c.verified_bytes_are_those_of_the_file.ensures hash text output c.args.from c.args.to file verified is_hash)
    c.verify_in.ensures
