use Rattle.std.proofs.Common.{List, ap, subst, ◌∙◌}
use Rattle.upload_session.specs.Hashes.{Hash, hashes_of, AreBoth, Knows}
use Rattle.yurewha_c.proofs.session_saving.keep.Goals as goal

pub returns-in-Ok-keep_hashes-clause-kept : goal.returns-in-Ok-keep_hashes-clause-kept
returns-in-Ok-keep_hashes-clause-kept c = λ _.
    subst (λ (hashes : List Hash). (known all : List Hash) → Knows c.args.kept.now.session.kept known
    → AreBoth known hashes all → Knows c.keep_hashes.new.self.kept all)
    (ap hashes_of c.deref.ensures.value ∙ c.in-Ok.ensures) c.in-Ok-keep_hashes.ensures.learned
