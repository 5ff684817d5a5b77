use Rattle.std.proofs.Common.{refl, sym, ap, ◌∙◌, []}
use Rattle.std.proofs.lemmas.List.{append-nil}
use Rattle.xet_chunker.specs.Cuts.{cuts_at, cuts_from}
use Rattle.xet_chunker.specs.Chunker.{Holds}
use Rattle.xet_chunker.proofs.chunker.Chunker.taken.Goals as goal

pub returns-clause-count : goal.returns-clause-count
unfolding Holds
returns-clause-count c = λ chunk h. h.0

pub returns-clause-last : goal.returns-clause-last
unfolding Holds cuts_from
returns-clause-last c = λ at chunk h. ap (cuts_at at) (sym (append-nil chunk)) ∙ h.2 at [] ∙ rw h.0 refl
