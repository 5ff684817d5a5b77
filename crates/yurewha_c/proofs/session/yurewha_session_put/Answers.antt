use Rattle.std.proofs.Common.{length}
use Rattle.std.specs.declared.alloc.Global.{Global}
use Rattle.upload_session.specs.Subtrees.{subtrees}
use Rattle.upload_session.proofs.Positions.{meet_overlaps}
use Rattle.yurewha_c.proofs.session.yurewha_session_put.Goals as goal

pub returns-in-Ok-clause-placed : goal.returns-in-Ok-clause-placed
returns-in-Ok-clause-placed c = λ _. rw (← c.in-Some.ensures.value, c.put.ensures) (λ placed h. c.in-Ok.ensures.placed placed (rw c.deref_mut.ensures.value h))

pub returns-in-Ok-clause-learned : goal.returns-in-Ok-clause-learned
returns-in-Ok-clause-learned c = λ _. rw (← c.in-Some.ensures.value, c.put.ensures)
    (λ some keeps known all knows both. c.in-Ok.ensures.learned some (rw c.deref_mut.ensures.value keeps) known all (rw c.deref_mut.ensures.value knows) both)

pub returns-in-Ok-clause-meets : goal.returns-in-Ok-clause-meets
returns-in-Ok-clause-meets c = rw (← c.in-Some.ensures.value)
    (λ placed h some. meet_overlaps {A = Global} subtrees _ placed c.args.first (length c.args.chunks.now) h some)

pub returns-in-Err-clause-meets : goal.returns-in-Err-clause-meets
returns-in-Err-clause-meets c = rw (← c.in-Some.ensures.value)
    (λ placed h some. meet_overlaps {A = Global} subtrees _ placed c.args.first (length c.args.chunks.now) h some)
