use Rattle.std.proofs.Common.{refl}
use Rattle.yurewha_c.proofs.SessionStatuses.{refused_status, done_status}
use Rattle.yurewha_c.proofs.session_state.yurewha_session_finish_with_salt.Goals as goal

pub returns-in-Ok-clause-file : goal.returns-in-Ok-clause-file
returns-in-Ok-clause-file c = λ _. rw (← c.in-Some.ensures.value, ← c.deref.ensures, c.of.ensures) c.in-Ok.ensures.file

pub returns-in-Ok-clause-placed : goal.returns-in-Ok-clause-placed
returns-in-Ok-clause-placed c = λ _. rw (← c.in-Some.ensures.value) (λ placed h. rw c.of.ensures (c.in-Ok.ensures.placed placed (rw c.deref.ensures h)))

pub returns-in-Ok-clause-status : goal.returns-in-Ok-clause-status
returns-in-Ok-clause-status c = rw (← c.in-Some.ensures.value, ← c.deref.ensures) (done_status _ _ (c.in-Ok.ensures.cover (λ wrong. cc)) c.in-Ok.ensures.whole)

pub returns-in-Err-clause-status : goal.returns-in-Err-clause-status
returns-in-Err-clause-status c = rw (← c.in-Some.ensures.value, ← c.deref.ensures) (refused_status _ c.in-Err.fault _ refl c.status_of_fault.ensures _ _ c.in-Err.ensures.errors
    c.in-Err.ensures.gap c.in-Err.ensures.cover c.in-Err.ensures.whole)
