use Rattle.yurewha_c.proofs.session_state.yurewha_session_knows_each.Goals as goal

pub returns-clause-known : goal.returns-clause-known
returns-clause-known c = λ done. rw (← c.in-Some.ensures.value)
    (λ all knows. c.write_known_each-status.ensures.known done all (rw c.deref.ensures knows))
