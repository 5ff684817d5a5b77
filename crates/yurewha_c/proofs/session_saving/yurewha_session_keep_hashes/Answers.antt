use Rattle.yurewha_c.proofs.session_saving.yurewha_session_keep_hashes.Goals as goal

pub returns-clause-kept : goal.returns-clause-kept
returns-clause-kept c = λ done. rw (← c.in-Some.ensures.value, c.put.ensures)
    (λ known all knows both. c.keep-status.ensures.kept done known all (rw c.deref_mut.ensures.value knows) both)
