use Rattle.yurewha_c.proofs.roots.yurewha_find_stable_end.Goals as goal

pub returns-in-Some-clause-boundary : goal.returns-in-Some-clause-boundary
returns-in-Some-clause-boundary c = λ _. c.in-Some.ensures.boundary
