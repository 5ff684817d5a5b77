use Rattle.std.proofs.Common.{refl, ap, ◌∙◌}
use Rattle.upload_session.specs.Hashes.{is_among}
use Rattle.yurewha_c.proofs.session_state.yurewha_session_knows.Goals as goal

pub returns : goal.returns
returns c = (
  c.put.ensures ∙ c.in-Some.ensures.value,
  rw (← c.in-Some.ensures.value) (
    refl,
    λ all knows. c.knows.ensures all (rw c.deref.ensures knows) ∙ ap (is_among all) c.value.ensures.value,
  ),
)
