use Rattle.std.proofs.Common.{refl, ap, ◌∙◌}
use Rattle.upload_session.specs.Session.{meet}
use Rattle.yurewha_c.proofs.session.yurewha_session_taken.Goals as goal

pub returns : goal.returns
returns c = (
  c.put.ensures ∙ c.in-Some.ensures.value,
  rw (← c.in-Some.ensures.value) (
    refl,
    (
      c.taken.ensures.runs ∙ ap (λ kept. meet kept.session.runs c.args.position 1) c.deref.ensures,
      λ placed h. c.taken.ensures.placed placed (rw c.deref.ensures h),
    ),
  ),
)
