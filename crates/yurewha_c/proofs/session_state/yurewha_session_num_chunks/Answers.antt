use Rattle.std.proofs.Common.{refl, ap, ◌∙◌}
use Rattle.upload_session.specs.Gaps.{num_positions}
use Rattle.yurewha_c.proofs.session_state.yurewha_session_num_chunks.Goals as goal

pub returns : goal.returns
returns c = (
  c.put.ensures ∙ c.in-Some.ensures.value,
  rw (← c.in-Some.ensures.value) (
    refl,
    (
      c.num_chunks.ensures.runs ∙ ap (λ kept. num_positions kept.session.runs) c.deref.ensures,
      λ placed h. c.num_chunks.ensures.placed placed (rw c.deref.ensures h),
    ),
  ),
)
