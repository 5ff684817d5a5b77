use Rattle.std.proofs.Common.{refl, ap, ◌∙◌}
use Rattle.std.specs.declared.alloc.Global.{Global}
use Rattle.upload_session.proofs.Restoring.{sizes-subtrees}
use Rattle.yurewha_c.proofs.session_state.yurewha_session_total_size.Goals as goal

pub returns : goal.returns
returns c = (
  c.put.ensures ∙ c.in-Some.ensures.value,
  rw (← c.in-Some.ensures.value) (
    refl,
    (
      c.total_size.ensures.size ∙ ap (λ kept. kept.session.size) c.deref.ensures,
      λ placed h. c.total_size.ensures.placed (sizes-subtrees Global) placed (rw c.deref.ensures h),
    ),
  ),
)
