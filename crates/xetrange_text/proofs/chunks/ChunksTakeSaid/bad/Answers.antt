use Rattle.std.proofs.Common.{inl, inr}
use Rattle.xetrange_text.proofs.chunks.ChunksTakeSaid.bad.Goals as goal

pub returns : goal.returns
returns g c = λ before line (chunks, held, good) h. (
  chunks,
  good,
  elim h [
    | inl past ↦ inl past
    | inr nothing ↦ inr (nothing.0, nothing.2)
  ],
)
