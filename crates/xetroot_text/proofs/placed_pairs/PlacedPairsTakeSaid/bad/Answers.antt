use Rattle.std.proofs.Common.{inl, inr}
use Rattle.xetroot_text.proofs.placed_pairs.PlacedPairsTakeSaid.bad.Goals as goal

pub returns : goal.returns
returns g c = λ before line (pairs, next, held, count, good) h. (
  pairs,
  next,
  good,
  elim h [
    | inl past ↦ inl past
    | inr nothing ↦ inr (inl nothing)
  ],
)
