use Rattle.std.proofs.Common.{◌^◌, List, sym, subst, inl, inr}
use Rattle.std.proofs.lemmas.Bool.{cases_lt}
use Rattle.verified_reader.specs.Kept.{Chunk, IsKept}
use Rattle.verified_reader.proofs.InOrder.{within_64}
use Rattle.verified_reader.proofs.kept_chunks.KeptChunks.places_fit.Goals as goal

pub returns : goal.returns
returns g c = λ place kept. elim (cases_lt place (2 ^ 64)) [
  | inl fits ↦ fits
  | inr past ↦ absurd (within_64 c.self.inside.by_use.entries c.self.inside.uses.entries c.self.inside.next_use c.self.inside.size c.self.invariant place past
      (subst (λ (l : List Chunk). IsKept l place) (sym c.self.view_is) kept))
]
