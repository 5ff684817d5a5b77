use Rattle.std.proofs.Common.{arith, sym, subst}
use Rattle.std.proofs.lemmas.Grind.{common_steps}
use Rattle.xetroot_text.specs.Steps.PlacedPairs.{StandForPlaced}
use Rattle.xetroot_text.proofs.Placing.{StandForPlaced-free, StandForPlaced-total}
use Rattle.xetroot_text.proofs.placed_pairs.PlacedPairs.end_range.Goals as goal

pub place-requires-clause-free : goal.place-requires-clause-free
place-requires-clause-free g c =
    let inside = c.self.inside in
    let (pairs, hold) = c.self.invariant in
    let range = sym c.deref.ensures.value in
    let held = subst (λ l. StandForPlaced g.C.ChunkRange inside.session l inside.first inside.next inside.total pairs) range hold in
    StandForPlaced-free g.C.ChunkRange inside.session c.deref.result.now inside.first inside.next inside.total pairs held (grind (arith, common_steps))

pub place-requires-clause-positions : goal.place-requires-clause-positions
place-requires-clause-positions g c =
    let inside = c.self.inside in
    let (pairs, hold) = c.self.invariant in
    let range = sym c.deref.ensures.value in
    let held = subst (λ l. StandForPlaced g.C.ChunkRange inside.session l inside.first inside.next inside.total pairs) range hold in
    omega (arith, held.adjacent, held.low)

pub place-requires-clause-sizes : goal.place-requires-clause-sizes
place-requires-clause-sizes g c =
    let inside = c.self.inside in
    let (pairs, hold) = c.self.invariant in
    let range = sym c.deref.ensures.value in
    let held = subst (λ l. StandForPlaced g.C.ChunkRange inside.session l inside.first inside.next inside.total pairs) range hold in
    StandForPlaced-total g.C.ChunkRange inside.session c.deref.result.now inside.first inside.next inside.total pairs held (grind (arith, common_steps))
