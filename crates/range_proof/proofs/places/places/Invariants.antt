use Rattle.std.proofs.Common.{◌≡◌, ◌+◌, take}
use Rattle.xet_roots.specs.Roots.{total_size}
use Rattle.range_proof.specs.Steps.Places.{ArePlaces}
use Rattle.range_proof.proofs.places.places.Given as goal

abbrev pub invariant-nodes : goal.invariant-nodes
invariant-nodes g l = record {
  place : l.place ≡ l.start + total_size (take l.size-index l.nodes);
  so_far : ArePlaces l.start (take l.size-index l.nodes) l.places.items;
}
