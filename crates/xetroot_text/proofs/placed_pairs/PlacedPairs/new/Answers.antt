use Rattle.std.proofs.Common.{[]}
use Rattle.xetroot_text.proofs.Placing.{StandForPlaced-none}
use Rattle.xetroot_text.proofs.placed_pairs.PlacedPairs.new.Goals as goal

pub invariant_of-result : goal.invariant_of-result
invariant_of-result g c = ([], StandForPlaced-none g.C.ChunkRange _ _ c.in_ok-new_in.ensures.empty.0 c.in_ok-new_in.ensures.empty.1 c.new.ensures.items)
