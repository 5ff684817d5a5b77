use Rattle.hash_numbers.proofs.Numbers.{removed-next}
use Rattle.hash_numbers.proofs.index.remove_all.Goals as goal

pub hashes-preserved : goal.hashes-preserved
hashes-preserved g c =
    removed-next c.args.map.now c.hashes.map c.remove.new.self c.args.hashes.now c.hashes.hash-index c.hash-item.result
    c.hashes-test.true c.hash-item.is c.hashes.invariant c.remove.ensures.sets
