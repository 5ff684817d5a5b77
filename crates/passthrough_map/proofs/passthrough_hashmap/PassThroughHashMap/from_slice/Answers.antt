use Rattle.std.proofs.Common.{sym}
use Rattle.passthrough_map.proofs.Map.FiniteMap.{IsMapOf-end, IsMapOf-next}
use Rattle.passthrough_map.proofs.passthrough_hashmap.PassThroughHashMap.from_slice.Goals as goal

pub loop-key-preserved : goal.loop-key-preserved
loop-key-preserved g c =
    let put = c.in_ok-insert.ensures in
    IsMapOf-next g.met.Key.Eq.laws c.args.pairs.now c.loop-key.key-index c.loop-key-item.result c.loop-key.map c.insert.new.self
    c.loop-key-test.true (sym c.loop-key-item.is) c.loop-key.invariant put.sets put.puts put.map

pub returns : goal.returns
returns g c =
    IsMapOf-end g.met.Key.Eq.laws c.args.pairs.now c.loop-key.key-index c.loop-key.map c.loop-key-test.false c.loop-key.invariant
