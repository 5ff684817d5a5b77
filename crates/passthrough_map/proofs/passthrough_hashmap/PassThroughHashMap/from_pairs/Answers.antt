use Rattle.passthrough_map.proofs.Map.FiniteMap.{IsMapOf-put}
use Rattle.passthrough_map.proofs.passthrough_hashmap.PassThroughHashMap.from_pairs.Goals as goal

pub pairs-preserved-in_ok-insert : goal.pairs-preserved-in_ok-insert
pairs-preserved-in_ok-insert g c =
    let put = c.in_ok-insert.ensures in
    IsMapOf-put g.met.Key.Eq.laws c.pairs.yielded (c.in-Some.key, c.in-Some.value) c.pairs.map c.insert.new.self
    c.pairs.invariant put.sets put.puts put.map

pub pairs-preserved : goal.pairs-preserved
pairs-preserved g c =
    let put = c.in_ok-insert.ensures in
    IsMapOf-put g.met.Key.Eq.laws c.pairs.yielded (c.in-Some.key, c.in-Some.value) c.pairs.map c.insert.new.self
    c.pairs.invariant put.sets put.puts put.map

pub returns : goal.returns
returns g c = (
  c.into_iter-key-iterator.result,
  c.pairs.yielded,
  c.into_iter-key-iterator.ensures.into_iter_gives,
  (c.next.new.self, (c.pairs.key-iterator, c.pairs.yielded_by, c.in-None.ensures.steps)),
  c.pairs.invariant,
)
