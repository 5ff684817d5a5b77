use Rattle.std.proofs.lemmas.List.{map-id}
use Rattle.stable_points.proofs.search.last_stable.Goals as goal

pub returns-clause-last : goal.returns-clause-last
returns-clause-last c = rw (map-id c.args.nodes.now) at c.last_stable_of.ensures.last

pub returns-clause-none : goal.returns-clause-none
returns-clause-none c = rw (map-id c.args.nodes.now) at c.last_stable_of.ensures.none
