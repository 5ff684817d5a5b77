use Rattle.std.proofs.lemmas.List.{map-id}
use Rattle.stable_points.proofs.search.find_stable_end.Goals as goal

pub returns-clause-last : goal.returns-clause-last
returns-clause-last c = rw (map-id c.args.nodes.now) at c.find_stable_end_of.ensures.last

pub returns-clause-boundary : goal.returns-clause-boundary
returns-clause-boundary c = rw (map-id c.args.nodes.now) at c.find_stable_end_of.ensures.boundary

pub returns-clause-none : goal.returns-clause-none
returns-clause-none c = rw (map-id c.args.nodes.now) at c.find_stable_end_of.ensures.none
