use Rattle.std.proofs.lemmas.List.{map-id}
use Rattle.stable_points.proofs.search.find_stable_start.Goals as goal

pub returns-clause-first : goal.returns-clause-first
returns-clause-first c = rw (map-id c.args.nodes.now) at c.find_stable_start_of.ensures.first

pub returns-clause-boundary : goal.returns-clause-boundary
returns-clause-boundary c = rw (map-id c.args.nodes.now) at c.find_stable_start_of.ensures.boundary

pub returns-clause-none : goal.returns-clause-none
returns-clause-none c = rw (map-id c.args.nodes.now) at c.find_stable_start_of.ensures.none
