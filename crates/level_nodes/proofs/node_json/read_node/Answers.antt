use Rattle.std.proofs.Common.{rules}
use Rattle.level_nodes.proofs.node_json.read_node.Goals as goal

pub returns-clause-some : goal.returns-clause-some
returns-clause-some g = search rules
