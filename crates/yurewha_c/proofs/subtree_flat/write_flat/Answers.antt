use Rattle.std.proofs.Common.{◌≡◌, ◌++◌, take, drop, ap, sym, ◌∙◌, arith}
use Rattle.xet_merkle.specs.Levels.{node_count}
use Rattle.xet_merkle.specs.FlatLevels.{right_nodes}
use Rattle.yurewha_c.specs.Chunks.{nodes_of}
use Rattle.yurewha_c.proofs.FlatLevels.{node_count-sides, rest_kept}
use Rattle.yurewha_c.proofs.subtree_flat.write_flat.Goals as goal

pub write_lefts-lefts-requires : goal.write_lefts-lefts-requires
write_lefts-lefts-requires c = omega (arith, node_count-sides c.args.subtree.now.levels)

pub write_rights-requires : goal.write_rights-requires
write_rights-requires c = omega (arith, node_count-sides c.args.subtree.now.levels)

pub returns-clause-written : goal.returns-clause-written
returns-clause-written c =
    let levels = c.args.subtree.now.levels in
    let all : c.write_rights.result ≡ node_count levels = omega (arith, node_count-sides levels) in
    record {
      counts_are = c.write_counts.ensures.written;
      nodes_are = ap (λ n. nodes_of (take n c.write_rights.new.nodes)) (sym all) ∙ c.write_rights.ensures.written
          ∙ ap (λ nodes. nodes ++ right_nodes levels) c.write_lefts-lefts.ensures.written;
    }

pub returns-clause-nodes_rest : goal.returns-clause-nodes_rest
returns-clause-nodes_rest c =
    let levels = c.args.subtree.now.levels in
    let all : c.write_rights.result ≡ node_count levels = omega (arith, node_count-sides levels) in
    ap (λ n. drop n c.write_rights.new.nodes) (sym all) ∙ c.write_rights.ensures.rest
    ∙ rest_kept c.write_lefts-lefts.result c.write_rights.result c.write_lefts-lefts.new.nodes c.args.nodes.now
    (omega (arith, node_count-sides levels)) c.write_lefts-lefts.ensures.rest
    ∙ ap (λ n. drop n c.args.nodes.now) all
