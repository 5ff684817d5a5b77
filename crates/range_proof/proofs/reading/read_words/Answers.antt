use Rattle.std.proofs.Common.{subst}
use Rattle.std.proofs.lemmas.List.{take_all}
use Rattle.std.proofs.lemmas.List.Elements.{All-more}
use Rattle.xet_hash.specs.Hash.{IsHash}
use Rattle.xet_roots.specs.Groups.{Node}
use Rattle.range_proof.specs.RangeProof.{AreHashes}
use Rattle.range_proof.proofs.reading.read_words.Goals as goal

pub nodes-preserved : goal.nodes-preserved
nodes-preserved c =
    All-more (λ (node : Node). IsHash node.0) c.args.nodes.now c.nodes.node-index c.node-item.result c.nodes-test.true c.nodes.invariant
    (subst (λ (node : Node). IsHash node.0) c.node-item.is c.words-words.ensures.fits)

pub returns : goal.returns
returns c = subst AreHashes (take_all c.nodes.node-index c.args.nodes.now c.nodes-test.false) c.nodes.invariant
