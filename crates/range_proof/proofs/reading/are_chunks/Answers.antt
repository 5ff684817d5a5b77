use Rattle.std.proofs.Common.{length, refl, sym, ◌∙◌, arith}
use Rattle.std.proofs.lemmas.Bool.{false≢true}
use Rattle.std.proofs.lemmas.Bool.Decides.{Decides-eqb}
use Rattle.range_proof.proofs.ReadingOf.{IsReadSoFar-none, IsReadSoFar-more, none_if_short, none_if_other, all_chunks, nothing_left}
use Rattle.range_proof.proofs.reading.are_chunks.Goals as goal

pub chunks-init : goal.chunks-init
chunks-init c = IsReadSoFar-none c.args.nodes.now c.args.data.now c.args.data.now refl

pub returns-then-rest-node : goal.returns-then-rest-node
returns-then-rest-node c = (
  λ e. absurd (false≢true e),
  λ found. absurd (none_if_short c.args.nodes.now c.args.data.now c.chunks.rest.now c.chunks.node-index c.node-item.result c.chunks-test.true c.node-item.is
      c.chunks.invariant (omega arith) found.0 found.1),
)

pub returns-then-not-is_chunk : goal.returns-then-not-is_chunk
returns-then-not-is_chunk c = (
  λ e. absurd (false≢true e),
  λ found. absurd (none_if_other c.args.nodes.now c.args.data.now c.chunks.rest.now c.split_at.result.0.now c.split_at.result.1.now c.chunks.node-index
      c.node-item.result c.chunks-test.true c.node-item.is c.chunks.invariant (omega arith) c.split_at.ensures.front
      (λ same. false≢true (c.if-not-is_chunk.ensures.1 same)) found.0 found.1),
)

pub chunks-preserved : goal.chunks-preserved
chunks-preserved c =
    IsReadSoFar-more c.args.nodes.now c.args.data.now c.chunks.rest.now c.split_at.result.0.now c.split_at.result.1.now c.chunks.node-index
    c.node-item.result c.chunks-test.true c.node-item.is c.chunks.invariant (omega arith) c.split_at.ensures.front c.split_at.ensures.back
    (c.if-not-is_chunk.ensures.0 refl)

pub returns : goal.returns
returns c = (
  λ e. all_chunks c.args.nodes.now c.args.data.now c.chunks.rest.now c.chunks.node-index c.chunks-test.false
      ((Decides-eqb (length c.chunks.rest.now) 0).0 (sym c.is_empty.ensures ∙ e)) c.chunks.invariant,
  λ found. c.is_empty.ensures ∙ (Decides-eqb (length c.chunks.rest.now) 0).1
      (nothing_left c.args.nodes.now c.args.data.now c.chunks.rest.now c.chunks.node-index c.chunks-test.false c.chunks.invariant found.0 found.1),
)
