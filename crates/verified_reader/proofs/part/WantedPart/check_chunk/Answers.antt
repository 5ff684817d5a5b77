use Rattle.std.proofs.Common.{arith, ◌≡◌, ◌-◌, length, take, refl, subst, inl, inr}
use Rattle.verified_reader.specs.Kept.{Chunk}
use Rattle.verified_reader.specs.Reader.{BeginsWith, Part}
use Rattle.verified_reader.proofs.InOrder.{at_none}
use Rattle.verified_reader.proofs.Parts.{no_chunk, other_chunk, too_short}
use Rattle.verified_reader.proofs.part.WantedPart.check_chunk.Goals as goal
use Rattle.verified_reader.proofs.part.WantedPart.check_chunk.Goals.{then-to-from-via-then-to-from, then-to-from-via-else-to-from+then-rest-to}

pub returns-in_err-from-clause-none : goal.returns-in_err-from-clause-none
returns-in_err-from-clause-none g c =
    let inside = c.self.inside in
    at_none c.from_residual.result
    (subst (λ (p : Part). ¬ (BeginsWith p.proof c.args.k c.args.rest.now)) c.self.view_is (no_chunk inside.range c.args.k c.args.rest.now c.in_err-from.ensures))

pub returns-in_err-to-clause-none : goal.returns-in_err-to-clause-none
returns-in_err-to-clause-none g c =
    let inside = c.self.inside in
    at_none c.from_residual-in_err-to.result
    (subst (λ (p : Part). ¬ (BeginsWith p.proof c.args.k c.args.rest.now)) c.self.view_is (no_chunk inside.range c.args.k c.args.rest.now c.in_err-to.ensures))

pub returns-in_err-begin-clause-none : goal.returns-in_err-begin-clause-none
returns-in_err-begin-clause-none g c =
    let inside = c.self.inside in
    at_none c.from_residual-in_err-begin.result
    (subst (λ (p : Part). ¬ (BeginsWith p.proof c.args.k c.args.rest.now)) c.self.view_is
    (other_chunk inside.range c.args.k c.in_ok-from.from c.in_ok-to.to c.args.rest.now c.in_ok-from.ensures.1 c.in_ok-to.ensures.1 c.in_err-begin.ensures.place))

pub returns-then-to-from-clause-none : goal.returns-then-to-from-clause-none
returns-then-to-from-clause-none g c =
    let inside = c.self.inside in
    subst (λ (p : Part). ¬ (BeginsWith p.proof c.args.k c.args.rest.now)) c.self.view_is
    (too_short inside.range c.args.k c.in_ok-from.from c.in_ok-to.to c.args.rest.now c.in_ok-from.ensures.1 c.in_ok-to.ensures.1
    (elim c.then-to-from.branch [
      | then-to-from-via-then-to-from w ↦ inl w.if-to-from.true
      | then-to-from-via-else-to-from+then-rest-to w ↦ inr w.if-rest-to.true
    ]))

pub invariant_of-self : goal.invariant_of-self
invariant_of-self g c =
    let inside = c.self.inside in
    let h = c.self.invariant in
    let chunk : Chunk = record { begin = c.in_ok-begin.begin; bytes = take (c.in_ok-to.to - c.in_ok-from.from) c.args.rest.now } in
    let less = c.if-k-num_chunks.false in
    let count : c.num_chunks.result ≡ length inside.range.chunks = c.num_chunks.ensures.chunks in
    record {
      begin = h.begin;
      in_order = h.in_order;
      end = h.end;
      shows = h.shows;
      within = omega (arith, less, count);
      shown = λ some. (chunk, record { number = c.args.k; shows = h.shows; place = c.in_ok-begin.ensures.place.1; sound = c.in_ok-begin.ensures.sound refl });
      all = h.all;
    }

pub invariant_of-self-2 : goal.invariant_of-self-2
invariant_of-self-2 g c =
    let inside = c.self.inside in
    let h = c.self.invariant in
    let chunk : Chunk = record { begin = c.in_ok-begin.begin; bytes = take (c.in_ok-to.to - c.in_ok-from.from) c.args.rest.now } in
    let less = c.if-k-num_chunks.false in
    let count : c.num_chunks.result ≡ length inside.range.chunks = c.num_chunks.ensures.chunks in
    record {
      begin = h.begin;
      in_order = h.in_order;
      end = h.end;
      shows = h.shows;
      within = omega (arith, less, count);
      shown = λ some. (chunk, record { number = c.args.k; shows = h.shows; place = c.in_ok-begin.ensures.place.1; sound = c.in_ok-begin.ensures.sound refl });
      all = h.all;
    }
