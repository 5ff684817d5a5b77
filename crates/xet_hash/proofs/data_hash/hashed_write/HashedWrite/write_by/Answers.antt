use Rattle.std.proofs.Common.{arith, append-nil, refl, sym, ap, subst, ◌∙◌, Err}
use Rattle.std.proofs.lemmas.Bool.{true≢false}
use Rattle.std.proofs.lemmas.Result.{err_from_is_err_and}
use Rattle.xet_hash.specs.Hash.{data_key}
use Rattle.xet_hash.specs.HashedWrite.{HoldsWritten, IsOneCall, inner_writer}
use Rattle.xet_hash.proofs.data_hash.hashed_write.HashedWrite.write_by.Goals as goal

pub returns-then-not-has_room-clause-one_call : goal.returns-then-not-has_room-clause-one_call
unfolding HoldsWritten
returns-then-not-has_room-clause-one_call g c = λ m holds room.
    absurd (true≢false (sym ((c.has_room.ensures.message data_key m holds).1 room) ∙ c.if-not-has_room.true))

pub returns-in_err-taken-clause-one_call : goal.returns-in_err-taken-clause-one_call
unfolding inner_writer
returns-in_err-taken-clause-one_call g c = λ m holds room.
    let p = err_from_is_err_and c.from_residual.result c.from_residual.ensures.1 in
    let one : IsOneCall g.F.FnOnce c.args.call c.args.self.now.writer c.args.slice.now (Err c.in_err-taken.field-0.0) c.call.new.arg2
    = record { writer = _; was = refl; bytes = _; whole = refl; left = _; met = c.in_err-taken.ensures; is = refl } in
    subst (λ answer. IsOneCall g.F.FnOnce c.args.call c.args.self.now.writer c.args.slice.now answer c.call.new.arg2) (sym (p.1 ∙ ap Err p.2)) one

pub returns-in_err-taken-clause-message : goal.returns-in_err-taken-clause-message
unfolding HoldsWritten
returns-in_err-taken-clause-message g c = λ m holds.
    let p = err_from_is_err_and c.from_residual.result c.from_residual.ensures.1 in
    rw (p.1, append-nil) holds

pub returns-in_err-taken-clause-full : goal.returns-in_err-taken-clause-full
unfolding HoldsWritten
returns-in_err-taken-clause-full g c = λ m holds full.
    let room = (c.has_room.ensures.message data_key m holds).0 c.if-not-has_room.false in
    absurd (omega (arith, room))

pub returns-clause-message : goal.returns-clause-message
unfolding HoldsWritten
returns-clause-message g c = λ m holds. c.update.ensures.message data_key m holds

pub returns-clause-full : goal.returns-clause-full
unfolding HoldsWritten
returns-clause-full g c = λ m holds full.
    let room = (c.has_room.ensures.message data_key m holds).0 c.if-not-has_room.false in
    absurd (omega (arith, room))
