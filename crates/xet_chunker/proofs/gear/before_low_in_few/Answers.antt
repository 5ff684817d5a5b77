use Rattle.std.proofs.Common.{ap, refl, get_or, ◌≡◌, true, false, sym, ◌∙◌, arith}
use Rattle.std.proofs.lemmas.Bool.{lt-ltb, le-ltb}
use Rattle.xet_chunker.specs.Gear.{gear_after, next_gear}
use Rattle.xet_chunker.specs.Cuts.{is_low}
use Rattle.xet_chunker.proofs.Cuts.Scanning.{taken_more, gear_more, gear_all, low_more, low_here, low_all}
use Rattle.xet_chunker.proofs.gear.before_low_in_few.Goals as goal

pub bytes-preserved : goal.bytes-preserved
bytes-preserved c =
    let is = c.next_gear-after.ensures in
    let high : is_low c.next_gear-after.result ≡ false = le-ltb _ _ c.if-after-lt-LOW_END.false in
    let count = low_more c.bytes.after c.args.bytes.now c.bytes.i (omega arith) (rw is at high) in
    record {
      count = rw is (c.bytes.invariant.count ∙ rw count (omega arith));
      passed = taken_more c.args.gear c.args.bytes.now c.bytes.i (omega arith) ∙ ap (λ g. next_gear g (get_or c.args.bytes.now c.bytes.i 0)) c.bytes.invariant.passed ∙ sym is;
      gear = rw is (c.bytes.invariant.gear ∙ gear_more c.bytes.after c.args.bytes.now c.bytes.i (omega arith));
    }

pub returns-then-after-lt-LOW_END-clause-count : goal.returns-then-after-lt-LOW_END-clause-count
returns-then-after-lt-LOW_END-clause-count c =
    let is = c.next_gear-after.ensures in
    let low : is_low c.next_gear-after.result ≡ true = lt-ltb _ _ c.if-after-lt-LOW_END.true in
    let count = low_here c.bytes.after c.args.bytes.now c.bytes.i (omega arith) (rw is at low) in
    omega arith

pub returns-clause-count : goal.returns-clause-count
returns-clause-count c =
    let count = low_all c.bytes.after c.args.bytes.now c.bytes.i (omega arith) in
    omega arith

pub returns-clause-gear : goal.returns-clause-gear
returns-clause-gear c = λ all. sym (c.bytes.invariant.gear ∙ gear_all c.bytes.after c.args.bytes.now c.bytes.i (omega arith))

pub returns-then-after-lt-LOW_END-clause-low : goal.returns-then-after-lt-LOW_END-clause-low
returns-then-after-lt-LOW_END-clause-low c = λ more.
    sym (taken_more c.args.gear c.args.bytes.now c.bytes.i (omega arith) ∙ ap (λ g. next_gear g (get_or c.args.bytes.now c.bytes.i 0)) c.bytes.invariant.passed ∙ sym c.next_gear-after.ensures)

pub bytes-init : goal.bytes-init
unfolding gear_after
bytes-init c = record { count = omega arith; passed = refl; gear = refl }
