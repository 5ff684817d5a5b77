use Rattle.std.proofs.Common.{◌+◌, ◌∙◌, arith, refl}
use Rattle.xet_chunker.specs.Gear.{gear_after}
use Rattle.xet_chunker.proofs.Cuts.Scanning.{passes_one, passes_then}
use Rattle.xet_chunker.proofs.gear.pass_fours.Goals as goal

pub fours-init : goal.fours-init
unfolding gear_after
fours-init c = record { fits = omega arith; count = omega arith; passed = refl; gear = refl }

pub fours-preserved : goal.fours-preserved
fours-preserved c =
    let xs = c.args.bytes.now in
    let i = c.fours.done in
    let r = c.next_four-a.result in
    let e = c.next_four-a.ensures in
    let room = c.fours-test.true in
    let one = passes_one c.fours.after r.0 i (i + 1) xs e.one refl (omega arith) c.if-a-lt-LOW_END.false in
    let two = passes_one r.0 r.1 (i + 1) (i + 2) xs e.two (omega arith) (omega arith) c.if-b-lt-LOW_END.false in
    let three = passes_one r.1 r.2 (i + 2) (i + 3) xs e.three (omega arith) (omega arith) c.if-c-lt-LOW_END.false in
    let four = passes_one r.2 r.3 (i + 3) (i + 4) xs e.four (omega arith) (omega arith) c.if-d-lt-LOW_END.false in
    let both = passes_then c.fours.after i r.0 (i + 1) r.1 (i + 2) 1 1 2 xs one two (omega arith) in
    let more = passes_then c.fours.after i r.1 (i + 2) r.2 (i + 3) 2 1 3 xs both three (omega arith) in
    let all = passes_then c.fours.after i r.2 (i + 3) r.3 (i + 4) 3 1 4 xs more four (omega arith) in
    record {
      fits = omega arith;
      count = let p = all.count in let q = c.fours.invariant.count in omega arith;
      gear = c.fours.invariant.gear ∙ all.gear;
      passed = all.passed c.args.gear c.fours.invariant.passed;
    }
