use Rattle.std.proofs.Common.{arith}
use Rattle.verified_reader.proofs.Reading.{all_more, some_bytes}
use Rattle.verified_reader.proofs.kept_chunks.KeptChunks.first_missing.Goals as goal

pub chunks-init : goal.chunks-init
chunks-init g c = record { near = omega arith; all = λ q near below. absurd (omega (arith, near, below)) }

pub returns-in_default-clause-missing : goal.returns-in_default-clause-missing
returns-in_default-clause-missing g c =
    let so_far = c.chunks.invariant in
    record { begins = so_far.near; within = c.chunks-test.true; before = so_far.all; missing = c.in_default.ensures.none }

pub chunks-smaller : goal.chunks-smaller
chunks-smaller g c =
    let some = some_bytes c.args.self.now c.chunks.place c.in-Some.bytes.now c.in-Some.ensures.some in
    let sum = c.saturating_add-next.ensures in
    let within = c.chunks-test.true in
    let fits = c.ranges.to.fits in
    omega (arith, some, sum, within, fits)

pub chunks-preserved : goal.chunks-preserved
chunks-preserved g c =
    let so_far = c.chunks.invariant in
    let near = so_far.near in
    let sum = c.saturating_add-next.ensures in
    let within = c.chunks-test.true in
    let fits = c.ranges.to.fits in
    record {
      near = omega (arith, near, sum, within, fits);
      all = all_more c.args.self.now c.args.from c.chunks.place c.saturating_add-next.result c.in-Some.bytes.now so_far.all c.in-Some.ensures.some (omega (arith, sum));
    }
