use Rattle.std.proofs.Common.{◌≡◌, take, drop, ap, ◌∙◌, arith, refl}
use Rattle.xet_chunker.specs.Gear.{gear_after}
use Rattle.xet_chunker.specs.Chunker.{Holds}
use Rattle.xet_chunker.proofs.Cuts.Taking.{ended_low, ended_most, goes_on}
use Rattle.xet_chunker.proofs.chunker.Chunker.next_boundary.Goals as goal

pub returns-then-count-looked-clause-end : goal.returns-then-count-looked-clause-end
unfolding Holds
returns-then-count-looked-clause-end c = λ at chunk rest h.
    let held = h.0 in
    let open_chunk = h.1 in
    let d = c.args.data.now in
    let s = c.min-skipped.result in
    let u = c.min-untested.result in
    let t = c.min-looked.result in
    let front : c.split_at-2.result.0.now ≡ take u (drop s d) = c.split_at-2.ensures.front ∙ ap (take u) c.split_at.ensures.back in
    let back : c.split_at-2.result.1.now ≡ drop u (drop s d) = c.split_at-2.ensures.back ∙ ap (drop u) c.split_at.ensures.back in
    ended_low s u t c.before_low-count.result.0 c.gear_after-gear.result c.args.self.now d c.split_at-3.result.0.now at chunk rest
    (record { small = omega arith; fits = omega arith; skips = λ some. omega arith; reads = λ some. omega arith })
    h
    (c.gear_after-gear.ensures ∙ ap (gear_after c.args.self.now.gear) front)
    (c.split_at-3.ensures.front ∙ ap (take t) back)
    c.before_low-count.ensures.count (omega arith) (omega arith) (omega arith) (omega arith)

pub returns-then-looked-room-clause-end : goal.returns-then-looked-room-clause-end
unfolding Holds
returns-then-looked-room-clause-end c = λ at chunk rest h.
    let d = c.args.data.now in
    let s = c.min-skipped.result in
    let u = c.min-untested.result in
    let t = c.min-looked.result in
    let held = h.0 in
    let open_chunk = h.1 in
    let front : c.split_at-2.result.0.now ≡ take u (drop s d) = c.split_at-2.ensures.front ∙ ap (take u) c.split_at.ensures.back in
    let back : c.split_at-2.result.1.now ≡ drop u (drop s d) = c.split_at-2.ensures.back ∙ ap (drop u) c.split_at.ensures.back in
    ended_most s u t c.before_low-count.result.0 c.gear_after-gear.result c.args.self.now d c.split_at-3.result.0.now at chunk rest
    (record { small = omega arith; fits = omega arith; skips = λ some. omega arith; reads = λ some. omega arith })
    h
    (c.gear_after-gear.ensures ∙ ap (gear_after c.args.self.now.gear) front)
    (c.split_at-3.ensures.front ∙ ap (take t) back)
    c.before_low-count.ensures.count (omega arith) (omega arith) (omega arith) (omega arith)

pub returns-clause-goes_on : goal.returns-clause-goes_on
unfolding Holds
returns-clause-goes_on c = λ chunk h.
    let d = c.args.data.now in
    let s = c.min-skipped.result in
    let u = c.min-untested.result in
    let t = c.min-looked.result in
    let held = h.0 in
    let open_chunk = h.1 in
    let front : c.split_at-2.result.0.now ≡ take u (drop s d) = c.split_at-2.ensures.front ∙ ap (take u) c.split_at.ensures.back in
    let back : c.split_at-2.result.1.now ≡ drop u (drop s d) = c.split_at-2.ensures.back ∙ ap (drop u) c.split_at.ensures.back in
    goes_on s u t c.before_low-count.result.0 c.gear_after-gear.result c.before_low-count.result.1 _ c.args.self.now d c.split_at-3.result.0.now chunk
    (record { small = omega arith; fits = omega arith; skips = λ some. omega arith; reads = λ some. omega arith })
    h
    (c.gear_after-gear.ensures ∙ ap (gear_after c.args.self.now.gear) front)
    (c.split_at-3.ensures.front ∙ ap (take t) back)
    c.before_low-count.ensures.count (omega arith) (omega arith) (c.before_low-count.ensures.gear (omega arith)) (omega arith) refl (omega arith)

pub returns-then-count-looked-clause-least : goal.returns-then-count-looked-clause-least
unfolding Holds
returns-then-count-looked-clause-least c = λ chunk h. let held = h.0 in omega arith

pub returns-then-looked-room-clause-least : goal.returns-then-looked-room-clause-least
unfolding Holds
returns-then-looked-room-clause-least c = λ chunk h. let held = h.0 in omega arith
