use Rattle.std.proofs.Common.{◌≡◌, ℕ, ◌+◌, ◌-◌, min, length, take, drop, ap, ◌∙◌, arith}
use Rattle.xet_chunker.specs.Gear.{gear_after}
use Rattle.xet_chunker.specs.Candidates.{Passed}
use Rattle.xet_chunker.specs.Steps.Scan.{before_low}
use Rattle.xet_chunker.proofs.Cuts.Finding.{first_in, none_in, passed_all, passed_first, ready_gear}
use Rattle.xet_chunker.proofs.candidates.CandidateFinder.next_candidate.Goals as goal

pub returns-then-count-rest-clause-none : goal.returns-then-count-rest-clause-none
unfolding Passed
returns-then-count-rest-clause-none c = λ part rest passed.
    let d = c.args.data.now in
    let u = c.min-unready.result in
    let k = c.before_low-count.result.0 in
    let g = c.gear_after.result in
    let tail : c.split_at.result.1.now ≡ drop u d = c.split_at.ensures.back in
    let size : length c.split_at.result.1.now ≡ length (drop u d) = ap length tail in
    let bound = c.before_low-count.ensures.fits in
    let a = c.saturating_sub.ensures in
    let b = c.min-unready.ensures in
    let eu : u ≡ min (63 - c.args.self.now.count) (length d) = omega arith in
    let eg : g ≡ ready_gear part d u = c.gear_after.ensures ∙ ap (gear_after c.args.self.now.gear) c.split_at.ensures.front ∙ ap (λ (f : ℕ). gear_after f (take u d)) passed.1 in
    let ek : k ≡ before_low g (drop u d) = c.before_low-count.ensures.count ∙ ap (before_low g) tail in
    none_in part d rest c.args.self.now.count u k g passed.0 eu eg ek (omega arith)

pub returns-then-count-rest-clause-all : goal.returns-then-count-rest-clause-all
unfolding Passed
returns-then-count-rest-clause-all c = λ part passed.
    let d = c.args.data.now in
    let u = c.min-unready.result in
    let k = c.before_low-count.result.0 in
    let g = c.gear_after.result in
    let tail : c.split_at.result.1.now ≡ drop u d = c.split_at.ensures.back in
    let size : length c.split_at.result.1.now ≡ length (drop u d) = ap length tail in
    let bound = c.before_low-count.ensures.fits in
    let a = c.saturating_sub.ensures in
    let b = c.min-unready.ensures in
    let eu : u ≡ min (63 - c.args.self.now.count) (length d) = omega arith in
    let eg : g ≡ ready_gear part d u = c.gear_after.ensures ∙ ap (gear_after c.args.self.now.gear) c.split_at.ensures.front ∙ ap (λ (f : ℕ). gear_after f (take u d)) passed.1 in
    let ek : k ≡ before_low g (drop u d) = c.before_low-count.ensures.count ∙ ap (before_low g) tail in
    passed_all part d c.args.self.now.count u g c.before_low-count.result.1 passed.0 eu eg
    (c.before_low-count.ensures.gear c.if-count-rest.true ∙ ap (gear_after g) tail)

pub returns-clause-first : goal.returns-clause-first
unfolding Passed
returns-clause-first c = λ part rest passed.
    let d = c.args.data.now in
    let u = c.min-unready.result in
    let k = c.before_low-count.result.0 in
    let g = c.gear_after.result in
    let tail : c.split_at.result.1.now ≡ drop u d = c.split_at.ensures.back in
    let size : length c.split_at.result.1.now ≡ length (drop u d) = ap length tail in
    let bound = c.before_low-count.ensures.fits in
    let a = c.saturating_sub.ensures in
    let b = c.min-unready.ensures in
    let eu : u ≡ min (63 - c.args.self.now.count) (length d) = omega arith in
    let eg : g ≡ ready_gear part d u = c.gear_after.ensures ∙ ap (gear_after c.args.self.now.gear) c.split_at.ensures.front ∙ ap (λ (f : ℕ). gear_after f (take u d)) passed.1 in
    let ek : k ≡ before_low g (drop u d) = c.before_low-count.ensures.count ∙ ap (before_low g) tail in
    first_in part d rest c.args.self.now.count u k g passed.0 eu eg ek (omega arith)

pub returns-clause-goes_on : goal.returns-clause-goes_on
unfolding Passed
returns-clause-goes_on c = λ part passed.
    let d = c.args.data.now in
    let u = c.min-unready.result in
    let k = c.before_low-count.result.0 in
    let g = c.gear_after.result in
    let tail : c.split_at.result.1.now ≡ drop u d = c.split_at.ensures.back in
    let size : length c.split_at.result.1.now ≡ length (drop u d) = ap length tail in
    let bound = c.before_low-count.ensures.fits in
    let a = c.saturating_sub.ensures in
    let b = c.min-unready.ensures in
    let eu : u ≡ min (63 - c.args.self.now.count) (length d) = omega arith in
    let eg : g ≡ ready_gear part d u = c.gear_after.ensures ∙ ap (gear_after c.args.self.now.gear) c.split_at.ensures.front ∙ ap (λ (f : ℕ). gear_after f (take u d)) passed.1 in
    let ek : k ≡ before_low g (drop u d) = c.before_low-count.ensures.count ∙ ap (before_low g) tail in
    passed_first part d c.args.self.now.count u k g c.before_low-count.result.1 passed.0 eu eg (omega arith)
    (c.before_low-count.ensures.low (omega arith) ∙ ap (λ l. gear_after g (take (k + 1) l)) tail)
