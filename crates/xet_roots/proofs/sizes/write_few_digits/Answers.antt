use Rattle.std.proofs.Common.{◌≡◌, ◌-◌, ◌++◌, length, take, ap, ◌∙◌, arith}
use Rattle.std.specs.Fmt.{decimal}
use Rattle.std.proofs.lemmas.List.{length-take-le}
use Rattle.xet_roots.proofs.Roots.Digits.{shifted_digits, take_past}
use Rattle.xet_roots.proofs.sizes.write_few_digits.Goals as goal

pub returns-clause-end : goal.returns-clause-end
returns-clause-end c =
    let z = c.zeros_of_eight-zeros.result in
    let e = c.zeros_of_eight-zeros.ensures in
    let fits = c.ranges.size.fits in
    let shown : take (8 - z) c.copy_from_slice.new.self ≡ decimal c.args.size =
    ap (take (8 - z)) (c.copy_from_slice.ensures.after ∙ c.to_le_bytes.ensures) ∙ rw c.eight_digits.ensures (shifted_digits z c.args.size e.few e.below e.least fits) in
    omega (arith, ap length shown, length-take-le (8 - z) c.copy_from_slice.new.self (omega (arith, c.copy_from_slice.ensures.len)), e.few)

pub returns-clause-written : goal.returns-clause-written
returns-clause-written c =
    let z = c.zeros_of_eight-zeros.result in
    let e = c.zeros_of_eight-zeros.ensures in
    let fits = c.ranges.size.fits in
    let shown : take (8 - z) c.copy_from_slice.new.self ≡ decimal c.args.size =
    ap (take (8 - z)) (c.copy_from_slice.ensures.after ∙ c.to_le_bytes.ensures) ∙ rw c.eight_digits.ensures (shifted_digits z c.args.size e.few e.below e.least fits) in
    take_past c.args.at (8 - z) c.args.text.now c.copy_from_slice.new.self _ (omega (arith, c.requires.room)) (omega (arith, c.copy_from_slice.ensures.len)) ∙ ap (λ l. take c.args.at c.args.text.now ++ l) shown
