use Rattle.std.proofs.Common.{◌≡◌, ◌++◌, length, drop, arith, length-append, length-drop}
use Rattle.xet_roots.proofs.groups.put_text.Goals as goal

pub returns-clause-size : goal.returns-clause-size
returns-clause-size c =
    let text = c.write_text.new.text in
    let slot = c.args.slot.now in
    let whole : length (text ++ drop 792 slot) ≡ 1024 =
    omega (arith, length-append text (drop 792 slot), length-drop 792 slot, c.write_text.ensures.size) in
    whole
