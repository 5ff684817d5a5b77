use Rattle.std.proofs.Common.{◌≡◌, ◌≤◌, ◌*◌, length, take}
use Rattle.xet_roots.specs.Roots.{group_text}
use Rattle.xet_roots.proofs.groups.write_text.Given as goal

-- the lines of the nodes so far are written
abbrev pub invariant-lines : goal.invariant-lines
invariant-lines l =
    (take l.end l.text ≡ group_text (take l.i l.group)) × (l.end ≤ 88 * l.i) × (length l.text ≡ 792)
