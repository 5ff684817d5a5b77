use Rattle.std.proofs.Common.{◌++◌, ℕ, List, take, drop, sym, ap, ◌∙◌, append_assoc}
use Rattle.std.proofs.lemmas.List.{take-append-drop, take_rest}
use Rattle.std.proofs.KnownBytes.{Appends-trans}
use Rattle.line_io.proofs.devices.write_all.Goals as goal

pub rest-preserved : goal.rest-preserved
rest-preserved g c =
    let inv = c.rest.invariant in
    let rest = c.rest.rest.now in
    let n = c.in_ok-n.n in (
      inv.0 ++ take n rest,
      inv.1 ∙ ap (λ (l : List ℕ). inv.0 ++ l) (sym (take-append-drop n rest)) ∙ sym (append_assoc inv.0 (take n rest) (drop n rest))
          ∙ ap (λ (l : List ℕ). (inv.0 ++ take n rest) ++ l) (sym (take_rest rest n)),
      Appends-trans _ _ _ inv.0 (take n rest) inv.2 c.in_ok-n.ensures.bytes,
    )
