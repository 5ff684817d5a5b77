use Rattle.std.proofs.Common.{◌++◌, ℕ, List, take, drop, sym, ap, subst, ◌∙◌, append_assoc}
use Rattle.std.proofs.lemmas.List.{take-append-drop, take_rest}
use Rattle.std.proofs.KnownBytes.{Appends-trans}
use Rattle.xet_hash.specs.HashedWrite.{HoldsWritten}
use Rattle.xet_hash.proofs.data_hash.hashed_write.HashedWriteWrite.write_all.Goals as goal

pub rest-preserved : goal.rest-preserved
rest-preserved g c =
    let inv = c.rest.invariant in
    let rest = c.rest.rest.now in
    let n = c.in_ok-n.n in (
      inv.0 ++ take n rest,
      inv.1 ∙ ap (λ (l : List ℕ). inv.0 ++ l) (sym (take-append-drop n rest)) ∙ sym (append_assoc inv.0 (take n rest) (drop n rest))
          ∙ ap (λ (l : List ℕ). (inv.0 ++ take n rest) ++ l) (sym (take_rest rest n)),
      Appends-trans _ _ _ inv.0 (take n rest) inv.2 c.in_ok-n.ensures.bytes,
      λ m holds. subst (HoldsWritten c.write_some.new.self) (append_assoc m inv.0 (take n rest)) (c.in_ok-n.ensures.message (m ++ inv.0) (inv.3 m holds)),
    )
