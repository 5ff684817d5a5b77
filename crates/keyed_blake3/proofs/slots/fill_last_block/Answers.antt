use Rattle.std.proofs.Common.{◌≡◌, ◌⊎◌, ℕ, ◌+◌, ◌-◌, ◌≤◌, List, ◌++◌, inl, inr, length, take, drop, replicate, sym, ap, ◌∙◌, arith, length-drop}
use Rattle.std.proofs.lemmas.Bool.{cases_lt}
use Rattle.std.proofs.lemmas.List.{length-replicate, take-append-drop, take-replicate}
use Rattle.std.proofs.lemmas.Slice.{drop-put_mid, take-put_mid}
use Rattle.keyed_blake3.specs.Blake3.{block}
use Rattle.keyed_blake3.proofs.Blake3.Messages.{block_filled}
use Rattle.keyed_blake3.proofs.slots.fill_last_block.Goals as goal
use borrow.Rule.Slice.PartMut.{put_mid}

pub returns-clause-filled : goal.returns-clause-filled
returns-clause-filled c = λ n within.
    let len = c.args.len in
    let slot : List ℕ = c.args.slot.now in
    let k : ℕ = c.min-end.result - len in
    let zeros : List ℕ = c.copy_from_slice.new.self in
    let least = c.min-end.ensures in
    let room : len + k ≤ length slot = omega (arith, c.told-slot) in
    let are : zeros ≡ replicate k 0 = c.copy_from_slice.ensures.after ∙ take-replicate k 64 0 (omega arith) in
    let size : length zeros ≡ k = ap length are ∙ length-replicate {A = ℕ} k 0 in
    let filled : List ℕ = put_mid len k slot zeros in
    let front : take (len + k) filled ≡ take len slot ++ replicate k 0 =
    take-put_mid len k slot zeros (len + k) (omega arith) (omega arith) ∙ ap (λ (x : List ℕ). take len slot ++ x) are in
    let back : drop (len + k) filled ≡ drop (len + k) slot = drop-put_mid len k slot zeros (len + k) (omega arith) (omega arith) size in
    let whole : filled ≡ (take len slot ++ replicate k 0) ++ drop (len + k) slot =
    sym (take-append-drop (len + k) filled) ∙ ap (λ (x : List ℕ). x ++ drop (len + k) filled) front
    ∙ ap (λ (x : List ℕ). (take len slot ++ replicate k 0) ++ x) back in
    let enough : (64 ≤ k) ⊎ (length (drop (len + k) slot) ≡ 0) = elim (cases_lt 1024 (len + 64)) [
      | inl more ↦ inr (omega (arith, length-drop (len + k) slot, c.told-slot))
      | inr less ↦ inl (omega arith)
    ] in
    ap (λ (x : List ℕ). block x n) whole ∙ block_filled (take len slot) (drop (len + k) slot) k n enough within
