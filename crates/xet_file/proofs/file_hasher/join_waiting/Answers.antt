use Rattle.std.proofs.Common.{◌≡◌, ℕ, ◌+◌, List, [], ◌++◌, refl, sym, ap, ◌∙◌, arith}
use Rattle.std.proofs.lemmas.List.{append-nil}
use Rattle.xet_roots.specs.Groups.{Node}
use Rattle.xet_roots.specs.Roots.{total_size}
use Rattle.xet_file.proofs.Growing.{total-append}
use Rattle.xet_file.proofs.file_hasher.join_waiting.Goals as goal

pub returns-clause-joined : goal.returns-clause-joined
returns-clause-joined g c = λ nodes stands total.
    let waiting : List Node = c.args.waiting.now.items in
    let value = c.deref.ensures.value in
    let sum = total-append nodes waiting in
    let back = c.in_ok-back.ensures.total in
    let joined = c.in_ok-join.ensures.total in
    let same = ap (λ (l : List Node). nodes ++ l) value in (
      nodes ++ c.deref.result.now,
      c.in_ok-join.ensures.stands nodes c.deref.result.now stands c.in_ok-back.ensures.stands,
      joined ∙ ap (λ (n : ℕ). n + g.C.ChunkRange.total c.in_ok-back.back) total ∙ ap (λ (n : ℕ). total_size nodes + n) back ∙ sym (total-append nodes c.deref.result.now),
      sym same ∙ sym (append-nil (nodes ++ c.deref.result.now)) ∙ ap (λ (l : List Node). (nodes ++ c.deref.result.now) ++ l) (sym c.clear.ensures.items),
    )
