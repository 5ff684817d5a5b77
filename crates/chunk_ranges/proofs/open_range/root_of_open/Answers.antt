use Rattle.std.proofs.Common.{ℕ, ◌++◌, [], List, sym, subst}
use Rattle.std.specs.Prelude.{Option, IfSome, IfNone}
use Rattle.std.proofs.lemmas.List.{append-nil}
use Rattle.xet_roots.specs.Groups.{Node}
use Rattle.xet_roots.specs.Roots.{IsRoot}
use Rattle.chunk_ranges.proofs.open_range.root_of_open.Goals as goal
use Rattle.chunk_ranges.proofs.open_range.root_of_open.Goals.{in-Some+in_ok-join, in_default}

pub returns-clause-none : goal.returns-clause-none
returns-clause-none g c =
    let stands = g.C.ChunkRange.stands in
    let closed : stands c.match-range.all [] → IsRoot [] c.unwrap.result = λ all.
    subst (λ (root : Option (List ℕ)). IfSome root (IsRoot [])) c.unwrap.ensures
    (c.in_ok-root.ensures.root [] (c.in_ok-join-2.ensures.stands [] [] all c.in_ok-end.ensures.stands)) in
    elim c.match-range.branch [
      | in-Some+in_ok-join w ↦ subst (λ range. IfNone range (IsRoot [] c.unwrap.result)) (sym w.in-Some.is) tt
      | in_default w ↦
          subst (λ range. IfNone range (IsRoot [] c.unwrap.result)) (sym w.in_default.is)
          (closed (subst (λ all. stands all []) (sym w.all-is) c.in_ok-all.ensures.stands))
    ]

pub returns-clause-some : goal.returns-clause-some
returns-clause-some g c =
    let stands = g.C.ChunkRange.stands in
    let closed : (chunks : List Node) → stands c.match-range.all chunks → IsRoot chunks c.unwrap.result = λ chunks all.
    subst (λ l. IsRoot l c.unwrap.result) (append-nil chunks)
    (subst (λ (root : Option (List ℕ)). IfSome root (IsRoot (chunks ++ []))) c.unwrap.ensures
    (c.in_ok-root.ensures.root (chunks ++ []) (c.in_ok-join-2.ensures.stands chunks [] all c.in_ok-end.ensures.stands))) in
    elim c.match-range.branch [
      | in-Some+in_ok-join w ↦
          subst (λ range. IfSome range (λ range. (chunks : List Node) → stands range.now chunks → IsRoot chunks c.unwrap.result)) (sym w.in-Some.is)
          (λ chunks meant. closed chunks (subst (λ all. stands all chunks) (sym w.all-is) (w.in_ok-join.ensures.stands [] chunks c.in_ok-all.ensures.stands meant)))
      | in_default w ↦ subst (λ range. IfSome range (λ range. (chunks : List Node) → stands range.now chunks → IsRoot chunks c.unwrap.result)) (sym w.in_default.is) tt
    ]
