-- The first groups of a list, and of each list that begins with it.
use Rattle.std.proofs.Common.{◌≡◌, ℕ, ◌≤◌, List, ◌∷◌, ◌++◌, [], length, take, drop, sym, subst, ap, ◌∙◌, inl, inr, arith, append_assoc, length-drop, length-take}
use Rattle.std.proofs.lemmas.List.{take-append-drop, take-append-le, drop-append-le}
use Rattle.xet_roots.specs.Groups.{Node, IsFull, Groups}
use Rattle.xet_roots.specs.Steps.Scan.{IsFirstGroup, AreFirstGroups, StayFirstGroups}
use Rattle.xet_roots.proofs.Grouping.OneCutting.{Groups-push}

pub AreFirstGroups-more : (nodes : List Node) (groups : List (List Node)) (rest : List Node) (n : ℕ) → IsFirstGroup (take n rest) (drop n rest)
    → AreFirstGroups nodes groups rest → AreFirstGroups nodes (groups ++ take n rest ∷ []) (drop n rest)
AreFirstGroups-more nodes groups rest n first before = λ more cutting.
    let group = take n rest in
    let longer : Groups rest (group ∷ more) = subst (λ (l : List Node). Groups l (group ∷ more)) (take-append-drop n rest) (Groups-push group (drop n rest) more first cutting) in
    subst (Groups nodes) (sym (append_assoc groups (group ∷ []) more)) (before (group ∷ more) longer)

-- the first of nine nodes or more is the first group whatever follows them
IsFirstGroup-stays : (nodes more : List Node) (n : ℕ) → 9 ≤ length nodes → n ≤ length nodes → IsFirstGroup (take n nodes) (drop n nodes)
    → IsFirstGroup (take n (nodes ++ more)) (drop n (nodes ++ more))
IsFirstGroup-stays nodes more n nine within first =
    let few = first.is_group.at_most_nine in
    let len = length-take n nodes in
    let left = length-drop n nodes in
    let full : IsFull (take n nodes) = elim first.full [
      | inl none ↦
          let end = ap length none in
          record { at_least_three = omega arith; ends = inr (omega arith) }
      | inr full ↦ full
    ] in
    let same : IsFirstGroup (take n nodes) (drop n (nodes ++ more)) = record { is_group = first.is_group; full = inr full } in
    subst (λ (group : List Node). IsFirstGroup group (drop n (nodes ++ more))) (sym (take-append-le n nodes more within)) same

pub StayFirstGroups-more : (nodes : List Node) (groups : List (List Node)) (rest : List Node) (n : ℕ) → 9 ≤ length rest → n ≤ length rest
    → IsFirstGroup (take n rest) (drop n rest) → StayFirstGroups nodes groups rest → StayFirstGroups nodes (groups ++ take n rest ∷ []) (drop n rest)
StayFirstGroups-more nodes groups rest n nine within first before = λ more.
    rw (sym (take-append-le n rest more within), sym (drop-append-le n rest more within))
    (AreFirstGroups-more (nodes ++ more) groups (rest ++ more) n (IsFirstGroup-stays rest more n nine within first) (before more))

-- the first groups of a piece of a list are those of the list
pub AreFirstGroups-of_piece : (nodes piece more : List Node) (groups : List (List Node)) (n : ℕ) → n ≤ length piece → piece ++ more ≡ nodes
    → StayFirstGroups piece groups (drop n piece) → AreFirstGroups nodes groups (drop n nodes)
AreFirstGroups-of_piece nodes piece more groups n within joined stay =
    let rest : drop n piece ++ more ≡ drop n nodes = sym (drop-append-le n piece more within) ∙ ap (drop n) joined in
    rw (sym joined, drop-append-le n piece more within) (stay more)
