-- A range has at most one proof.
use Rattle.std.proofs.Common.{◌≡◌, ℕ, ◌+◌, ◌-◌, ◌<◌, ◌≤◌, List, [], ◌∷◌, ◌++◌, length, map, take, drop, refl, sym, ap, subst, ◌∙◌, arith, append_assoc, length-append, length-take, length-drop}
use Rattle.std.proofs.lemmas.List.{append_cancel_left, append_cancel_right}
use Rattle.xet_roots.specs.Groups.{Node}
use Rattle.xet_roots.specs.Roots.{parent}
use Rattle.xet_roots.proofs.Lists.Places.{meets}
use Rattle.xet_roots.proofs.Lists.Places.Meets.{same, earlier, later}
use Rattle.xet_roots.proofs.Grouping.OneCutting.{Groups-unique}
use Rattle.level_nodes.specs.Level.{Level}
use Rattle.range_proof.specs.RangeProof.{Proof, AreSides, IsProofOf, joined}
use Rattle.range_proof.specs.RangeProof.AreSides.{one_node, beside}
use Rattle.range_proof.proofs.Completeness.Climb.{joined-append, Groups-hit, hit_some, parents_some, last_of_groups}

length-joined : (groups : List (List Node)) (x : List Node) (gap : List (List Node)) →
    length (joined (groups ++ x ∷ gap)) ≡ length (joined groups) + length x + length (joined gap)
length-joined [] x gap = omega (arith, length-append x (joined gap))
length-joined (group ∷ groups) x gap =
    omega (arith, length-append group (joined (groups ++ x ∷ gap)), length-append group (joined groups), length-joined groups x gap)

-- the first of some groups is longer than the nodes that stand before the range in it, and the last than those after it
abbrev pub IsLongFirst : List (List Node) → List Node → Type 0
IsLongFirst groups left = (group : List Node) (more : List (List Node)) → groups ≡ group ∷ more → length left < length group

abbrev pub IsLongLast : List (List Node) → List Node → Type 0
IsLongLast groups right = (more : List (List Node)) (group : List Node) → groups ≡ more ++ group ∷ [] → length right < length group

-- the groups before a range are determined
same_before : (before rest before' rest' : List (List Node)) (left left' : List Node) → before ++ rest ≡ before' ++ rest' →
    joined before ++ left ≡ joined before' ++ left' → IsLongFirst rest left → IsLongFirst rest' left' → (before ≡ before') × (rest ≡ rest')
same_before before rest before' rest' left left' e front first first' =
    let len = ap length front in
    let one = length-append (joined before) left in
    let other = length-append (joined before') left' in
    elim (meets before rest before' rest' e) [
      | same p q ↦ (p, q)
      | earlier x gap p q ↦
          let long = first x (gap ++ rest') q in
          let more = ap (λ l. length (joined l)) p in
          absurd (omega (arith, length-joined before x gap))
      | later x gap p q ↦
          let long = first' x (gap ++ rest) q in
          let more = ap (λ l. length (joined l)) p in
          absurd (omega (arith, length-joined before' x gap))
    ]

-- the last of some groups that others follow
length-last : (groups : List (List Node)) (x : List Node) (gap : List (List Node)) (right : List Node) → IsLongLast (groups ++ x ∷ gap) right →
    length right < length (joined (x ∷ gap))
length-last groups x gap right last =
    let end = last_of_groups (x ∷ gap) (omega arith) in
    let long = last (groups ++ end.1.more) end.0 (ap (λ l. groups ++ l) end.1.parts ∙ sym (append_assoc groups end.1.more (end.0 ∷ []))) in
    let len = ap (λ l. length (joined l)) end.1.parts in
    omega (arith, length-joined end.1.more end.0 [])

-- the groups after a range are determined
same_after : (hit after hit' after' : List (List Node)) (right right' : List Node) → hit ++ after ≡ hit' ++ after' →
    right ++ joined after ≡ right' ++ joined after' → IsLongLast hit right → IsLongLast hit' right' → (hit ≡ hit') × (after ≡ after')
same_after hit after hit' after' right right' e back last last' =
    let len = ap length back in
    let one = length-append right (joined after) in
    let other = length-append right' (joined after') in
    elim (meets hit after hit' after' e) [
      | same p q ↦ (p, q)
      | earlier x gap p q ↦
          let long = length-last hit x gap right' (λ more group e. last' more group (p ∙ e)) in
          let more = ap (λ l. length (joined l)) q in
          absurd (omega (arith, ap length (joined-append (x ∷ gap) after'), length-append (joined (x ∷ gap)) (joined after')))
      | later x gap p q ↦
          let long = length-last hit' x gap right (λ more group e. last more group (p ∙ e)) in
          let more = ap (λ l. length (joined l)) q in
          absurd (omega (arith, ap length (joined-append (x ∷ gap) after), length-append (joined (x ∷ gap)) (joined after)))
    ]

-- the sides of a range are determined
first_of_rest : (hit after : List (List Node)) (left : List Node) → 0 < length hit → IsLongFirst hit left → IsLongFirst (hit ++ after) left
first_of_rest [] after left some first = absurd (omega arith)
first_of_rest (x ∷ hit) after left some first = λ group more e.
    let head : x ≡ group = cc in
    subst (λ (l : List Node). length left < length l) head (first x hit refl)

same_sides : {front range back : List Node} {levels levels' : List Level} → AreSides front range back levels → AreSides front range back levels' →
    0 < length range → levels ≡ levels'
same_sides (one_node few) (one_node few') some = refl
same_sides (one_node few) (beside before hit after two cutting is_front is_back first last up) some = absurd (omega arith)
same_sides (beside before hit after two cutting is_front is_back first last up) (one_node few) some = absurd (omega arith)
same_sides {front} {range} {back} (beside {left = left} {right = right} before hit after {levels = levels} two cutting is_front is_back first last up)
    (beside {left = left'} {right = right'} before' hit' after' {levels = levels'} two' cutting' is_front' is_back' first' last' up') some =
    let hit_cutting = Groups-hit front range back left right before hit after cutting is_front is_back in
    let hit_cutting' = Groups-hit front range back left' right' before' hit' after' cutting' is_front' is_back' in
    let groups_some = hit_some left range right hit hit_cutting some in
    let groups_some' = hit_some left' range right' hit' hit_cutting' some in
    let groups : before ++ hit ++ after ≡ before' ++ hit' ++ after' = Groups-unique _ _ _ cutting cutting' in
    let fronts = same_before before (hit ++ after) before' (hit' ++ after') left left'
    (sym (append_assoc before hit after) ∙ groups ∙ append_assoc before' hit' after')
    (sym is_front ∙ is_front') (first_of_rest hit after left groups_some first) (first_of_rest hit' after' left' groups_some' first') in
    let backs = same_after hit after hit' after' right right' fronts.1 (sym is_back ∙ is_back') last last' in
    let lefts : left ≡ left' = append_cancel_left (joined before) left left' (sym is_front ∙ is_front' ∙ ap (λ l. joined l ++ left') (sym fronts.0)) in
    let rights : right ≡ right' = append_cancel_right right right' (joined after) (sym is_back ∙ is_back' ∙ ap (λ l. right' ++ joined l) (sym backs.1)) in
    let up_same : AreSides (map parent before) (map parent hit) (map parent after) levels' =
    subst (λ (l : List (List Node)). AreSides (map parent l) (map parent hit) (map parent after) levels') (sym fronts.0)
    (subst (λ (l : List (List Node)). AreSides (map parent before') (map parent l) (map parent after) levels') (sym backs.0)
    (subst (λ (l : List (List Node)). AreSides (map parent before') (map parent hit') (map parent l) levels') (sym backs.1) up')) in
    let rest = same_sides up up_same (parents_some hit groups_some) in
    λ i. record { left = lefts i; right = rights i } ∷ rest i

-- the range has a node
pub range_some : (nodes : List Node) (first end : ℕ) → first < end → end ≤ length nodes → 0 < length (take (end - first) (drop first nodes))
range_some nodes first end some within = omega (arith, length-take (end - first) (drop first nodes), length-drop first nodes)

pub IsProofOf-unique : (nodes : List Node) (first end : ℕ) (proof other : Proof) → IsProofOf nodes first end proof → IsProofOf nodes first end other → proof ≡ other
IsProofOf-unique nodes first end proof other h k =
    let chunks : proof.chunks ≡ other.chunks = h.chunks ∙ sym k.chunks in
    let levels : proof.levels ≡ other.levels = same_sides h.sides k.sides (range_some nodes first end h.some h.within) in
    λ i. record { chunks = chunks i; levels = levels i }
