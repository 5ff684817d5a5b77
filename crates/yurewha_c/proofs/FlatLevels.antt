-- The flat lists of levels, as they grow level by level.
use Rattle.std.proofs.Common.{◌≡◌, ℕ, zero, suc, ◌+◌, ◌-◌, ◌<◌, ◌≤◌, List, [], ◌∷◌, ◌++◌, length, take, drop, map, refl, sym, ap, ◌∙◌, arith, append_assoc, append-nil, length-append}
use Rattle.std.proofs.lemmas.List.{drop-drop}
use Rattle.xet_merkle.specs.Groups.{Node}
use Rattle.xet_merkle.specs.Levels.{Level, left_at, right_at, node_count}
use Rattle.xet_merkle.specs.FlatLevels.{left_nodes, right_nodes, count_of}

-- the left nodes of one level more
pub left_nodes-more : (levels : List Level) (i : ℕ) →
    left_nodes (take (suc i) levels) ≡ left_nodes (take i levels) ++ left_at levels i
left_nodes-more [] zero = refl
left_nodes-more [] (suc i) = refl
left_nodes-more (level ∷ levels) zero = append-nil level.left
left_nodes-more (level ∷ levels) (suc i) =
    ap (λ (nodes : List Node). level.left ++ nodes) (left_nodes-more levels i)
    ∙ sym (append_assoc level.left (left_nodes (take i levels)) (left_at levels i))

-- the right nodes of one level more, down from the top
pub right_nodes-more : (levels : List Level) (i : ℕ) →
    right_nodes (drop i levels) ≡ right_nodes (drop (suc i) levels) ++ right_at levels i
right_nodes-more [] zero = refl
right_nodes-more [] (suc i) = refl
right_nodes-more (level ∷ levels) zero = refl
right_nodes-more (level ∷ levels) (suc i) = right_nodes-more levels i

-- the counts of one level more
pub counts-more : (levels : List Level) (i : ℕ) → i < length levels →
    map count_of (take (suc i) levels) ≡ map count_of (take i levels) ++ (length (left_at levels i), length (right_at levels i)) ∷ []
counts-more [] i lt = absurd (omega arith)
counts-more (level ∷ levels) zero lt = refl
counts-more (level ∷ levels) (suc i) lt = ap (λ (counts : List (ℕ × ℕ)). count_of level ∷ counts) (counts-more levels i (omega arith))

-- some levels have no more left nodes, and no more right nodes, than all
pub lefts_within : (levels : List Level) (i : ℕ) → length (left_nodes (take i levels)) ≤ length (left_nodes levels)
lefts_within [] zero = omega arith
lefts_within [] (suc i) = omega arith
lefts_within (level ∷ levels) zero = omega arith
lefts_within (level ∷ levels) (suc i) =
    let rest = lefts_within levels i in
    omega (arith, length-append level.left (left_nodes (take i levels)), length-append level.left (left_nodes levels))

pub rights_within : (levels : List Level) (i : ℕ) → length (right_nodes (drop i levels)) ≤ length (right_nodes levels)
rights_within [] zero = omega arith
rights_within [] (suc i) = omega arith
rights_within (level ∷ levels) zero = omega arith
rights_within (level ∷ levels) (suc i) =
    let rest = rights_within levels i in
    omega (arith, length-append (right_nodes levels) level.right)

-- each node stands on a side
pub node_count-sides : (levels : List Level) → node_count levels ≡ length (left_nodes levels) + length (right_nodes levels)
node_count-sides [] = refl
node_count-sides (level ∷ levels) =
    let rest = node_count-sides levels in
    omega (arith, length-append level.left (left_nodes levels), length-append (right_nodes levels) level.right)

-- what isn't written to after a place isn't after a later one either
pub rest_kept : {X : Type 0} → (m n : ℕ) (new old : List X) → m ≤ n → drop m new ≡ drop m old → drop n new ≡ drop n old
rest_kept m n new old le rest =
    let sum : m + (n - m) ≡ n = omega arith in
    ap (λ (k : ℕ). drop k new) (sym sum) ∙ sym (drop-drop (n - m) m new) ∙ ap (drop (n - m)) rest
    ∙ drop-drop (n - m) m old ∙ ap (λ (k : ℕ). drop k old) sum
