-- The sides of the levels, as they are read by the number of a level.
use Rattle.std.proofs.Common.{arith, ◌≡◌, ℕ, zero, suc, ◌+◌, ◌<◌, List, [], ◌∷◌, ◌++◌, length, get_or, map, take, drop, refl, sym, ap, ◌∙◌, append_assoc, append-nil}
use Rattle.std.proofs.lemmas.List.{drop_more, take_more}
use Rattle.xet_roots.specs.Groups.{Node}
use Rattle.level_nodes.specs.Level.{Level, left_at, right_at, no_level}
use Rattle.level_nodes.specs.FlatLevels.{left_nodes, right_nodes, count_of}

left_at-get_or : (levels : List Level) (i : ℕ) (d : Level) → i < length levels → left_at levels i ≡ (get_or levels i d).left
left_at-get_or [] i d within = absurd (omega (arith, within))
left_at-get_or (level ∷ levels) zero d within = refl
left_at-get_or (level ∷ levels) (suc i) d within = left_at-get_or levels i d (omega (arith, within))

right_at-get_or : (levels : List Level) (i : ℕ) (d : Level) → i < length levels → right_at levels i ≡ (get_or levels i d).right
right_at-get_or [] i d within = absurd (omega (arith, within))
right_at-get_or (level ∷ levels) zero d within = refl
right_at-get_or (level ∷ levels) (suc i) d within = right_at-get_or levels i d (omega (arith, within))

-- the counts of a level
pub counts_at : (levels : List Level) (i : ℕ) (left right : ℕ) (d : ℕ × ℕ) → i < length levels → left ≡ length (left_at levels i)
    → right ≡ length (right_at levels i) → (left, right) ≡ get_or (map count_of levels) i d
counts_at [] i left right d within left_is right_is = absurd (omega (arith, within))
counts_at (level ∷ levels) zero left right d within left_is right_is = λ k. (left_is k, right_is k)
counts_at (level ∷ levels) (suc i) left right d within left_is right_is = counts_at levels i left right d (omega (arith, within)) left_is right_is

-- a level's left nodes are the next ones from below
pub lefts_from : (levels : List Level) (i : ℕ) → i < length levels → left_nodes (drop i levels) ≡ left_at levels i ++ left_nodes (drop (i + 1) levels)
lefts_from levels i within =
    ap left_nodes (drop_more levels i no_level within)
    ∙ ap (λ (l : List Node). l ++ left_nodes (drop (i + 1) levels)) (sym (left_at-get_or levels i no_level within))

right_nodes-push : (levels : List Level) (level : Level) → right_nodes (levels ++ level ∷ []) ≡ level.right ++ right_nodes levels
right_nodes-push [] level = sym (append-nil level.right)
right_nodes-push (first ∷ levels) level =
    ap (λ (l : List Node). l ++ first.right) (right_nodes-push levels level) ∙ append_assoc level.right (right_nodes levels) first.right

-- a level's right nodes are the next ones from above
pub rights_below : (levels : List Level) (i : ℕ) → i < length levels → right_nodes (take (i + 1) levels) ≡ right_at levels i ++ right_nodes (take i levels)
rights_below levels i within =
    ap right_nodes (take_more levels i no_level within) ∙ right_nodes-push (take i levels) (get_or levels i no_level)
    ∙ ap (λ (l : List Node). l ++ right_nodes (take i levels)) (sym (right_at-get_or levels i no_level within))
