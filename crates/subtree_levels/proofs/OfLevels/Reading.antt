-- Reading levels: the top, those below it, and an operand's first level.
use Rattle.std.proofs.Common.{◌≡◌, ℕ, zero, suc, ◌+◌, ◌<◌, ◌≤◌, List, [], ◌∷◌, ◌++◌, length, get_or, take, drop, refl, sym, ap, ◌∙◌, arith, append-nil}
use Rattle.std.proofs.lemmas.List.{take_more}
use Rattle.xet_roots.specs.Groups.{Node}
use Rattle.subtree_levels.specs.Levels.{Level, no_level, left_at, right_at, top_of, below_top, top_nodes, node_count}
use Rattle.subtree_levels.specs.Steps.LevelMerging.{operand, above}

-- ---- the top

pub top_of-last : (levels : List Level) (i : ℕ) (d : Level) → i + 1 ≡ length levels → get_or levels i d ≡ top_of levels
top_of-last [] i d last = absurd (omega arith)
top_of-last (top ∷ []) zero d last = refl
top_of-last (top ∷ []) (suc i) d last = absurd (omega arith)
top_of-last (level ∷ next ∷ levels) zero d last = absurd (omega arith)
top_of-last (level ∷ next ∷ levels) (suc i) d last = top_of-last (next ∷ levels) i d (omega arith)

pub below_top-take : (levels : List Level) (i : ℕ) → i + 1 ≡ length levels → take i levels ≡ below_top levels
below_top-take [] i last = absurd (omega arith)
below_top-take (top ∷ []) zero last = refl
below_top-take (top ∷ []) (suc i) last = absurd (omega arith)
below_top-take (level ∷ next ∷ levels) zero last = absurd (omega arith)
below_top-take (level ∷ next ∷ levels) (suc i) last = ap (λ (l : List Level). level ∷ l) (below_top-take (next ∷ levels) i (omega arith))

pub top_nodes-top : (levels : List Level) → top_nodes levels ≡ (top_of levels).left ++ (top_of levels).right
top_nodes-top [] = refl
top_nodes-top (top ∷ []) = refl
top_nodes-top (level ∷ next ∷ levels) = top_nodes-top (next ∷ levels)

pub top_nodes-left : (levels : List Level) → (top_of levels).right ≡ [] → (top_of levels).left ≡ top_nodes levels
top_nodes-left levels none =
    sym (append-nil (top_of levels).left) ∙ ap (λ (l : List Node). (top_of levels).left ++ l) (sym none) ∙ sym (top_nodes-top levels)

-- ---- operands

pub operand-some : (levels : List Level) → 0 < length levels → operand levels ≡ levels
operand-some [] some = absurd (omega arith)
operand-some (level ∷ levels) some = refl

pub operand-length : (levels : List Level) → 0 < length (operand levels)
operand-length [] = omega arith
operand-length (level ∷ levels) = omega arith

pub operand-more : (levels : List Level) → 1 < length (operand levels) → 1 < length levels
operand-more [] more = absurd (omega arith)
operand-more (level ∷ levels) more = more

pub operand-longer : (levels : List Level) → 1 < length levels → 1 < length (operand levels)
operand-longer [] more = absurd (omega arith)
operand-longer (level ∷ levels) more = more

pub operand-above : (levels : List Level) → operand (drop 1 levels) ≡ above (operand levels)
operand-above [] = refl
operand-above (top ∷ []) = refl
operand-above (level ∷ next ∷ levels) = refl

pub above-drop : (levels : List Level) → 1 < length levels → above levels ≡ drop 1 levels
above-drop [] more = absurd (omega arith)
above-drop (top ∷ []) more = absurd (omega arith)
above-drop (level ∷ next ∷ levels) more = refl

pub operand-one : (levels : List Level) → length levels ≤ 1 → (top : Level) × (operand levels ≡ top ∷ []) × (top.left ≡ left_at levels 0)
operand-one [] few = (no_level, refl, refl)
operand-one (top ∷ []) few = (top, refl, refl)
operand-one (level ∷ next ∷ levels) few = absurd (omega arith)

pub operand-right : (levels : List Level) → right_at levels 0 ≡ right_at (operand levels) 0
operand-right [] = refl
operand-right (level ∷ levels) = refl

pub operand-left : (levels : List Level) → left_at levels 0 ≡ left_at (operand levels) 0
operand-left [] = refl
operand-left (level ∷ levels) = refl

pub above-up : (levels : List Level) → 0 < length levels → above levels ≡ operand (drop 1 levels)
above-up [] some = absurd (omega arith)
above-up (top ∷ []) some = refl
above-up (level ∷ next ∷ levels) some = refl

pub operand-up : (levels : List Level) → operand (drop 1 (operand levels)) ≡ operand (drop 1 levels)
operand-up [] = refl
operand-up (level ∷ levels) = refl

pub up-short : (levels : List Level) → 0 < length levels → length (operand (drop 1 levels)) ≤ length levels
up-short [] some = absurd (omega arith)
up-short (top ∷ []) some = omega arith
up-short (level ∷ next ∷ levels) some = omega arith

pub up-shorter : (levels : List Level) → 1 < length levels → length (operand (drop 1 levels)) < length levels
up-shorter [] more = absurd (omega arith)
up-shorter (top ∷ []) more = absurd (omega arith)
up-shorter (level ∷ next ∷ levels) more = omega arith

-- ---- counts

node_count-append : (below above : List Level) → node_count (below ++ above) ≡ node_count below + node_count above
node_count-append [] above = omega arith
node_count-append (level ∷ below) above = let rest = node_count-append below above in omega arith

pub node_count-next : (levels : List Level) (i : ℕ) (d : Level) → i < length levels →
    node_count (take (i + 1) levels) ≡ node_count (take i levels) + (length (get_or levels i d).left + length (get_or levels i d).right)
node_count-next levels i d within =
    let one = node_count-append (take i levels) (get_or levels i d ∷ []) in
    let all = ap node_count (take_more levels i d within) in
    omega arith

pub node_count-take : (levels : List Level) (i : ℕ) → node_count (take i levels) ≤ node_count levels
node_count-take [] zero = omega arith
node_count-take [] (suc i) = omega arith
node_count-take (level ∷ levels) zero = omega arith
node_count-take (level ∷ levels) (suc i) = let rest = node_count-take levels i in omega arith
