-- The flat lists of levels: one list of levels, and one of nodes between, for counts and nodes.
use Rattle.std.proofs.Common.{◌≡◌, ℕ, ◌+◌, ◌-◌, ◌≤◌, List, [], ◌∷◌, ◌++◌, length, map, take, drop, refl, sym, ap, subst, ◌∙◌, arith, append_assoc, append-nil, length-append, length-take}
use Rattle.std.proofs.lemmas.List.{take-append-drop, length-drop}
use Rattle.std.proofs.lemmas.List.Sums.{sum_by-cons}
use Rattle.xet_roots.specs.Groups.{Node}
use Rattle.level_nodes.specs.Level.{Level}
use Rattle.level_nodes.specs.FlatLevels.{left_nodes, right_nodes, flat_nodes, count_of, count_sum, IsFlat}

-- the first level's sides stand on the outside
pub outside : (level : Level) (levels : List Level) (between : List Node) →
    flat_nodes (level ∷ levels) between ≡ level.left ++ (flat_nodes levels between ++ level.right)
outside level levels between = simp append_assoc

-- ---- one level more, above the others

pub left_nodes-push : (levels : List Level) (level : Level) → left_nodes (levels ++ level ∷ []) ≡ left_nodes levels ++ level.left
left_nodes-push [] level = append-nil level.left
left_nodes-push (first ∷ levels) level =
    ap (λ (l : List Node). first.left ++ l) (left_nodes-push levels level) ∙ sym (append_assoc first.left (left_nodes levels) level.left)

right_nodes-push : (levels : List Level) (level : Level) → right_nodes (levels ++ level ∷ []) ≡ level.right ++ right_nodes levels
right_nodes-push [] level = sym (append-nil level.right)
right_nodes-push (first ∷ levels) level =
    ap (λ (l : List Node). l ++ first.right) (right_nodes-push levels level) ∙ append_assoc level.right (right_nodes levels) first.right

-- its sides are cut off the ends of the nodes between
pub flat_more : (nodes rest : List Node) (levels : List Level) (level : Level) (inner : List Node) →
    nodes ≡ flat_nodes levels rest → rest ≡ level.left ++ (inner ++ level.right) → nodes ≡ flat_nodes (levels ++ level ∷ []) inner
flat_more nodes rest levels level inner e cut =
    let front = left_nodes levels in
    let back = right_nodes levels in
    let apart : front ++ ((level.left ++ (inner ++ level.right)) ++ back) ≡ (front ++ level.left) ++ (inner ++ (level.right ++ back)) = simp append_assoc in
    e ∙ ap (flat_nodes levels) cut ∙ apart ∙ (λ i. sym (left_nodes-push levels level) i ++ (inner ++ sym (right_nodes-push levels level) i))

-- ---- one way to cut

-- fronts of the same length are the same, and so is what follows them
same_front : (a b c d : List Node) → length a ≡ length b → a ++ c ≡ b ++ d → (a ≡ b) × (c ≡ d)
same_front [] [] c d len e = (refl, e)
same_front [] (y ∷ b) c d len e = absurd (omega arith)
same_front (x ∷ a) [] c d len e = absurd (omega arith)
same_front (x ∷ a) (y ∷ b) c d len e =
    let heads : x ≡ y = cc in
    let tails : a ++ c ≡ b ++ d = cc in
    let rest = same_front a b c d (omega arith) tails in
    (λ i. heads i ∷ rest.0 i, rest.1)

same_parts : (a b : List Level) (between others : List Node) → map count_of a ≡ map count_of b → flat_nodes a between ≡ flat_nodes b others →
    (a ≡ b) × (between ≡ others)
same_parts [] [] between others counts e = (refl, sym (append-nil between) ∙ e ∙ append-nil others)
same_parts [] (t ∷ b) between others counts e = cc counts
same_parts (s ∷ a) [] between others counts e = cc counts
same_parts (s ∷ a) (t ∷ b) between others counts e =
    let head : count_of s ≡ count_of t = cc in
    let tail : map count_of a ≡ map count_of b = cc in
    let left_len : length s.left ≡ length t.left = ap (λ (n : ℕ × ℕ). n.0) head in
    let right_len : length s.right ≡ length t.right = ap (λ (n : ℕ × ℕ). n.1) head in
    let first = same_front s.left t.left (flat_nodes a between ++ s.right) (flat_nodes b others ++ t.right) left_len
    (sym (outside s a between) ∙ e ∙ outside t b others) in
    let len = ap length first.1 in
    let inner_len : length (flat_nodes a between) ≡ length (flat_nodes b others) =
    omega (arith, length-append (flat_nodes a between) s.right, length-append (flat_nodes b others) t.right) in
    let second = same_front (flat_nodes a between) (flat_nodes b others) s.right t.right inner_len first.1 in
    let rest = same_parts a b between others tail second.0 in
    (λ i. record { left = first.0 i; right = second.1 i } ∷ rest.0 i, rest.1)

pub one_flat : (counts : List (ℕ × ℕ)) (nodes : List Node) (a b : List Level) (between others : List Node) →
    IsFlat counts nodes a between → IsFlat counts nodes b others → (a ≡ b) × (between ≡ others)
one_flat counts nodes a b between others h k = same_parts a b between others (sym h.counts_are ∙ k.counts_are) (sym h.nodes_are ∙ k.nodes_are)

-- ---- a way to cut

-- what counts of at most as many nodes as there are cut
pub record Parts (counts : List (ℕ × ℕ)) (nodes : List Node) : Type 0 where
  pub levels : List Level
  pub between : List Node
  pub flat : IsFlat counts nodes levels between

pub some_flat : (counts : List (ℕ × ℕ)) (nodes : List Node) → count_sum counts ≤ length nodes → Parts counts nodes
some_flat [] nodes le = record { levels = []; between = nodes; flat = record { counts_are = refl; nodes_are = sym (append-nil nodes) } }
some_flat (count ∷ counts) nodes le =
    let sum = sum_by-cons (λ (c : ℕ × ℕ). c.0 + c.1) count counts in
    let after = drop count.0 nodes in
    let n = length after - count.1 in
    let inner = take n after in
    let level : Level = record { left = take count.0 nodes; right = drop n after } in
    let len_after = length-drop count.0 nodes in
    let len_left = length-take count.0 nodes in
    let len_inner = length-take n after in
    let len_right = length-drop n after in
    let rest = some_flat counts inner (omega arith) in
    let first : count.0 ≡ length level.left = omega arith in
    let second : count.1 ≡ length level.right = omega arith in
    let cut : nodes ≡ level.left ++ (inner ++ level.right) =
    sym (take-append-drop count.0 nodes) ∙ ap (λ (l : List Node). level.left ++ l) (sym (take-append-drop n after)) in
    record {
      levels = level ∷ rest.levels;
      between = rest.between;
      flat = record {
        counts_are = λ i. (first i, second i) ∷ rest.flat.counts_are i;
        nodes_are = cut ∙ ap (λ (l : List Node). level.left ++ (l ++ level.right)) rest.flat.nodes_are ∙ sym (outside level rest.levels rest.between);
      };
    }

-- ---- how many nodes are between

len_all : (levels : List Level) (between : List Node) → length (flat_nodes levels between) ≡ count_sum (map count_of levels) + length between
len_all [] between = ap length (append-nil between) ∙ omega arith
len_all (level ∷ levels) between =
    let sum = sum_by-cons (λ (c : ℕ × ℕ). c.0 + c.1) (count_of level) (map count_of levels) in
    let rest = len_all levels between in
    let all = ap length (outside level levels between) in
    omega (arith, length-append level.left (flat_nodes levels between ++ level.right), length-append (flat_nodes levels between) level.right)

pub IsFlat-length : (counts : List (ℕ × ℕ)) (nodes : List Node) (levels : List Level) (between : List Node) → IsFlat counts nodes levels between →
    length nodes ≡ count_sum counts + length between
IsFlat-length counts nodes levels between flat =
    ap length flat.nodes_are ∙ len_all levels between ∙ ap (λ (c : List (ℕ × ℕ)). count_sum c + length between) (sym flat.counts_are)

empty : (nodes : List Node) → length nodes ≡ 0 → nodes ≡ []
empty [] none = refl
empty (node ∷ nodes) none = absurd (omega arith)

-- counts that add up to the number of nodes leave none between
pub IsFlat-whole : (counts : List (ℕ × ℕ)) (nodes : List Node) (levels : List Level) (between : List Node) → count_sum counts ≡ length nodes →
    IsFlat counts nodes levels between → IsFlat counts nodes levels []
IsFlat-whole counts nodes levels between sum flat =
    let len = IsFlat-length counts nodes levels between flat in
    subst (IsFlat counts nodes levels) (empty between (omega arith)) flat
