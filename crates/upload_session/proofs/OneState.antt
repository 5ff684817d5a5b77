-- Chunks tell the runs that stand for them.
use Rattle.std.proofs.Common.{arith, ◌≡◌, ◌+◌, ◌<◌, ◌≤◌, ℕ, true, false, List, [], ◌∷◌, ◌++◌, length, refl, sym, ap, subst, ◌∙◌}
use Rattle.std.specs.Prelude.{All}
use Rattle.std.proofs.lemmas.List.Elements.{All-head}
use Rattle.xet_roots.specs.Groups.{Node}
use Rattle.chunk_ranges.specs.declared.chunk_range.ChunkRange as chunk_range
use Rattle.upload_session.specs.declared.runs.Run.{Run}
use Rattle.upload_session.specs.Session.{Placed, PlacedRun, placed_from, AreFrom, HaveOneRange, StandFor}

abbrev head_or : {X : Type 0} → X → List X → X
head_or other [] = other
head_or other (x ∷ xs) = x

abbrev tail : {X : Type 0} → List X → List X
tail [] = []
tail (x ∷ xs) = xs

same_head : {X : Type 0} (x y : X) (xs ys : List X) → x ∷ xs ≡ y ∷ ys → x ≡ y
same_head x y xs ys is = ap (head_or x) is

same_tail : {X : Type 0} (x y : X) (xs ys : List X) → x ∷ xs ≡ y ∷ ys → xs ≡ ys
same_tail x y xs ys is = ap tail is

not_none : {X : Type 0} (x : X) (xs : List X) → [] ≡ x ∷ xs → ⊥
not_none x xs is = let long = ap length is in omega (arith, long)

-- a list begins with one run of adjacent chunks, after which a position is free
same-chunks : (first : ℕ) (chunks these : List Node) (others those : List Placed)
    → AreFrom (first + length chunks + 1) others → AreFrom (first + length these + 1) those
    → placed_from first chunks ++ others ≡ placed_from first these ++ those → (chunks ≡ these) × (others ≡ those)
same-chunks first [] [] others those far away is = (refl, is)
same-chunks first [] (chunk ∷ these) others those far away is =
    let begins = All-head (λ (p : Placed). first + 0 + 1 ≤ p.0) (first, chunk) (placed_from (first + 1) these ++ those) (subst (AreFrom (first + 0 + 1)) is far) in
    absurd (omega (arith, begins))
same-chunks first (chunk ∷ chunks) [] others those far away is =
    let begins = All-head (λ (p : Placed). first + 0 + 1 ≤ p.0) (first, chunk) (placed_from (first + 1) chunks ++ others) (subst (AreFrom (first + 0 + 1)) (sym is) away) in
    absurd (omega (arith, begins))
same-chunks first (chunk ∷ chunks) (this ∷ these) others those far away is =
    let rest = same-chunks (first + 1) chunks these others those
    (subst (λ n. AreFrom n others) {x = first + length (chunk ∷ chunks) + 1} {y = (first + 1) + length chunks + 1} (omega arith) far)
    (subst (λ n. AreFrom n those) {x = first + length (this ∷ these) + 1} {y = (first + 1) + length these + 1} (omega arith) away)
    (same_tail (first, chunk) (first, this) (placed_from (first + 1) chunks ++ others) (placed_from (first + 1) these ++ those) is) in
    let one : chunk ≡ this = ap (λ (p : Placed). p.1) (same_head (first, chunk) (first, this) (placed_from (first + 1) chunks ++ others) (placed_from (first + 1) these ++ those) is) in
    ((λ i. one i ∷ rest.0 i), rest.1)

-- where one begins
begins : (first other : ℕ) (chunks these : List Node) (others those : List Placed) → 0 < length chunks → 0 < length these
    → placed_from first chunks ++ others ≡ placed_from other these ++ those → first ≡ other
begins first other [] these others those none some is = absurd (omega (arith, none))
begins first other (chunk ∷ chunks) [] others those some none is = absurd (omega (arith, none))
begins first other (chunk ∷ chunks) (this ∷ these) others those _ _ is =
    ap (λ (p : Placed). p.0) (same_head (first, chunk) (other, this) (placed_from (first + 1) chunks ++ others) (placed_from (other + 1) these ++ those) is)

nothing : (first : ℕ) (chunks : List Node) (others : List Placed) → 0 < length chunks → [] ≡ placed_from first chunks ++ others → ⊥
nothing first [] others none is = omega (arith, none)
nothing first (chunk ∷ chunks) others some is = not_none (first, chunk) (placed_from (first + 1) chunks ++ others) is

pub same-runs : {C A : Type 0} (kind : chunk_range.Ghosts C A) → HaveOneRange kind → (runs others : List (PlacedRun C)) (placed : List Placed)
    → StandFor kind runs placed → StandFor kind others placed → runs ≡ others
same-runs kind one [] [] placed none also = refl
same-runs kind one [] (run ∷ runs) placed none (chunks, others, is, of_run, far, rest) =
    absurd (nothing run.0 chunks others of_run.0 (sym none ∙ is))
same-runs kind one (run ∷ runs) [] placed (chunks, others, is, of_run, far, rest) none =
    absurd (nothing run.0 chunks others of_run.0 (sym none ∙ is))
same-runs {C} kind one (run ∷ runs) (other ∷ more) placed (chunks, others, is, of_run, far, rest) (these, those, also, of_other, away, last) =
    let both = sym is ∙ also in
    let begin : run.0 ≡ other.0 = begins run.0 other.0 chunks these others those of_run.0 of_other.0 both in
    let same = same-chunks run.0 chunks these others those
    (subst (λ n. AreFrom n others) {x = run.1.end + 1} {y = run.0 + length chunks + 1} (let ends = of_run.1 in omega (arith, ends)) far)
    (subst (λ n. AreFrom n those) {x = other.1.end + 1} {y = run.0 + length these + 1} (let ends = of_other.1 in omega (arith, ends, begin)) away)
    (both ∙ ap (λ n. placed_from n these ++ those) (sym begin)) in
    let ends : run.1.end ≡ other.1.end = of_run.1 ∙ ap (λ n. n + length chunks) begin ∙ ap (λ l. other.0 + length l) same.0 ∙ sym of_other.1 in
    let range : run.1.range ≡ other.1.range =
    one run.1.range other.1.range chunks of_run.2 (subst (kind.stands other.1.range) (sym same.0) of_other.2)
    (of_run.3 ∙ sym of_other.3) (of_run.4 ∙ sym of_other.4) in
    let kept : run.1 ≡ other.1 = λ i. record { end = ends i; range = range i } in
    let all = same-runs kind one runs more others rest (subst (StandFor kind more) (sym same.1) last) in
    λ i. (begin i, kept i) ∷ all i
