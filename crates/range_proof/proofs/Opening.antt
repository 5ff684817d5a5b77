-- Rising from the chunks of a proof to its top, level by level.
use Rattle.std.proofs.Common.{◌≡◌, ℕ, ◌+◌, ◌<◌, ◌≤◌, List, [], ◌∷◌, ◌++◌, length, get_or, drop, map, Bool, true, false, Result, Ok, Err, IfOk, IfErr, Option, Some, None, refl, sym, ap, subst, ◌∙◌, arith}
use Rattle.std.specs.Prelude.{◌↔◌, IsTrue, sum_by, MatchOption}
use Rattle.std.proofs.lemmas.Bool.{false≢true}
use Rattle.std.proofs.lemmas.List.{drop_more, drop_all}
use Rattle.std.proofs.lemmas.List.Sums.{sum_by-cons}
use Rattle.xet_hash.specs.Hash.{default_hash}
use Rattle.xet_roots.specs.Groups.{Node}
use Rattle.xet_roots.specs.Roots.{total_size, parent, parent_hash, salted_root}
use Rattle.xet_roots.specs.Steps.Scan.{AreParents}
use Rattle.xet_roots.proofs.Grouping.OneCutting.{Groups-unique}
use Rattle.xet_roots.proofs.Roots.Making.{total_size-append, total_size-are_parents}
use Rattle.level_nodes.specs.Level.{Level}
use Rattle.range_proof.specs.RangeProof.{Proof, Rises, IsTop, Shows, ShowsRoot}
use Rattle.range_proof.specs.Steps.Opening.{HasTop}

-- the sizes on both sides of a level
abbrev pub sides_size : Level → ℕ
sides_size sides = total_size sides.left + total_size sides.right

-- after some levels these nodes are reached: what rises from them, rises from the chunks, and the other way round
pub record IsRisen (chunks : List Node) (levels : List Level) (i : ℕ) (nodes : List Node) : Type 0 where
  pub up : (top : List Node) → Rises (drop i levels) nodes top → Rises levels chunks top
  pub down : (top : List Node) → Rises levels chunks top → Rises (drop i levels) nodes top
  pub size : total_size nodes + sum_by sides_size (drop i levels) ≡ total_size chunks + sum_by sides_size levels

pub IsRisen-none : (chunks : List Node) (levels : List Level) (nodes : List Node) → nodes ≡ chunks → IsRisen chunks levels 0 nodes
IsRisen-none chunks levels nodes e = record {
  up = λ top rises. subst (λ (l : List Node). Rises levels l top) e rises;
  down = λ top rises. subst (λ (l : List Node). Rises levels l top) (sym e) rises;
  size = ap (λ (l : List Node). total_size l + sum_by sides_size levels) e;
}

-- the nodes of the next level, and their size
pub level_fits : (chunks : List Node) (levels : List Level) (i : ℕ) (nodes : List Node) (sides : Level) → i < length levels → sides ≡ get_or levels i sides →
    IsRisen chunks levels i nodes →
    total_size (sides.left ++ nodes ++ sides.right) + sum_by sides_size (drop (i + 1) levels) ≡ total_size chunks + sum_by sides_size levels
level_fits chunks levels i nodes sides within here h =
    let parts = ap (sum_by sides_size) (drop_more levels i sides within ∙ ap (λ (s : Level). s ∷ drop (i + 1) levels) (sym here)) in
    let size = h.size in
    omega (arith, parts, sum_by-cons sides_size sides (drop (i + 1) levels), total_size-append (sides.left ++ nodes) sides.right, total_size-append sides.left nodes)

-- one level more
pub IsRisen-more : (chunks : List Node) (levels : List Level) (i : ℕ) (nodes : List Node) (sides : Level) (made : List Node) → i < length levels →
    sides ≡ get_or levels i sides → IsRisen chunks levels i nodes → AreParents parent (sides.left ++ nodes ++ sides.right) made →
    IsRisen chunks levels (i + 1) made
IsRisen-more chunks levels i nodes sides made within here h parents =
    let parts : drop i levels ≡ sides ∷ drop (i + 1) levels = drop_more levels i sides within ∙ ap (λ (s : Level). s ∷ drop (i + 1) levels) (sym here) in
    record {
      up = λ top rises. h.up top
          (subst (λ (l : List Level). Rises l nodes top) (sym parts)
          (parents.0, parents.1, subst (λ (l : List Node). Rises (drop (i + 1) levels) l top) parents.2 rises));
      down = λ top rises.
          let first = subst (λ (l : List Level). Rises l nodes top) parts (h.down top rises) in
          subst (λ (l : List Node). Rises (drop (i + 1) levels) l top)
          (ap (map parent) (Groups-unique _ _ _ first.1 parents.1) ∙ sym parents.2) first.2;
      size =
          let whole = level_fits chunks levels i nodes sides within here h in
          let same = total_size-are_parents parent_hash (sides.left ++ nodes ++ sides.right) made parents in
          omega (arith, whole, same);
    }

-- a proof with this top shows a file hash if the top's is that hash
pub Shows-from_top : (proof : Proof) (root shown file_hash salt : List ℕ) (answer : Bool) → HasTop proof (Some root) → shown ≡ salted_root salt root →
    (IsTrue answer ↔ ((shown ≡ file_hash) × ¬ (file_hash ≡ default_hash))) → IsTrue answer ↔ Shows proof file_hash salt
Shows-from_top proof root shown file_hash salt answer h is found = (
  λ e. record { root = root; top = h.0; salted = sym (found.0 e).0 ∙ is; some = (found.0 e).1 },
  λ s. found.1 (is ∙ ap (salted_root salt) (sym (h.1 s.root s.top)) ∙ sym s.salted, s.some),
)

-- the same for a root
pub ShowsRoot-from_top : (proof : Proof) (top root : List ℕ) (answer : Bool) → HasTop proof (Some top) →
    (IsTrue answer ↔ ((top ≡ root) × ¬ (root ≡ default_hash))) → IsTrue answer ↔ ShowsRoot proof root
ShowsRoot-from_top proof top root answer h found = (
  λ e. record { top = subst (IsTop proof) (found.0 e).0 h.0; some = (found.0 e).1 },
  λ s. found.1 (sym (h.1 root s.top), s.some),
)

-- an opened proof was found to show the hash, and a mismatch was found not to
pub opened_shows : {E X : Type 0} (proof : Proof) (P : Proof → Type 0) (opened : Result Proof E) (shown : Result Bool X) → IfOk opened (λ range. range ≡ proof) →
    IfOk opened (λ _. shown ≡ Ok true) → IfOk shown (λ is. IsTrue is ↔ P proof) → IfOk opened P
opened_shows proof P (Ok range) shown same is found = subst P (sym same) ((subst (λ s. IfOk s (λ is. IsTrue is ↔ P proof)) is found).0 refl)
opened_shows proof P (Err e) shown same is found = tt

pub mismatch_hides : {E X : Type 0} (P : Type 0) (Q : E → Type 0) (opened : Result Proof E) (shown : Result Bool X) →
    IfErr opened (λ e. Q e → shown ≡ Ok false) → IfOk shown (λ is. IsTrue is ↔ P) → IfErr opened (λ e. Q e → ¬ P)
mismatch_hides P Q (Ok range) shown is found = tt
mismatch_hides P Q (Err e) shown is found = λ q p. false≢true ((subst (λ s. IfOk s (λ is. IsTrue is ↔ P)) (is q) found).1 p)

abbrev first_hash : List Node → List ℕ
first_hash [] = []
first_hash (node ∷ nodes) = node.0

-- all levels
pub HasTop-all : (chunks : List Node) (levels : List Level) (i : ℕ) (nodes : List Node) (found : Option (List ℕ)) → length levels ≤ i →
    IsRisen chunks levels i nodes → MatchOption found (¬ (length nodes ≡ 1)) (λ hash. (size : ℕ) × (nodes ≡ (hash, size) ∷ [])) →
    HasTop (record { chunks = chunks; levels = levels }) found
HasTop-all chunks levels i nodes None all h none = λ hash top.
    let last = subst (λ (l : List Level). Rises l nodes ((hash, top.0) ∷ [])) (drop_all i levels all) (h.down ((hash, top.0) ∷ []) top.1) in
    none (ap length last)
HasTop-all chunks levels i nodes (Some found) all h one = (
  (one.0, h.up ((found, one.0) ∷ []) (subst (λ (l : List Level). Rises l nodes ((found, one.0) ∷ [])) (sym (drop_all i levels all)) one.1)),
  λ hash top.
      let last = subst (λ (l : List Level). Rises l nodes ((hash, top.0) ∷ [])) (drop_all i levels all) (h.down ((hash, top.0) ∷ []) top.1) in
      let same : (hash, top.0) ∷ [] ≡ (found, one.0) ∷ [] = sym last ∙ one.1 in
      ap first_hash same,
)
