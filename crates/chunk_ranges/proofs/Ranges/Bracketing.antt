-- The leaves of a bracketing, taken one after another, and merged from the last to the first.
use Rattle.std.proofs.Common.{◌≡◌, ℕ, zero, suc, ◌+◌, ◌-◌, ◌<◌, ◌≤◌, ◌↔◌, Bool, Option, Some, None, List, [], ◌∷◌, ◌++◌, length, refl, sym, ap, subst, ◌∙◌, arith, append_assoc, length-append}
use Rattle.std.specs.Prelude.{IfSome, map, Box}
use Rattle.std.specs.declared.alloc.Global.{Global}
use Rattle.std.proofs.lemmas.List.{map-append}
use Rattle.chunk_ranges.specs.declared.merge_tree.MergeTree.{MergeTree}
use Rattle.chunk_ranges.specs.declared.merge_tree.MergeTree.TheVariants.{Leaf, Join'}
use Rattle.chunk_ranges.specs.MergeTree.{leaves, first_leaf, last_leaf}
use Rattle.chunk_ranges.specs.Steps.Bracketing.{entries, entries_after, depth, AreBegun, IsBegun, Follow, lefts}
use Rattle.chunk_ranges.specs.Steps.RangeMerging.{start_of_first, end_of_last}
use Rattle.chunk_ranges.proofs.Ranges.Adjacent.{end_of_last-push}

-- ---- what is begun

module _ {R : Type 0} where
  pub depth-append : (front back : List (ℕ × R)) (values : ℕ) → depth (front ++ back) values ≡ depth front (depth back values)
  depth-append [] back values = refl
  depth-append (entry ∷ front) back values = ap (λ (n : ℕ). n - entry.0 + 1) (depth-append front back values)

  pub AreBegun-append : (front back : List (ℕ × R)) (values : ℕ) → AreBegun (front ++ back) values ↔ (AreBegun front (depth back values) × AreBegun back values)
  AreBegun-append [] back values = (λ h. (tt, h), λ h. h.1)
  AreBegun-append (entry ∷ front) back values =
      let rest = AreBegun-append front back values in
      let same = depth-append front back values in (
        λ h. let parts = rest.0 h.1 in ((subst (λ (n : ℕ). entry.0 ≤ n) same h.0, parts.0), parts.1),
        λ h. (subst (λ (n : ℕ). entry.0 ≤ n) (sym same) h.0.0, rest.1 (h.0.1, h.1)),
      )

-- ---- taking a tree apart

module _ {R A : Type 0} where
  pub entries_after-none : (begun : ℕ) (tree : MergeTree R A) → entries_after begun 0 tree ≡ entries begun tree
  entries_after-none begun (Leaf range) = refl
  entries_after-none begun (Join' p left q right) = refl

  taken_entries : (begun links now then : ℕ) (p q : Box (Unit {0}) Global) (range : R) (rest : MergeTree R A) → IsBegun begun links now then →
      entries_after begun links (Join' p (Leaf range) q rest) ≡ (now, range) ∷ entries_after 0 (then - 1) rest
  taken_entries begun zero now then p q range rest h =
      λ i. (let e : suc begun ≡ now = omega arith in e i, range) ∷ (sym (entries_after-none 0 rest) ∙ ap (λ (n : ℕ). entries_after 0 n rest) (let e : 0 ≡ then - 1 = omega arith in e)) i
  taken_entries begun (suc links) now then p q range rest h =
      λ i. (let e : begun ≡ now = omega arith in e i, range) ∷ entries_after 0 (let e : links ≡ then - 1 = omega arith in e i) rest

  lowered_entries : (begun links now then : ℕ) (p q p' q' s t : Box (Unit {0}) Global) (first second rest : MergeTree R A) → IsBegun begun links now then →
      entries_after begun links (Join' p (Join' p' first q' second) q rest) ≡ entries_after (now + 1) (then + 1) (Join' p' first s (Join' q' second t rest))
  lowered_entries begun zero now then p q p' q' s t first second rest h =
      append_assoc (entries (suc (suc begun)) first) (entries 0 second) (entries 0 rest)
      ∙ ap (λ (l : List (ℕ × R)). entries (suc (suc begun)) first ++ (entries 0 second ++ l)) (sym (entries_after-none 0 rest))
      ∙ (λ i. entries_after (let e : suc (suc begun) ≡ now + 1 = omega arith in e i) (let e : 2 ≡ then + 1 = omega arith in e i) (Join' p' first s (Join' q' second t rest)))
  lowered_entries begun (suc links) now then p q p' q' s t first second rest h =
      append_assoc (entries (suc begun) first) (entries 0 second) (entries_after 0 links rest)
      ∙ (λ i. entries_after (let e : suc begun ≡ now + 1 = omega arith in e i) (let e : suc (suc links) ≡ then + 1 = omega arith in e i) (Join' p' first s (Join' q' second t rest)))

  module _ {X : Type 0} (es : X → List (ℕ × R)) (bg lk : X → ℕ) (tree : MergeTree R A) (all : List (ℕ × R)) where
    pub taken_order : (o o' o'' : Option X) (p q : Box (Unit {0}) Global) (range : R) (rest : MergeTree R A) → tree ≡ Join' p (Leaf range) q rest →
        IfSome o (λ order. es order ++ entries_after (bg order) (lk order) tree ≡ all) →
        Follow o o' (λ old new. (es new ≡ es old) × IsBegun (bg old) (lk old) (bg new) (lk new)) →
        Follow o' o'' (λ old new. (es new ≡ es old ++ (bg old, range) ∷ []) × (bg new ≡ 0) × (lk new ≡ lk old - 1)) →
        IfSome o'' (λ order. es order ++ entries_after (bg order) (lk order) rest ≡ all)
    taken_order o o' None p q range rest at h begin take = tt
    taken_order o None (Some c) p q range rest at h begin take = absurd take
    taken_order None (Some b) (Some c) p q range rest at h begin take = absurd begin
    taken_order (Some a) (Some b) (Some c) p q range rest at h begin take =
        (λ i. take.0 i ++ entries_after (take.1 i) (take.2 i) rest)
        ∙ append_assoc (es b) ((bg b, range) ∷ []) (entries_after 0 (lk b - 1) rest)
        ∙ ap (λ (l : List (ℕ × R)). es b ++ l) (sym (taken_entries (bg a) (lk a) (bg b) (lk b) p q range rest begin.1) ∙ ap (entries_after (bg a) (lk a)) (sym at))
        ∙ ap (λ (l : List (ℕ × R)). l ++ entries_after (bg a) (lk a) tree) begin.0
        ∙ h

    pub lowered_order : (o o' o'' : Option X) (p q p' q' s t : Box (Unit {0}) Global) (first second rest : MergeTree R A) → tree ≡ Join' p (Join' p' first q' second) q rest →
        IfSome o (λ order. es order ++ entries_after (bg order) (lk order) tree ≡ all) →
        Follow o o' (λ old new. (es new ≡ es old) × IsBegun (bg old) (lk old) (bg new) (lk new)) →
        Follow o' o'' (λ old new. (es new ≡ es old) × (bg new ≡ bg old + 1) × (lk new ≡ lk old + 1)) →
        IfSome o'' (λ order. es order ++ entries_after (bg order) (lk order) (Join' p' first s (Join' q' second t rest)) ≡ all)
    lowered_order o o' None p q p' q' s t first second rest at h begin lower = tt
    lowered_order o None (Some c) p q p' q' s t first second rest at h begin lower = absurd lower
    lowered_order None (Some b) (Some c) p q p' q' s t first second rest at h begin lower = absurd begin
    lowered_order (Some a) (Some b) (Some c) p q p' q' s t first second rest at h begin lower =
        (λ i. lower.0 i ++ entries_after (lower.1 i) (lower.2 i) (Join' p' first s (Join' q' second t rest)))
        ∙ ap (λ (l : List (ℕ × R)). es b ++ l) (sym (lowered_entries (bg a) (lk a) (bg b) (lk b) p q p' q' s t first second rest begin.1) ∙ ap (entries_after (bg a) (lk a)) (sym at))
        ∙ ap (λ (l : List (ℕ × R)). l ++ entries_after (bg a) (lk a) tree) begin.0
        ∙ h

  pub leaves_some : (tree : MergeTree R A) → 0 < length (leaves tree)
  leaves_some (Leaf range) = omega arith
  leaves_some (Join' p left q right) = let some = leaves_some left in omega (arith, length-append (leaves left) (leaves right))

  pub lowered_lefts : (p q p' q' s t : Box (Unit {0}) Global) (first second rest : MergeTree R A) →
      lefts (Join' p' first s (Join' q' second t rest)) < lefts (Join' p (Join' p' first q' second) q rest)
  lowered_lefts p q p' q' s t first second rest = let some = leaves_some first in omega (arith, length-append (leaves first) (leaves second))

  pub depth-entries : (begun : ℕ) (tree : MergeTree R A) (values : ℕ) → begun ≤ values → (depth (entries begun tree) values ≡ values - begun + 1) × AreBegun (entries begun tree) values
  depth-entries begun (Leaf range) values few = (refl, (few, tt))
  depth-entries begun (Join' p left q right) values few =
      let back = depth-entries 0 right values (omega arith) in
      let front = depth-entries (suc begun) left (depth (entries 0 right) values) (let d = back.0 in omega arith) in (
        (let all = depth-append (entries (suc begun) left) (entries 0 right) values in let d = back.0 in let e = front.0 in omega arith),
        (AreBegun-append (entries (suc begun) left) (entries 0 right) values).1 (front.1, back.1),
      )

  pub entries-leaves : (begun : ℕ) (tree : MergeTree R A) → map (λ (entry : ℕ × R). entry.1) (entries begun tree) ≡ leaves tree
  entries-leaves begun (Leaf range) = refl
  entries-leaves begun (Join' p left q right) =
      map-append (λ (entry : ℕ × R). entry.1) (entries (suc begun) left) (entries 0 right) ∙ (λ i. entries-leaves (suc begun) left i ++ entries-leaves 0 right i)

-- ---- the first and the last leaf

module _ {R A : Type 0} (start end : R → Bool) where
  pub first_of_leaves : (tree : MergeTree R A) (more : List R) → start_of_first start (leaves tree ++ more) ≡ Some (start (first_leaf tree))
  first_of_leaves (Leaf range) more = refl
  first_of_leaves (Join' p left q right) more =
      ap (start_of_first start) (append_assoc (leaves left) (leaves right) more) ∙ first_of_leaves left (leaves right ++ more)

  pub last_of_leaves : (before : List R) (tree : MergeTree R A) → end_of_last end (before ++ leaves tree) ≡ Some (end (last_leaf tree))
  last_of_leaves before (Leaf range) = end_of_last-push start end (λ r. 0) before range
  last_of_leaves before (Join' p left q right) =
      ap (end_of_last end) (sym (append_assoc before (leaves left) (leaves right))) ∙ last_of_leaves (before ++ leaves left) right
