-- The positions that runs have.
use Rattle.std.proofs.Common.{arith, nat_cmp, is_le, get_or, ◌≡◌, ◌+◌, ◌-◌, ◌<◌, ◌≤◌, ℕ, Bool, true, false, List, [], ◌∷◌, ◌++◌, ◌&&◌, ◌||◌, nat_eq, nat_lt, length, refl, suc, sym, ap, subst, ◌∙◌}
use Rattle.std.specs.Prelude.{All, None, Some, IfSome, cond, find, slice_get}
use Rattle.std.specs.declared.ops.Bound.TheVariants.{Included, Unbounded}
use Rattle.std.specs.BTreeMap.Range.{entries_between}
use Rattle.std.specs.List.{list_any}
use Rattle.std.proofs.lemmas.Bool.{true≢false}
use Rattle.std.proofs.lemmas.List.Elements.{All-nil, All-cons, All-append, All-head, All-tail, All-weaker}
use Rattle.std.proofs.lemmas.List.Folds.{list_any-append, list_any_none}
use Rattle.xet_roots.specs.Groups.{Node}
use Rattle.chunk_ranges.specs.declared.chunk_range.ChunkRange as chunk_range
use Rattle.upload_session.specs.Session.{Placed, PlacedRun, placed_from, ends_after, is_taken, meet, meets, overlaps, AreApart, EndBefore, Rises, StandFor}
use Rattle.upload_session.proofs.Placing.{rises-after}

-- what holds of all holds of each
pub holds_of_last : {X : Type 0} (P : X → Type 0) (front : List X) (last : X) (back : List X) → All P (front ++ last ∷ back) → P last
holds_of_last P [] last back all = All-head P last back all
holds_of_last P (x ∷ front) last back all = holds_of_last P front last back (All-tail P x (front ++ last ∷ back) all)

-- a position is one adjacent position
at_one : (p position : ℕ) → nat_eq p position ≡ (nat_lt position (p + 1) && nat_lt p (position + 1))
at_one p position = grind arith

pub taken-overlaps : (placed : List Placed) (position : ℕ) → is_taken placed position ≡ overlaps placed position 1
taken-overlaps [] position = refl
taken-overlaps (p ∷ placed) position =
    ap (λ b. b || is_taken placed position) (at_one p.0 position)
    ∙ ap (λ b. (nat_lt position (p.0 + 1) && nat_lt p.0 (position + 1)) || b) (taken-overlaps placed position)

one_only : (start first count : ℕ) → ((nat_lt first (start + 1) && nat_lt start (first + count)) || false) ≡ (nat_lt first (start + 1) && nat_lt start (first + count))
one_only start first count = grind arith

one_more : (start first count many more : ℕ) → 0 < count → 0 < many → more ≡ many + 1
    → ((nat_lt first (start + 1) && nat_lt start (first + count)) || (nat_lt first ((start + 1) + many) && nat_lt (start + 1) (first + count)))
    ≡ (nat_lt first (start + more) && nat_lt start (first + count))
one_more start first count many more some others is = grind (arith, some, others, is)

module _ (first count : ℕ) (some : 0 < count) where
  pub overlaps-run : (start : ℕ) (chunks : List Node) → 0 < length chunks
      → overlaps (placed_from start chunks) first count ≡ (nat_lt first (start + length chunks) && nat_lt start (first + count))
  overlaps-run start [] none = absurd (omega (arith, none))
  overlaps-run start (chunk ∷ []) _ = one_only start first count
  overlaps-run start (chunk ∷ next ∷ chunks) _ =
      ap (λ b. (nat_lt first (start + 1) && nat_lt start (first + count)) || b) (overlaps-run (start + 1) (next ∷ chunks) (omega arith))
      ∙ one_more start first count (length (next ∷ chunks)) (length (chunk ∷ next ∷ chunks)) some (omega arith) (omega arith)

  module _ {C A : Type 0} (kind : chunk_range.Ghosts C A) where
    pub overlaps-runs : (runs : List (PlacedRun C)) (placed : List Placed) → StandFor kind runs placed
        → overlaps placed first count ≡ meet runs first count
    overlaps-runs [] placed none = ap (λ (l : List Placed). overlaps l first count) none
    overlaps-runs (run ∷ runs) placed (chunks, others, is, of_run, apart, rest) =
        ap (λ (l : List Placed). overlaps l first count) is
        ∙ list_any-append (λ (p : Placed). nat_lt first (p.0 + 1) && nat_lt p.0 (first + count)) (placed_from run.0 chunks) others
        ∙ ap (λ b. b || overlaps others first count)
        (overlaps-run run.0 chunks of_run.0 ∙ ap (λ n. nat_lt first n && nat_lt run.0 (first + count)) (sym of_run.1))
        ∙ ap (λ b. meets first count run || b) (overlaps-runs runs others rest)

pub meet_overlaps : {C A : Type 0} (kind : chunk_range.Ghosts C A) (runs : List (PlacedRun C)) (placed : List Placed) (first count : ℕ) → StandFor kind runs placed
    → 0 < count → meet runs first count ≡ overlaps placed first count
meet_overlaps kind runs placed first count stand some = sym (overlaps-runs first count some kind runs placed stand)

pub taken-runs : {C A : Type 0} (kind : chunk_range.Ghosts C A) (runs : List (PlacedRun C)) (placed : List Placed) (position : ℕ) → StandFor kind runs placed
    → is_taken placed position ≡ meet runs position 1
taken-runs kind runs placed position stand = taken-overlaps placed position ∙ overlaps-runs position 1 (omega arith) kind runs placed stand

module _ {C : Type 0} where
  -- the runs in front of one end before it
  pub fronts_end : (front : List (PlacedRun C)) (last : PlacedRun C) (back : List (PlacedRun C)) → AreApart (front ++ last ∷ back)
      → All (λ (run : PlacedRun C). run.1.end < last.0) front
  fronts_end [] last back apart = All-nil (λ (run : PlacedRun C). run.1.end < last.0)
  fronts_end (run ∷ front) last back (longer, far, apart) =
      All-cons (λ (run : PlacedRun C). run.1.end < last.0) run front
      (holds_of_last (λ (next : PlacedRun C). run.1.end < next.0) front last back far) (fronts_end front last back apart)

  -- only the last run that begins at a position or before it can have it
  pub taken-last : (front : List (PlacedRun C)) (last : PlacedRun C) (back : List (PlacedRun C)) (position : ℕ)
      → AreApart (front ++ last ∷ back) → last.0 ≤ position → All (λ (run : PlacedRun C). position < run.0) back
      → meet (front ++ last ∷ back) position 1 ≡ nat_lt position last.1.end
  taken-last front last back position apart begun after =
      let ended = fronts_end front last back apart in
      let has = meets position 1 in
      list_any-append has front (last ∷ back)
      ∙ ap (λ b. b || list_any has (last ∷ back))
      (list_any_none has front (λ k d inside. let ends = ended k d inside in grind (arith, ends, begun)))
      ∙ ap (λ b. has last || b)
      (list_any_none has back (λ k d inside. let begins = after k d inside in grind (arith, begins)))
      ∙ only (nat_lt position last.1.end) (nat_lt last.0 (position + 1)) (grind (arith, begun))
    where
      only : (a b : Bool) → b ≡ true → ((a && b) || false) ≡ a
      only true true h = refl
      only true false h = absurd (true≢false (sym h))
      only false b h = refl

  pub taken-none : (runs : List (PlacedRun C)) (position : ℕ) → All (λ (run : PlacedRun C). position < run.0) runs → meet runs position 1 ≡ false
  taken-none runs position after =
      list_any_none (meets position 1) runs (λ k d inside. let begins = after k d inside in grind (arith, begins))

  -- where a run has a position, one has one of those from it on
  pub meet-more : (runs : List (PlacedRun C)) (first count : ℕ) → 0 < count → meet runs first 1 ≡ true → meet runs first count ≡ true
  meet-more [] first count some taken = absurd (true≢false (sym taken))
  meet-more (run ∷ runs) first count some taken = choose (meet-more runs first count some) (meets first 1 run) refl taken
    where
      or-true : (b : Bool) → (b || true) ≡ true
      or-true true = refl
      or-true false = refl

      choose : (meet runs first 1 ≡ true → meet runs first count ≡ true) → (b : Bool) → meets first 1 run ≡ b
          → (b || meet runs first 1) ≡ true → meet (run ∷ runs) first count ≡ true
      choose more true there h = ap (λ b. b || meet runs first count) {y = true} (grind (arith, there, some))
      choose more false other h = ap (λ b. meets first count run || b) (more h) ∙ or-true (meets first count run)

-- the runs that begin at a position or after it
abbrev pub from : {C : Type 0} → ℕ → List (PlacedRun C) → List (PlacedRun C)
from first runs = entries_between nat_cmp (Included first) Unbounded runs

-- where neither of two holds
pub neither : (a b : Bool) → (a || b) ≡ false → (a ≡ false) × (b ≡ false)
neither true b h = absurd (true≢false h)
neither false b h = (refl, h)

pub both : (a b : Bool) → a ≡ false → b ≡ false → (a || b) ≡ false
both a b first second = ap (λ x. x || b) first ∙ second

begins_before : (first n : ℕ) → is_le (nat_cmp first n) ≡ false → n < first
begins_before first n h = grind (arith, h)

begins_from : (first n : ℕ) → is_le (nat_cmp first n) ≡ true → first ≤ n
begins_from first n h = grind (arith, h)

module _ {C : Type 0} (first count : ℕ) where
  not_begun : (run : PlacedRun C) → meets first 1 run ≡ false → run.0 < first → meets first count run ≡ false
  not_begun run free begins = grind (arith, free, begins)

  -- where no run has the first position, and none begins after it, none has any
  pub overlap-none : (runs : List (PlacedRun C)) → from first runs ≡ [] → list_any (meets first 1) runs ≡ false → list_any (meets first count) runs ≡ false
  overlap-none [] none free = refl
  overlap-none (run ∷ runs) none free = choose (overlap-none runs) (neither (meets first 1 run) (list_any (meets first 1) runs) free) (is_le (nat_cmp first run.0)) refl none
    where
      choose : (from first runs ≡ [] → list_any (meets first 1) runs ≡ false → list_any (meets first count) runs ≡ false)
          → (meets first 1 run ≡ false) × (list_any (meets first 1) runs ≡ false)
          → (b : Bool) → is_le (nat_cmp first run.0) ≡ b → cond (b && true) (run ∷ from first runs) (from first runs) ≡ []
          → list_any (meets first count) (run ∷ runs) ≡ false
      choose rest (one, others) true near h = absurd (omega (arith, ap length h))
      choose rest (one, others) false far h =
          both (meets first count run) (list_any (meets first count) runs) (not_begun run one (begins_before first run.0 far)) (rest h others)

  -- otherwise the first that begins after it has one, or none does
  pub overlap-next : (runs : List (PlacedRun C)) (next : PlacedRun C) (more : List (PlacedRun C)) → AreApart runs
      → from first runs ≡ next ∷ more → meet runs first 1 ≡ false → meet runs first count ≡ nat_lt (next.0 - first) count
  overlap-next [] next more apart is free = absurd (omega (arith, ap length is))
  overlap-next (run ∷ runs) next more (longer, far, apart) is free =
      choose (λ is free. overlap-next runs next more apart is free)
      (neither (meets first 1 run) (list_any (meets first 1) runs) free) (is_le (nat_cmp first run.0)) refl is
    where
      at : first ≤ run.0 → (b : Bool) → nat_lt (run.0 - first) count ≡ b → list_any (meets first count) (run ∷ runs) ≡ b
      at near true inside = ap (λ b. b || list_any (meets first count) runs) {y = true} (grind (arith, near, inside, longer))
      at near false outside =
          both (meets first count run) (list_any (meets first count) runs) (grind (arith, near, outside))
          (list_any_none (meets first count) runs (λ k d inside. let farther = far k d inside in grind (arith, farther, near, outside, longer)))

      choose : (from first runs ≡ next ∷ more → list_any (meets first 1) runs ≡ false → list_any (meets first count) runs ≡ nat_lt (next.0 - first) count)
          → (meets first 1 run ≡ false) × (list_any (meets first 1) runs ≡ false)
          → (b : Bool) → is_le (nat_cmp first run.0) ≡ b → cond (b && true) (run ∷ from first runs) (from first runs) ≡ next ∷ more
          → list_any (meets first count) (run ∷ runs) ≡ nat_lt (next.0 - first) count
      choose rest (one, free) true near h =
          at (begins_from first run.0 near) (nat_lt (run.0 - first) count) refl
          ∙ ap (λ (runs : List (PlacedRun C)). nat_lt ((get_or runs 0 run).0 - first) count) {y = next ∷ more} h
      choose rest (one, free) false farther h =
          ap (λ b. b || list_any (meets first count) runs) (not_begun run one (begins_before first run.0 farther)) ∙ rest h free

ended_before : {C : Type 0} (first : ℕ) (run : PlacedRun C) → meets first 1 run ≡ false → run.0 < first → nat_lt first run.1.end ≡ false
ended_before first run free begins = grind (arith, free, begins)

-- runs that end before a position don't count
pub find-last : {C : Type 0} (position : ℕ) (front : List (PlacedRun C)) (last : PlacedRun C) (back : List (PlacedRun C))
    → All (λ (run : PlacedRun C). run.1.end ≤ position) front → nat_lt position last.1.end ≡ true
    → find (ends_after position) (front ++ last ∷ back) ≡ Some last
find-last position [] last back ended holds = ap (λ b. cond b (Some last) (find (ends_after position) back)) holds
find-last position (run ∷ front) last back ended holds =
    let ends = All-head (λ run. run.1.end ≤ position) run front ended in
    ap (λ b. cond b (Some run) (find (ends_after position) (front ++ last ∷ back))) {y = false} (grind (arith, ends))
    ∙ find-last position front last back (All-tail (λ run. run.1.end ≤ position) run front ended) holds

module _ {C : Type 0} (first : ℕ) where
  -- the first run that ends after a taken position is the last one that begins at it or before it
  pub find-taken : (front : List (PlacedRun C)) (last : PlacedRun C) (back : List (PlacedRun C))
      → AreApart (front ++ last ∷ back) → last.0 ≤ first → All (λ (run : PlacedRun C). first < run.0) back
      → meet (front ++ last ∷ back) first 1 ≡ true → find (ends_after first) (front ++ last ∷ back) ≡ Some last
  find-taken front last back apart begun after taken =
      find-last first front last back
      (All-weaker (λ (run : PlacedRun C). run.1.end < last.0) (λ (run : PlacedRun C). run.1.end ≤ first)
      (λ run ends. omega (arith, ends, begun)) front (fronts_end front last back apart))
      (sym (taken-last front last back first apart begun after) ∙ taken)

  -- after a free position it is the first one that begins there
  pub find-next : (runs : List (PlacedRun C)) (next : PlacedRun C) (more : List (PlacedRun C)) → AreApart runs
      → from first runs ≡ next ∷ more → meet runs first 1 ≡ false → find (ends_after first) runs ≡ Some next
  find-next [] next more apart is free = absurd (omega (arith, ap length is))
  find-next (run ∷ runs) next more (longer, far, apart) is free =
      choose (λ is free. find-next runs next more apart is free)
      (neither (meets first 1 run) (list_any (meets first 1) runs) free) (is_le (nat_cmp first run.0)) refl is
    where
      choose : (from first runs ≡ next ∷ more → list_any (meets first 1) runs ≡ false → find (ends_after first) runs ≡ Some next)
          → (meets first 1 run ≡ false) × (list_any (meets first 1) runs ≡ false)
          → (b : Bool) → is_le (nat_cmp first run.0) ≡ b → cond (b && true) (run ∷ from first runs) (from first runs) ≡ next ∷ more
          → find (ends_after first) (run ∷ runs) ≡ Some next
      choose rest (one, free) true near h =
          let begun = begins_from first run.0 near in
          ap (λ b. cond b (Some run) (find (ends_after first) runs)) {y = true} (grind (arith, begun, longer))
          ∙ ap (λ (runs : List (PlacedRun C)). Some (get_or runs 0 run)) {y = next ∷ more} h
      choose rest (one, free) false farther h =
          ap (λ b. cond b (Some run) (find (ends_after first) runs)) (ended_before first run one (begins_before first run.0 farther)) ∙ rest h free

-- where the position is free and no run begins after it, there is none
pub find-none : {C : Type 0} (first : ℕ) (runs : List (PlacedRun C)) → from first runs ≡ [] → list_any (meets first 1) runs ≡ false
    → find (ends_after first) runs ≡ None
find-none first [] none free = refl
find-none {C} first (run ∷ runs) none free =
    choose (find-none first runs) (neither (meets first 1 run) (list_any (meets first 1) runs) free) (is_le (nat_cmp first run.0)) refl none
  where
    choose : (from first runs ≡ [] → list_any (meets first 1) runs ≡ false → find (ends_after first) runs ≡ None)
        → (meets first 1 run ≡ false) × (list_any (meets first 1) runs ≡ false)
        → (b : Bool) → is_le (nat_cmp first run.0) ≡ b → cond (b && true) (run ∷ from first runs) (from first runs) ≡ []
        → find (ends_after first) (run ∷ runs) ≡ None
    choose rest (one, free) true near h = absurd (omega (arith, ap length h))
    choose rest (one, free) false far h =
        ap (λ b. cond b (Some run) (find (ends_after first) runs)) (ended_before first run one (begins_before first run.0 far)) ∙ rest h free

-- the positions rise
pub stand-rises : {C A : Type 0} (kind : chunk_range.Ghosts C A) (runs : List (PlacedRun C)) (placed : List Placed)
    → StandFor kind runs placed → Rises placed
stand-rises kind [] placed none = subst (λ l. Rises l) (sym none) tt
stand-rises kind (run ∷ runs) placed (chunks, others, is, of_run, apart, rest) =
    subst (λ l. Rises l) (sym is)
    (rises-after run.0 chunks others
    (All-weaker (λ (p : Placed). run.1.end + 1 ≤ p.0) (λ (p : Placed). run.0 + length chunks ≤ p.0) (λ p h. let ends = of_run.1 in omega (arith, h, ends)) others apart)
    (stand-rises kind runs others rest))

-- runs with a last one that begins after all others
ends-before : {C : Type 0} (runs : List (PlacedRun C)) (position : ℕ) → AreApart runs → EndBefore runs position → All (λ (run : PlacedRun C). run.1.end < position) runs
ends-before {C} [] position apart last = All-nil (λ (run : PlacedRun C). run.1.end < position)
ends-before {C} (run ∷ []) position apart last =
    All-cons (λ (run : PlacedRun C). run.1.end < position) run [] last.1 (All-nil (λ (run : PlacedRun C). run.1.end < position))
ends-before {C} (run ∷ next ∷ runs) position (longer, far, apart) last =
    let near = All-head (λ (next : PlacedRun C). run.1.end < next.0) next runs far in
    let others = ends-before (next ∷ runs) position apart
    (subst (λ n. IfSome (slice_get (run ∷ next ∷ runs) n) (λ (last : PlacedRun C). (last.0 < position) × (last.1.end < position)))
    {x = length (run ∷ next ∷ runs) - 1} {y = suc (length (next ∷ runs) - 1)} (omega arith) last) in
    let ended = All-head (λ (run : PlacedRun C). run.1.end < position) next runs others in
    let ahead = apart.0 in
    All-cons (λ (run : PlacedRun C). run.1.end < position) run (next ∷ runs) (omega (arith, near, ahead, ended)) others

apart-last : {C : Type 0} (runs : List (PlacedRun C)) (last : PlacedRun C) → AreApart runs → last.0 < last.1.end
    → All (λ (run : PlacedRun C). run.1.end < last.0) runs → AreApart (runs ++ last ∷ [])
apart-last {C} [] last apart some ended = (some, All-nil (λ (next : PlacedRun C). last.1.end < next.0), tt)
apart-last {C} (run ∷ runs) last (longer, far, apart) some ended = (
  longer,
  All-append (λ (next : PlacedRun C). run.1.end < next.0) runs (last ∷ []) far
      (All-cons (λ (next : PlacedRun C). run.1.end < next.0) last [] (All-head (λ (run : PlacedRun C). run.1.end < last.0) run runs ended)
      (All-nil (λ (next : PlacedRun C). run.1.end < next.0))),
  apart-last runs last apart some (All-tail (λ (run : PlacedRun C). run.1.end < last.0) run runs ended),
)

pub apart-push : {C : Type 0} (runs : List (PlacedRun C)) (last : PlacedRun C) → AreApart runs → last.0 < last.1.end → EndBefore runs last.0 → AreApart (runs ++ last ∷ [])
apart-push runs last apart some before = apart-last runs last apart some (ends-before runs last.0 apart before)
