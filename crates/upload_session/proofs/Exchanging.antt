-- Swapping two puts.
use Rattle.std.proofs.Common.{arith, ◌≡◌, ◌+◌, ◌<◌, ◌≤◌, ◌⊎◌, inl, inr, ℕ, Bool, true, false, not, List, [], ◌∷◌, ◌++◌, ◌&&◌, ◌||◌, nat_lt, length, refl, sym, ap, ◌∙◌, append_assoc}
use Rattle.std.specs.Prelude.{filter, cond}
use Rattle.std.proofs.lemmas.List.{append-nil}
use Rattle.std.proofs.lemmas.List.Elements.{filter-append}
use Rattle.xet_roots.specs.Groups.{Node}
use Rattle.upload_session.specs.Session.{Placed, Put, placed_from, place, overlaps, ArePlaced}
use Rattle.upload_session.proofs.Placing.{before, after, any-placed, before-all, before-none, after-all, after-none, placed_from-append, placed_from-below, placed_from-from}
use Rattle.upload_session.proofs.Positions.{neither, overlaps-run}

-- what is kept of what is kept
twice : {X : Type 0} (first second both : X → Bool) → ((x : X) → (first x && second x) ≡ both x) → (xs : List X)
    → filter second (filter first xs) ≡ filter both xs
twice first second both same [] = refl
twice first second both same (x ∷ xs) = choose (first x) refl (twice first second both same xs)
  where
    choose : (b : Bool) → first x ≡ b → filter second (filter first xs) ≡ filter both xs
        → filter second (cond b (x ∷ filter first xs) (filter first xs)) ≡ cond (both x) (x ∷ filter both xs) (filter both xs)
    choose true passes rest =
        ap (λ l. cond (second x) (x ∷ l) l) rest
        ∙ ap (λ c. cond c (x ∷ filter both xs) (filter both xs)) (ap (λ b. b && second x) (sym passes) ∙ same x)
    choose false fails rest =
        rest ∙ ap (λ c. cond c (x ∷ filter both xs) (filter both xs)) (ap (λ b. b && second x) (sym fails) ∙ same x)

nothing : {X : Type 0} (xs : List X) → filter (λ _. false) xs ≡ []
nothing [] = refl
nothing (x ∷ xs) = nothing xs

-- whether a position is from the first on, and below the other
abbrev between : ℕ → ℕ → Placed → Bool
between first other p = not (nat_lt p.0 first) && nat_lt p.0 other

-- chunks before others
module _ (placed : List Placed) (first other : ℕ) (chunks more : List Node) (apart : first + length chunks ≤ other) where
  abbrev both : List Placed
  both = filter (before first) placed ++ placed_from first chunks ++ filter (between first other) placed ++ placed_from other more ++ filter (after other) placed

  later : place (place placed first chunks) other more ≡ both
  later =
      let front = filter (before first) placed in
      let back = filter (after first) placed in
      let new = placed_from first chunks in
      let below = placed_from-below other first chunks apart in
      let low : filter (before other) (front ++ new ++ back) ≡ front ++ new ++ filter (between first other) placed =
      filter-append (before other) (front ++ new) back
      ∙ ap (λ l. l ++ filter (before other) back) (filter-append (before other) front new)
      ∙ ap (λ l. l ++ filter (before other) new ++ filter (before other) back)
      (twice (before first) (before other) (before first) (λ p. grind (arith, apart)) placed)
      ∙ ap (λ l. front ++ l ++ filter (before other) back) (before-all other new below)
      ∙ ap (λ l. front ++ new ++ l) (twice (after first) (before other) (between first other) (λ p. refl) placed) in
      let high : filter (after other) (front ++ new ++ back) ≡ filter (after other) placed =
      filter-append (after other) (front ++ new) back
      ∙ ap (λ l. l ++ filter (after other) back) (filter-append (after other) front new)
      ∙ ap (λ l. l ++ filter (after other) new ++ filter (after other) back)
      (twice (before first) (after other) (λ _. false) (λ p. grind (arith, apart)) placed ∙ nothing placed)
      ∙ ap (λ l. l ++ filter (after other) back) (after-none other new below)
      ∙ twice (after first) (after other) (after other) (λ p. grind (arith, apart)) placed in
      ap (λ l. l ++ placed_from other more ++ filter (after other) (front ++ new ++ back)) low
      ∙ ap (λ l. front ++ new ++ filter (between first other) placed ++ placed_from other more ++ l) high

  sooner : place (place placed other more) first chunks ≡ both
  sooner =
      let front = filter (before other) placed in
      let back = filter (after other) placed in
      let new = placed_from other more in
      let from = placed_from-from first other more (omega (arith, apart)) in
      let low : filter (before first) (front ++ new ++ back) ≡ filter (before first) placed =
      filter-append (before first) (front ++ new) back
      ∙ ap (λ l. l ++ filter (before first) back) (filter-append (before first) front new)
      ∙ ap (λ l. l ++ filter (before first) new ++ filter (before first) back)
      (twice (before other) (before first) (before first) (λ p. grind (arith, apart)) placed)
      ∙ ap (λ l. filter (before first) placed ++ l ++ filter (before first) back) (before-none first new from)
      ∙ ap (λ l. filter (before first) placed ++ [] ++ l)
      (twice (after other) (before first) (λ _. false) (λ p. grind (arith, apart)) placed ∙ nothing placed)
      ∙ ap (λ l. l ++ []) (append-nil (filter (before first) placed)) ∙ append-nil (filter (before first) placed) in
      let high : filter (after first) (front ++ new ++ back) ≡ filter (between first other) placed ++ new ++ back =
      filter-append (after first) (front ++ new) back
      ∙ ap (λ l. l ++ filter (after first) back) (filter-append (after first) front new)
      ∙ ap (λ l. l ++ filter (after first) new ++ filter (after first) back)
      (twice (before other) (after first) (between first other) (λ p. grind (arith, apart)) placed)
      ∙ ap (λ l. filter (between first other) placed ++ l ++ filter (after first) back) (after-all first new from)
      ∙ ap (λ l. filter (between first other) placed ++ new ++ l) (twice (after other) (after first) (after other) (λ p. grind (arith, apart)) placed) in
      ap (λ l. l ++ placed_from first chunks ++ filter (after first) (front ++ new ++ back)) low
      ∙ ap (λ l. filter (before first) placed ++ placed_from first chunks ++ l) high
      ∙ sym (append_assoc (filter (before first) placed ++ placed_from first chunks) (filter (between first other) placed ++ new) back)
      ∙ ap (λ l. l ++ back) (sym (append_assoc (filter (before first) placed ++ placed_from first chunks) (filter (between first other) placed) new))

  commute : place (place placed first chunks) other more ≡ place (place placed other more) first chunks
  commute = later ∙ sym sooner

-- two puts that don't meet
apart_or : (first other : ℕ) (chunks more : List Node) → 0 < length chunks → 0 < length more
    → overlaps (placed_from first chunks) other (length more) ≡ false → (first + length chunks ≤ other) ⊎ (other + length more ≤ first)
apart_or first other chunks more some others free =
    let met = sym (overlaps-run other (length more) others first chunks some) ∙ free in
    grind (arith, met)

pub exchange : (placed : List Placed) (first other : ℕ) (chunks more : List Node)
    → (first + length chunks ≤ other) ⊎ (other + length more ≤ first)
    → place (place placed first chunks) other more ≡ place (place placed other more) first chunks
exchange placed first other chunks more (inl before) = commute placed first other chunks more before
exchange placed first other chunks more (inr before) = sym (commute placed other first more chunks before)

pub exchanged : (later earlier : List Put) (first second : Put) (placed : List Placed)
    → ArePlaced (later ++ first ∷ second ∷ earlier) placed → ArePlaced (later ++ second ∷ first ∷ earlier) placed
exchanged [] earlier first second placed (between, (before, were, others, free_second, is_second), some, free, is) =
    let (free_first, free_both) = neither (overlaps before first.0 (length first.1)) (overlaps (placed_from second.0 second.1) first.0 (length first.1))
    (sym (any-placed _ before second.0 second.1) ∙ ap (λ all. overlaps all first.0 (length first.1)) (sym is_second) ∙ free) in
    let apart = apart_or second.0 first.0 second.1 first.1 others some free_both in (
      place before first.0 first.1,
      (before, were, some, free_first, refl),
      others,
      any-placed _ before first.0 first.1 ∙ ap (λ b. b || overlaps (placed_from first.0 first.1) second.0 (length second.1)) free_second
          ∙ overlaps-run second.0 (length second.1) others first.0 first.1 some ∙ free_of (flip apart),
      is ∙ ap (λ all. place all first.0 first.1) is_second ∙ exchange before second.0 first.0 second.1 first.1 apart,
    )
  where
    flip : {A B : Type 0} → A ⊎ B → B ⊎ A
    flip (inl a) = inr a
    flip (inr b) = inl b

    free_of : (first.0 + length first.1 ≤ second.0) ⊎ (second.0 + length second.1 ≤ first.0)
        → (nat_lt second.0 (first.0 + length first.1) && nat_lt first.0 (second.0 + length second.1)) ≡ false
    free_of (inl low) = grind (arith, low)
    free_of (inr high) = grind (arith, high)
exchanged (put ∷ later) earlier first second placed (before, were, some, free, is) =
    (before, exchanged later earlier first second before were, some, free, is)

-- where none of some positions is taken, none is between
none-between : (placed : List Placed) (first count : ℕ) → overlaps placed first count ≡ false → filter (between first (first + count)) placed ≡ []
none-between [] first count free = refl
none-between (p ∷ placed) first count free =
    let (one, others) = neither (nat_lt first (p.0 + 1) && nat_lt p.0 (first + count)) (overlaps placed first count) free in
    ap (λ b. cond b (p ∷ filter (between first (first + count)) placed) (filter (between first (first + count)) placed)) {y = false} (grind (arith, one))
    ∙ none-between placed first count others

-- and those after the first of them are after them all
all-after : (placed : List Placed) (first count : ℕ) → overlaps placed first count ≡ false
    → filter (after first) placed ≡ filter (after (first + count)) placed
all-after [] first count free = refl
all-after (p ∷ placed) first count free =
    let (one, others) = neither (nat_lt first (p.0 + 1) && nat_lt p.0 (first + count)) (overlaps placed first count) free in
    let same : after first p ≡ after (first + count) p = grind (arith, one) in
    ap (λ b. cond b (p ∷ filter (after first) placed) (filter (after first) placed)) same
    ∙ ap (λ l. cond (after (first + count) p) (p ∷ l) l) (all-after placed first count others)

pub in_parts : (placed : List Placed) (first : ℕ) (chunks more : List Node) → overlaps placed first (length chunks) ≡ false
    → place (place placed first chunks) (first + length chunks) more ≡ place placed first (chunks ++ more)
in_parts placed first chunks more free =
    let other = first + length chunks in
    let front = filter (before first) placed ++ placed_from first chunks in
    later placed first other chunks more (omega arith)
    ∙ ap (λ l. front ++ l ++ placed_from other more ++ filter (after other) placed) (none-between placed first (length chunks) free)
    ∙ ap (λ l. l ++ placed_from other more ++ filter (after other) placed) (append-nil front)
    ∙ ap (λ l. l ++ filter (after other) placed) (append_assoc (filter (before first) placed) (placed_from first chunks) (placed_from other more))
    ∙ ap (λ l. filter (before first) placed ++ l ++ filter (after other) placed) (sym (placed_from-append first chunks more))
    ∙ ap (λ l. filter (before first) placed ++ placed_from first (chunks ++ more) ++ l) (sym (all-after placed first (length chunks) free))
