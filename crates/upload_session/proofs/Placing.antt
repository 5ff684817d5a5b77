-- Chunks placed among others.
use Rattle.std.proofs.Common.{arith, ◌≡◌, ◌+◌, ◌<◌, ◌≤◌, ℕ, Bool, true, false, not, List, [], ◌∷◌, ◌++◌, ◌||◌, nat_lt, length, refl, sym, ap, ◌∙◌, append_assoc}
use Rattle.std.specs.Prelude.{All, filter, cond, sum_by}
use Rattle.std.specs.List.{list_any}
use Rattle.std.proofs.lemmas.List.Elements.{All-nil, All-cons, All-head, All-tail, All-append, All-filter, All-weaker, filter-append}
use Rattle.std.proofs.lemmas.List.Filters.{sum_by-filter_both}
use Rattle.std.proofs.lemmas.List.Sums.{sum_by-append, sum_by-cons}
use Rattle.std.proofs.lemmas.List.Folds.{list_any-append}
use Rattle.xet_roots.specs.Groups.{Node}
use Rattle.xet_roots.specs.Roots.{total_size}
use Rattle.upload_session.specs.Hashes.{Hash, hash_eq, hashes_of, is_among, AreBoth}
use Rattle.upload_session.specs.Session.{Placed, placed_from, place, chunks_of, AreFrom, Rises}

-- each position is below a bound
abbrev pub AreBelow : ℕ → List Placed → Type 0
AreBelow bound placed = All (λ p. p.0 < bound) placed

filter-all : {X : Type 0} (p : X → Bool) (xs : List X) → All (λ x. p x ≡ true) xs → filter p xs ≡ xs
filter-all p [] all = refl
filter-all p (x ∷ xs) all =
    ap (λ b. cond b (x ∷ filter p xs) (filter p xs)) (All-head (λ x. p x ≡ true) x xs all)
    ∙ ap (λ rest. x ∷ rest) (filter-all p xs (All-tail (λ x. p x ≡ true) x xs all))

filter-none : {X : Type 0} (p : X → Bool) (xs : List X) → All (λ x. p x ≡ false) xs → filter p xs ≡ []
filter-none p [] none = refl
filter-none p (x ∷ xs) none =
    ap (λ b. cond b (x ∷ filter p xs) (filter p xs)) (All-head (λ x. p x ≡ false) x xs none)
    ∙ filter-none p xs (All-tail (λ x. p x ≡ false) x xs none)

pub placed_from-append : (first : ℕ) (front back : List Node)
    → placed_from first (front ++ back) ≡ placed_from first front ++ placed_from (first + length front) back
placed_from-append first [] back = ap (λ n. placed_from n back) (omega arith)
placed_from-append first (chunk ∷ front) back =
    ap (λ rest. (first, chunk) ∷ rest)
    (placed_from-append (first + 1) front back ∙ ap (λ n. placed_from (first + 1) front ++ placed_from n back) (omega arith))

pub placed_from-from : (bound first : ℕ) (chunks : List Node) → bound ≤ first → AreFrom bound (placed_from first chunks)
placed_from-from bound first [] low = All-nil (λ (p : Placed). bound ≤ p.0)
placed_from-from bound first (chunk ∷ chunks) low =
    All-cons (λ (p : Placed). bound ≤ p.0) (first, chunk) (placed_from (first + 1) chunks) low (placed_from-from bound (first + 1) chunks (omega (arith, low)))

pub placed_from-below : (bound first : ℕ) (chunks : List Node) → first + length chunks ≤ bound → AreBelow bound (placed_from first chunks)
placed_from-below bound first [] high = All-nil (λ (p : Placed). p.0 < bound)
placed_from-below bound first (chunk ∷ chunks) high =
    All-cons (λ (p : Placed). p.0 < bound) (first, chunk) (placed_from (first + 1) chunks) (omega (arith, high)) (placed_from-below bound (first + 1) chunks (omega (arith, high)))

pub chunks-placed : (first : ℕ) (chunks : List Node) → chunks_of (placed_from first chunks) ≡ chunks
chunks-placed first [] = refl
chunks-placed first (chunk ∷ chunks) = ap (λ rest. chunk ∷ rest) (chunks-placed (first + 1) chunks)

module _ (first : ℕ) where
  abbrev pub before : Placed → Bool
  before p = nat_lt p.0 first

  abbrev pub after : Placed → Bool
  after p = not (nat_lt p.0 first)

  -- which of them are before the first and which after, where all are
  pub before-all : (placed : List Placed) → AreBelow first placed → filter before placed ≡ placed
  before-all placed below =
      filter-all before placed (All-weaker (λ (p : Placed). p.0 < first) (λ (p : Placed). before p ≡ true) (λ p h. grind (arith, h)) placed below)

  pub after-none : (placed : List Placed) → AreBelow first placed → filter after placed ≡ []
  after-none placed below =
      filter-none after placed (All-weaker (λ (p : Placed). p.0 < first) (λ (p : Placed). after p ≡ false) (λ p h. grind (arith, h)) placed below)

  pub before-none : (placed : List Placed) → AreFrom first placed → filter before placed ≡ []
  before-none placed from =
      filter-none before placed (All-weaker (λ (p : Placed). first ≤ p.0) (λ (p : Placed). before p ≡ false) (λ p h. grind (arith, h)) placed from)

  pub after-all : (placed : List Placed) → AreFrom first placed → filter after placed ≡ placed
  after-all placed from =
      filter-all after placed (All-weaker (λ (p : Placed). first ≤ p.0) (λ (p : Placed). after p ≡ true) (λ p h. grind (arith, h)) placed from)

  pub place-front : (front back : List Placed) (chunks : List Node) → AreBelow first front
      → place (front ++ back) first chunks ≡ front ++ place back first chunks
  place-front front back chunks below =
      ap (λ l. l ++ placed_from first chunks ++ filter after (front ++ back))
      (filter-append before front back ∙ ap (λ l. l ++ filter before back) (before-all front below))
      ∙ ap (λ l. front ++ filter before back ++ placed_from first chunks ++ l)
      (filter-append after front back ∙ ap (λ l. l ++ filter after back) (after-none front below))
      ∙ ap (λ l. l ++ filter after back) (append_assoc front (filter before back) (placed_from first chunks))
      ∙ append_assoc front (filter before back ++ placed_from first chunks) (filter after back)

  pub place-back : (back : List Placed) (chunks : List Node) → AreFrom first back → place back first chunks ≡ placed_from first chunks ++ back
  place-back back chunks from =
      ap (λ l. l ++ placed_from first chunks ++ filter after back) (before-none back from)
      ∙ ap (λ l. placed_from first chunks ++ l) (after-all back from)

  pub place-from : (bound : ℕ) (placed : List Placed) (chunks : List Node) → bound ≤ first → AreFrom bound placed → AreFrom bound (place placed first chunks)
  place-from bound placed chunks low from =
      All-append (λ (p : Placed). bound ≤ p.0) (filter before placed ++ placed_from first chunks) (filter after placed)
      (All-append (λ (p : Placed). bound ≤ p.0) (filter before placed) (placed_from first chunks)
      (All-filter before (λ (p : Placed). bound ≤ p.0) placed from)
      (placed_from-from bound first chunks low))
      (All-filter after (λ (p : Placed). bound ≤ p.0) placed from)

-- the sizes of all chunks add up
size-placed : (placed : List Placed) → total_size (chunks_of placed) ≡ sum_by (λ p. p.1.1) placed
size-placed [] = refl
size-placed (p ∷ placed) =
    sum_by-cons (λ (chunk : Node). chunk.1) p.1 (chunks_of placed)
    ∙ ap (λ n. p.1.1 + n) (size-placed placed)
    ∙ sym (sum_by-cons (λ (p : Placed). p.1.1) p placed)

pub place-size : (placed : List Placed) (first : ℕ) (chunks : List Node)
    → total_size (chunks_of (place placed first chunks)) ≡ total_size (chunks_of placed) + total_size chunks
place-size placed first chunks =
    let size = λ (p : Placed). p.1.1 in
    let front = filter (before first) placed in
    let back = filter (after first) placed in
    let new = placed_from first chunks in
    let all = size-placed (place placed first chunks) in
    let outer = sum_by-append size (front ++ new) back in
    let inner = sum_by-append size front new in
    let both = sum_by-filter_both (before first) (after first) (λ p. refl) size placed in
    let news : total_size chunks ≡ sum_by size new = sym (ap total_size (chunks-placed first chunks)) ∙ size-placed new in
    let olds = size-placed placed in
    omega (arith, all, outer, inner, both, news, olds)

-- the hashes are those of both
among-placed : (placed : List Placed) (hash : Hash) → is_among (hashes_of (chunks_of placed)) hash ≡ list_any (λ p. hash_eq hash p.1.0) placed
among-placed [] hash = refl
among-placed (p ∷ placed) hash = ap (λ b. hash_eq hash p.1.0 || b) (among-placed placed hash)

any-parts : {X : Type 0} (has part : X → Bool) (xs : List X)
    → list_any has xs ≡ (list_any has (filter part xs) || list_any has (filter (λ x. not (part x)) xs))
any-parts has part [] = refl
any-parts has part (x ∷ xs) = choose (part x) (any-parts has part xs)
  where
    swap : (a b c : Bool) → (a || (b || c)) ≡ (b || (a || c))
    swap true true c = refl
    swap true false c = refl
    swap false b c = refl

    regroup : (a b c : Bool) → (a || (b || c)) ≡ ((a || b) || c)
    regroup true b c = refl
    regroup false b c = refl

    choose : (b : Bool) → list_any has xs ≡ (list_any has (filter part xs) || list_any has (filter (λ x. not (part x)) xs))
        → (has x || list_any has xs)
        ≡ (list_any has (cond b (x ∷ filter part xs) (filter part xs)) || list_any has (cond (not b) (x ∷ filter (λ x. not (part x)) xs) (filter (λ x. not (part x)) xs)))
    choose true rest = ap (λ b. has x || b) rest ∙ regroup (has x) (list_any has (filter part xs)) (list_any has (filter (λ x. not (part x)) xs))
    choose false rest = ap (λ b. has x || b) rest ∙ swap (has x) (list_any has (filter part xs)) (list_any has (filter (λ x. not (part x)) xs))

between : (a b c : Bool) → ((a || b) || c) ≡ ((a || c) || b)
between true b c = refl
between false true true = refl
between false true false = refl
between false false c = ends c
  where
    ends : (c : Bool) → c ≡ (c || false)
    ends true = refl
    ends false = refl

-- what holds of one of the chunks placed
pub any-placed : (has : Placed → Bool) (placed : List Placed) (first : ℕ) (chunks : List Node)
    → list_any has (place placed first chunks) ≡ (list_any has placed || list_any has (placed_from first chunks))
any-placed has placed first chunks =
    let front = filter (before first) placed in
    let back = filter (after first) placed in
    let new = placed_from first chunks in
    list_any-append has (front ++ new) back
    ∙ ap (λ b. b || list_any has back) (list_any-append has front new)
    ∙ between (list_any has front) (list_any has new) (list_any has back)
    ∙ ap (λ b. b || list_any has new) (sym (any-parts has (before first) placed))

pub place-hashes : (placed : List Placed) (first : ℕ) (chunks : List Node)
    → AreBoth (hashes_of (chunks_of placed)) (hashes_of chunks) (hashes_of (chunks_of (place placed first chunks)))
place-hashes placed first chunks hash =
    let has = λ (p : Placed). hash_eq hash p.1.0 in
    among-placed (place placed first chunks) hash
    ∙ any-placed has placed first chunks
    ∙ ap (λ b. b || list_any has (placed_from first chunks)) (sym (among-placed placed hash))
    ∙ ap (λ b. is_among (hashes_of (chunks_of placed)) hash || b)
    (sym (among-placed (placed_from first chunks) hash) ∙ ap (λ l. is_among (hashes_of l) hash) (chunks-placed first chunks))

-- no chunk changes nothing where positions rise
pub place-none : (placed : List Placed) (first : ℕ) → Rises placed → place placed first [] ≡ placed
place-none [] first rise = refl
place-none (p ∷ placed) first (apart, rise) = choose (place-none placed first rise) (nat_lt p.0 first) refl
  where
    choose : place placed first [] ≡ placed → (b : Bool) → nat_lt p.0 first ≡ b → place (p ∷ placed) first [] ≡ p ∷ placed
    choose others true low =
        place-front first (p ∷ []) placed [] (All-cons (λ (p : Placed). p.0 < first) p [] (grind (arith, low)) (All-nil (λ (p : Placed). p.0 < first)))
        ∙ ap (λ l. p ∷ l) others
    choose others false high =
        let near : first ≤ p.0 = grind (arith, high) in
        place-back first (p ∷ placed) []
        (All-cons (λ (p : Placed). first ≤ p.0) p placed near
        (All-weaker (λ (other : Placed). p.0 + 1 ≤ other.0) (λ (other : Placed). first ≤ other.0) (λ other h. omega (arith, h, near)) placed apart))

pub rises-after : (first : ℕ) (chunks : List Node) (others : List Placed) → AreFrom (first + length chunks) others → Rises others
    → Rises (placed_from first chunks ++ others)
rises-after first [] others apart rise = rise
rises-after first (chunk ∷ chunks) others apart rise = (
  All-append (λ (p : Placed). first + 1 ≤ p.0) (placed_from (first + 1) chunks) others (placed_from-from (first + 1) (first + 1) chunks (omega arith))
      (All-weaker (λ (p : Placed). first + length (chunk ∷ chunks) ≤ p.0) (λ (p : Placed). first + 1 ≤ p.0) (λ p h. omega (arith, h)) others apart),
  rises-after (first + 1) chunks others
      (All-weaker (λ (p : Placed). first + length (chunk ∷ chunks) ≤ p.0) (λ (p : Placed). (first + 1) + length chunks ≤ p.0) (λ p h. omega (arith, h)) others apart) rise,
)
