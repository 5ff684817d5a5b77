-- Placing the chunks of two lists, each at its position.
use Rattle.std.proofs.Common.{arith, ◌≡◌, ◌≢◌, ◌+◌, ◌<◌, ◌≤◌, ◌⊎◌, inl, inr, ℕ, Bool, true, false, not, List, [], ◌∷◌, ◌++◌, ◌&&◌, ◌||◌, nat_eq, nat_lt, length, refl, sym, ap, subst, ◌∙◌, append_assoc}
use Rattle.std.specs.Prelude.{All, filter}
use Rattle.std.specs.List.{list_any}
use Rattle.std.proofs.lemmas.List.{append-nil}
use Rattle.std.proofs.lemmas.List.Elements.{All-nil, All-cons, All-head, All-tail, All-append, All-weaker}
use Rattle.std.proofs.lemmas.List.Folds.{list_any-append}
use Rattle.xet_roots.specs.Groups.{Node}
use Rattle.upload_session.specs.Session.{Placed, Put, placed_from, place, place_each, is_taken, overlaps, AreDisjoint, ArePlaced, Rises}
use Rattle.upload_session.proofs.Placing.{AreBelow, before, after, any-placed, place-back, place-front, place-from, place-none, placed_from-below, placed_from-from, rises-after}
use Rattle.upload_session.proofs.Positions.{neither, both, overlaps-run, taken-overlaps}
use Rattle.upload_session.proofs.Exchanging.{exchange, in_parts}

-- one chunk at its position
abbrev pub put_one : List Placed → Placed → List Placed
put_one placed p = place placed p.0 (p.1 ∷ [])

pub each-append : (placed front back : List Placed) → place_each placed (front ++ back) ≡ place_each (place_each placed front) back
each-append placed [] back = refl
each-append placed (p ∷ front) back = each-append (put_one placed p) front back

-- two chunks at different positions can be swapped
swap-two : (placed : List Placed) (p q : Placed) → p.0 ≢ q.0 → put_one (put_one placed p) q ≡ put_one (put_one placed q) p
swap-two placed p q other = exchange placed p.0 q.0 (p.1 ∷ []) (q.1 ∷ []) (sides (nat_lt p.0 q.0) refl)
  where
    sides : (b : Bool) → nat_lt p.0 q.0 ≡ b → (p.0 + length (p.1 ∷ []) ≤ q.0) ⊎ (q.0 + length (q.1 ∷ []) ≤ p.0)
    sides true low = inl (grind (arith, low))
    sides false high = inr (grind (arith, high, other))

-- a chunk that isn't among others can be placed before them or after them
pub swap-each : (placed : List Placed) (p : Placed) (others : List Placed) → is_taken others p.0 ≡ false
    → place_each (put_one placed p) others ≡ put_one (place_each placed others) p
swap-each placed p [] free = refl
swap-each placed p (q ∷ others) free =
    let (one, rest) = neither (nat_eq q.0 p.0) (is_taken others p.0) free in
    let other : p.0 ≢ q.0 = λ same. grind (arith, one, same) in
    ap (λ l. place_each l others) (swap-two placed p q other)
    ∙ swap-each (put_one placed q) p others rest

pub each-swap : (placed first second : List Placed) → AreDisjoint first second
    → place_each (place_each placed first) second ≡ place_each (place_each placed second) first
each-swap placed [] second apart = refl
each-swap placed (p ∷ first) second apart =
    each-swap (put_one placed p) first second (All-tail (λ (p : Placed). is_taken second p.0 ≡ false) p first apart)
    ∙ ap (λ l. place_each l first) (swap-each placed p second (All-head (λ (p : Placed). is_taken second p.0 ≡ false) p first apart))

-- what follows from two facts of all
pub all-both : {X : Type 0} (P Q R : X → Type 0) → ((x : X) → P x → Q x → R x) → (xs : List X) → All P xs → All Q xs → All R xs
all-both P Q R f [] p q = All-nil R
all-both P Q R f (x ∷ xs) p q =
    All-cons R x xs (f x (All-head P x xs p) (All-head Q x xs q)) (all-both P Q R f xs (All-tail P x xs p) (All-tail Q x xs q))

-- where positions rise, placing each makes the list
each-after : (front others : List Placed) → Rises others → All (λ (p : Placed). AreBelow p.0 front) others → place_each front others ≡ front ++ others
each-after front [] rise below = sym (append-nil front)
each-after front (p ∷ others) (from, rise) below =
    let low = All-head (λ (p : Placed). AreBelow p.0 front) p others below in
    let more = All-tail (λ (p : Placed). AreBelow p.0 front) p others below in
    let one : put_one front p ≡ front ++ p ∷ [] =
    ap (λ l. put_one l p) (sym (append-nil front)) ∙ place-front p.0 front [] (p.1 ∷ []) low in
    ap (λ l. place_each l others) one
    ∙ each-after (front ++ p ∷ []) others rise
    (all-both (λ (d : Placed). AreBelow d.0 front) (λ (d : Placed). p.0 + 1 ≤ d.0) (λ (d : Placed). AreBelow d.0 (front ++ p ∷ []))
    (λ d below high. All-append (λ (q : Placed). q.0 < d.0) front (p ∷ []) below
    (All-cons (λ (q : Placed). q.0 < d.0) p [] (omega (arith, high)) (All-nil (λ (q : Placed). q.0 < d.0)))) others more from)
    ∙ append_assoc front (p ∷ []) others

pub each-none : (placed : List Placed) → Rises placed → place_each [] placed ≡ placed
each-none placed rise = each-after [] placed rise (none placed)
  where
    none : (others : List Placed) → All (λ (p : Placed). AreBelow p.0 []) others
    none [] = All-nil (λ (p : Placed). AreBelow p.0 [])
    none (p ∷ others) = All-cons (λ (p : Placed). AreBelow p.0 []) p others (All-nil (λ (q : Placed). q.0 < p.0)) (none others)

-- either list can be placed first
pub commute : (first second : List Placed) → Rises first → Rises second → AreDisjoint first second
    → place_each first second ≡ place_each second first
commute first second rise rises apart =
    ap (λ l. place_each l second) (sym (each-none first rise))
    ∙ each-swap [] first second apart
    ∙ ap (λ l. place_each l first) (each-none second rises)

-- positions still rise after one more
pub rises-one : (placed : List Placed) (p : Placed) → Rises placed → is_taken placed p.0 ≡ false → Rises (put_one placed p)
rises-one [] p rise free = (All-nil (λ (q : Placed). p.0 + 1 ≤ q.0), tt)
rises-one (q ∷ placed) p (from, rise) free =
    let (one, rest) = neither (nat_eq q.0 p.0) (is_taken placed p.0) free in
    choose (rises-one placed p rise rest) one (nat_lt q.0 p.0) refl
  where
    choose : Rises (put_one placed p) → nat_eq q.0 p.0 ≡ false → (b : Bool) → nat_lt q.0 p.0 ≡ b → Rises (put_one (q ∷ placed) p)
    choose more one true low =
        subst Rises (sym (place-front p.0 (q ∷ []) placed (p.1 ∷ []) (All-cons (λ (other : Placed). other.0 < p.0) q [] (grind (arith, low)) (All-nil (λ (other : Placed). other.0 < p.0)))))
        (place-from p.0 (q.0 + 1) placed (p.1 ∷ []) (grind (arith, low)) from, more)
    choose more one false high =
        let near : p.0 + 1 ≤ q.0 = grind (arith, high, one) in
        let all = All-cons (λ (other : Placed). p.0 + 1 ≤ other.0) q placed near
        (All-weaker (λ (other : Placed). q.0 + 1 ≤ other.0) (λ (other : Placed). p.0 + 1 ≤ other.0) (λ other h. omega (arith, h, near)) placed from) in
        subst Rises (sym (place-back p.0 (q ∷ placed) (p.1 ∷ []) (All-weaker (λ (other : Placed). p.0 + 1 ≤ other.0) (λ (other : Placed). p.0 ≤ other.0) (λ other h. omega (arith, h)) (q ∷ placed) all)))
        (all, (from, rise))

-- placing a list that one chunk was placed among is placing the list and then the chunk
each-one : (placed others : List Placed) (p : Placed) → Rises others → is_taken others p.0 ≡ false
    → place_each placed (put_one others p) ≡ put_one (place_each placed others) p
each-one placed others p rise free =
    let front = filter (before p.0) others in
    let back = filter (after p.0) others in
    let whole : front ++ back ≡ others = ap (λ l. l ++ back) (sym (append-nil front)) ∙ place-none others p.0 rise in
    let split : is_taken (front ++ back) p.0 ≡ false = ap (λ l. is_taken l p.0) whole ∙ free in
    each-append placed (front ++ p ∷ []) back
    ∙ ap (λ l. place_each l back) (each-append placed front (p ∷ []))
    ∙ swap-each (place_each placed front) p back (back_free front back p split)
    ∙ ap (λ l. put_one l p) (sym (each-append placed front back) ∙ ap (place_each placed) whole)
  where
    back_free : (front back : List Placed) (p : Placed) → is_taken (front ++ back) p.0 ≡ false → is_taken back p.0 ≡ false
    back_free [] back p free = free
    back_free (q ∷ front) back p free = back_free front back p (neither (nat_eq q.0 p.0) (is_taken (front ++ back) p.0) free).1

-- whether a position is taken after one more chunk
taken-one : (placed : List Placed) (p : Placed) (position : ℕ) → is_taken (put_one placed p) position ≡ (is_taken placed position || (nat_eq p.0 position || false))
taken-one placed p position = any-placed (λ (q : Placed). nat_eq q.0 position) placed p.0 (p.1 ∷ [])

-- whichever two lists are put together first
pub associate : (first second third : List Placed) → Rises second → Rises third → AreDisjoint third second
    → place_each (place_each first second) third ≡ place_each first (place_each second third)
associate first second [] rise rises apart = refl
associate first second (p ∷ third) rise (from, rises) apart =
    let free = All-head (λ (p : Placed). is_taken second p.0 ≡ false) p third apart in
    let others = All-tail (λ (p : Placed). is_taken second p.0 ≡ false) p third apart in
    ap (λ l. place_each l third) (sym (each-one first second p rise free))
    ∙ associate first (put_one second p) third (rises-one second p rise free) rises
    (all-both (λ (d : Placed). is_taken second d.0 ≡ false) (λ (d : Placed). p.0 + 1 ≤ d.0) (λ (d : Placed). is_taken (put_one second p) d.0 ≡ false)
    (λ d apart high. taken-one second p d.0 ∙ both (is_taken second d.0) (nat_eq p.0 d.0 || false) apart (both (nat_eq p.0 d.0) false (grind (arith, high)) refl))
    third others from)

-- adjacent chunks are placed together
each-more : (placed : List Placed) (first : ℕ) (chunk : Node) (chunks : List Node) (others : List Placed)
    → overlaps placed first (length (chunk ∷ chunks)) ≡ false
    → place_each placed (placed_from first (chunk ∷ chunks) ++ others) ≡ place_each (place placed first (chunk ∷ chunks)) others
each-more placed first chunk [] others free = refl
each-more placed first chunk (next ∷ chunks) others free =
    let more = next ∷ chunks in
    let free_all : overlaps placed first (length more + 1) ≡ false = ap (overlaps placed first) {x = length more + 1} {y = length (chunk ∷ more)} (omega arith) ∙ free in
    let free_more : overlaps (place placed first (chunk ∷ [])) (first + 1) (length more) ≡ false =
    any-placed _ placed first (chunk ∷ [])
    ∙ both (overlaps placed (first + 1) (length more)) ((nat_lt (first + 1) (first + 1) && nat_lt first ((first + 1) + length more)) || false)
    (later placed (length more) free_all) (grind arith) in
    let free_one = only placed (length more) free_all in
    each-more (place placed first (chunk ∷ [])) (first + 1) next chunks others free_more
    ∙ ap (λ l. place_each l others) (in_parts placed first (chunk ∷ []) more free_one)
  where
    later : (placed : List Placed) (count : ℕ) → overlaps placed first (count + 1) ≡ false → overlaps placed (first + 1) count ≡ false
    later [] count free = refl
    later (p ∷ placed) count free =
        let (one, rest) = neither (nat_lt first (p.0 + 1) && nat_lt p.0 (first + (count + 1))) (overlaps placed first (count + 1)) free in
        both (nat_lt (first + 1) (p.0 + 1) && nat_lt p.0 ((first + 1) + count)) (overlaps placed (first + 1) count) (grind (arith, one)) (later placed count rest)

    only : (placed : List Placed) (count : ℕ) → overlaps placed first (count + 1) ≡ false → overlaps placed first 1 ≡ false
    only [] count free = refl
    only (p ∷ placed) count free =
        let (one, rest) = neither (nat_lt first (p.0 + 1) && nat_lt p.0 (first + (count + 1))) (overlaps placed first (count + 1)) free in
        both (nat_lt first (p.0 + 1) && nat_lt p.0 (first + 1)) (overlaps placed first 1) (grind (arith, one)) (only placed count rest)

pub each-run : (placed : List Placed) (first : ℕ) (chunks : List Node) (others : List Placed) → 0 < length chunks
    → overlaps placed first (length chunks) ≡ false
    → place_each placed (placed_from first chunks ++ others) ≡ place_each (place placed first chunks) others
each-run placed first [] others none free = absurd (omega (arith, none))
each-run placed first (chunk ∷ chunks) others _ free = each-more placed first chunk chunks others free

-- ---- puts

assoc-or : (a b c : Bool) → ((a || b) || c) ≡ (a || (b || c))
assoc-or true b c = refl
assoc-or false b c = refl

or-false : (b : Bool) → (b || false) ≡ b
or-false true = refl
or-false false = refl

-- what holds of one of the chunks of both lists
any-each : (has : Placed → Bool) (placed others : List Placed)
    → list_any has (place_each placed others) ≡ (list_any has placed || list_any has others)
any-each has placed [] = sym (or-false (list_any has placed))
any-each has placed (p ∷ others) =
    any-each has (put_one placed p) others
    ∙ ap (λ b. b || list_any has others) (any-placed has placed p.0 (p.1 ∷ []) ∙ ap (λ b. list_any has placed || b) (or-false (has p)))
    ∙ assoc-or (list_any has placed) (has p) (list_any has others)

-- positions still rise after others
each-rises : (placed others : List Placed) → Rises placed → Rises others → AreDisjoint others placed → Rises (place_each placed others)
each-rises placed [] rise rises apart = rise
each-rises placed (p ∷ others) rise (from, rises) apart =
    let free = All-head (λ (p : Placed). is_taken placed p.0 ≡ false) p others apart in
    each-rises (put_one placed p) others (rises-one placed p rise free) rises
    (all-both (λ (d : Placed). is_taken placed d.0 ≡ false) (λ (d : Placed). p.0 + 1 ≤ d.0) (λ (d : Placed). is_taken (put_one placed p) d.0 ≡ false)
    (λ d apart high. taken-one placed p d.0 ∙ both (is_taken placed d.0) (nat_eq p.0 d.0 || false) apart (both (nat_eq p.0 d.0) false (grind (arith, high)) refl))
    others (All-tail (λ (p : Placed). is_taken placed p.0 ≡ false) p others apart) from)

rises-run : (first : ℕ) (chunks : List Node) → Rises (placed_from first chunks)
rises-run first chunks = subst Rises (append-nil (placed_from first chunks)) (rises-after first chunks [] (All-nil (λ (p : Placed). first + length chunks ≤ p.0)) tt)

-- free positions are free one by one
one-free : (placed : List Placed) (first count position : ℕ) → overlaps placed first count ≡ false → first ≤ position → position < first + count
    → is_taken placed position ≡ false
one-free [] first count position free from before = refl
one-free (p ∷ placed) first count position free from before =
    let (one, rest) = neither (nat_lt first (p.0 + 1) && nat_lt p.0 (first + count)) (overlaps placed first count) free in
    both (nat_eq p.0 position) (is_taken placed position) (grind (arith, one, from, before)) (one-free placed first count position rest from before)

run-apart : (first : ℕ) (chunks : List Node) (placed : List Placed) → overlaps placed first (length chunks) ≡ false → AreDisjoint (placed_from first chunks) placed
run-apart first chunks placed free =
    all-both (λ (d : Placed). first ≤ d.0) (λ (d : Placed). d.0 < first + length chunks) (λ (d : Placed). is_taken placed d.0 ≡ false)
    (λ d from before. one-free placed first (length chunks) d.0 free from before)
    (placed_from first chunks) (placed_from-from first first chunks (omega arith)) (placed_from-below (first + length chunks) first chunks (omega arith))

apart-back : (these front back : List Placed) → AreDisjoint these (front ++ back) → AreDisjoint these back
apart-back these front back apart =
    All-weaker (λ (p : Placed). is_taken (front ++ back) p.0 ≡ false) (λ (p : Placed). is_taken back p.0 ≡ false)
    (λ p free. (neither (is_taken front p.0) (is_taken back p.0) (sym (list_any-append (λ (q : Placed). nat_eq q.0 p.0) front back) ∙ free)).1) these apart

-- no chunk of others is at one of the positions of a run of theirs
free-of-run : (placed : List Placed) (first : ℕ) (chunks : List Node) → 0 < length chunks → AreDisjoint placed (placed_from first chunks)
    → overlaps placed first (length chunks) ≡ false
free-of-run [] first chunks some apart = refl
free-of-run (p ∷ placed) first chunks some apart =
    let free = All-head (λ (p : Placed). is_taken (placed_from first chunks) p.0 ≡ false) p placed apart in
    let met = sym (overlaps-run p.0 1 (omega arith) first chunks some) ∙ sym (taken-overlaps (placed_from first chunks) p.0) ∙ free in
    both (nat_lt first (p.0 + 1) && nat_lt p.0 (first + length chunks)) (overlaps placed first (length chunks)) (grind (arith, met))
    (free-of-run placed first chunks some (All-tail (λ (p : Placed). is_taken (placed_from first chunks) p.0 ≡ false) p placed apart))

-- placing a list that a put was placed among is placing the list and then the put
each-place : (placed others : List Placed) (first : ℕ) (chunks : List Node) → Rises others → 0 < length chunks → overlaps others first (length chunks) ≡ false
    → overlaps placed first (length chunks) ≡ false
    → place_each placed (place others first chunks) ≡ place (place_each placed others) first chunks
each-place placed others first chunks rise some free free_of_placed =
    let front = filter (before first) others in
    let back = filter (after first) others in
    let run = placed_from first chunks in
    let whole : front ++ back ≡ others = ap (λ l. l ++ back) (sym (append-nil front)) ∙ place-none others first rise in
    let apart = apart-back run front back (subst (AreDisjoint run) (sym whole) (run-apart first chunks others free)) in
    let free_of_both : overlaps (place_each placed others) first (length chunks) ≡ false =
    any-each (λ (p : Placed). nat_lt first (p.0 + 1) && nat_lt p.0 (first + length chunks)) placed others
    ∙ both (overlaps placed first (length chunks)) (overlaps others first (length chunks)) free_of_placed free in
    each-append placed (front ++ run) back
    ∙ ap (λ l. place_each l back) (each-append placed front run)
    ∙ each-swap (place_each placed front) run back apart
    ∙ ap (λ l. place_each l run) (sym (each-append placed front back) ∙ ap (place_each placed) whole)
    ∙ ap (place_each (place_each placed others)) (sym (append-nil run))
    ∙ each-run (place_each placed others) first chunks [] some free_of_both

-- what puts have placed rises
pub puts-rise : (puts : List Put) (placed : List Placed) → ArePlaced puts placed → Rises placed
puts-rise [] placed none = subst Rises (sym none) tt
puts-rise (put ∷ earlier) placed (earlier_placed, were, some, free, is) =
    subst Rises (sym (is ∙ sym (ap (place_each earlier_placed) (sym (append-nil (placed_from put.0 put.1))) ∙ each-run earlier_placed put.0 put.1 [] some free)))
    (each-rises earlier_placed (placed_from put.0 put.1) (puts-rise earlier earlier_placed were) (rises-run put.0 put.1) (run-apart put.0 put.1 earlier_placed free))

-- the chunks of two rows of puts are those of all the puts
pub puts-joined : (puts more : List Put) (placed others : List Placed) → ArePlaced puts placed → ArePlaced more others → AreDisjoint placed others
    → ArePlaced (more ++ puts) (place_each placed others)
puts-joined puts [] placed others were none apart = subst (ArePlaced puts) (sym (ap (place_each placed) none)) were
puts-joined puts (put ∷ more) placed others were (earlier, these, some, free, is) apart =
    let split : (p : Placed) → is_taken others p.0 ≡ (is_taken earlier p.0 || is_taken (placed_from put.0 put.1) p.0) =
    λ p. ap (λ l. is_taken l p.0) is ∙ any-placed (λ (q : Placed). nat_eq q.0 p.0) earlier put.0 put.1 in
    let from_earlier : AreDisjoint placed earlier =
    All-weaker (λ (p : Placed). is_taken others p.0 ≡ false) (λ (p : Placed). is_taken earlier p.0 ≡ false)
    (λ p free. (neither (is_taken earlier p.0) (is_taken (placed_from put.0 put.1) p.0) (sym (split p) ∙ free)).0) placed apart in
    let from_run : AreDisjoint placed (placed_from put.0 put.1) =
    All-weaker (λ (p : Placed). is_taken others p.0 ≡ false) (λ (p : Placed). is_taken (placed_from put.0 put.1) p.0 ≡ false)
    (λ p free. (neither (is_taken earlier p.0) (is_taken (placed_from put.0 put.1) p.0) (sym (split p) ∙ free)).1) placed apart in
    let free_of_placed = free-of-run placed put.0 put.1 some from_run in (
      place_each placed earlier,
      puts-joined puts more placed earlier were these from_earlier,
      some,
      any-each (λ (p : Placed). nat_lt put.0 (p.0 + 1) && nat_lt p.0 (put.0 + length put.1)) placed earlier
          ∙ both (overlaps placed put.0 (length put.1)) (overlaps earlier put.0 (length put.1)) free_of_placed free,
      ap (place_each placed) is ∙ each-place placed earlier put.0 put.1 (puts-rise more earlier these) some free free_of_placed,
    )
