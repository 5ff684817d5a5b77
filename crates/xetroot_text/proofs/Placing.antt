-- What is kept of placed pairs when pairs are added and ranges end.
use Rattle.std.proofs.Common.{arith, ◌≡◌, ◌+◌, ◌^◌, ◌<◌, ◌≤◌, ℕ, Bool, true, false, List, [], ◌∷◌, ◌++◌, ◌&&◌, ◌||◌, nat_eq, nat_lt, length, length-append, refl, sym, ap, subst, ◌∙◌}
use Rattle.std.proofs.lemmas.Bool.{or_from, or_parts}
use Rattle.xet_roots.specs.Groups.{Node}
use Rattle.xet_roots.specs.Roots.{total_size}
use Rattle.upload_session.specs.Session.{Placed, Parts, StandFor, chunks_of, is_taken, meet, overlaps, place, placed_from}
use Rattle.upload_session.specs.declared.kept_hashes.NoHashes.{NoHashes}
use Rattle.upload_session.proofs.Placing.{any-placed, place-size}
use Rattle.upload_session.proofs.Positions.{meet_overlaps, taken-overlaps}
use Rattle.upload_session.proofs.Exchanging.{in_parts}
use Rattle.chunk_ranges.specs.declared.chunk_range.ChunkRange as chunk_range
use Rattle.xetroot_text.specs.Steps.PlacedPairs.{Gathered, StandAmong, StandForPlaced, StandForPairs, Stands}

-- adjacent positions don't take one after them
pub taken-after : (first : ℕ) (chunks : List Node) (position : ℕ) → first + length chunks ≤ position → is_taken (placed_from first chunks) position ≡ false
taken-after first [] position far = refl
taken-after first (chunk ∷ chunks) position far =
    or_from (nat_eq first position) (is_taken (placed_from (first + 1) chunks) position) (grind (arith, far))
    (taken-after (first + 1) chunks position (omega (arith, far)))

-- where none of some positions is taken, nor the next one, none of them all is
overlaps-more : (placed : List Placed) (first count : ℕ) → overlaps placed first count ≡ false → is_taken placed (first + count) ≡ false
    → overlaps placed first (count + 1) ≡ false
overlaps-more [] first count free next = refl
overlaps-more (p ∷ placed) first count free next =
    let (here, others) = or_parts (nat_lt first (p.0 + 1) && nat_lt p.0 (first + count)) (overlaps placed first count) free in
    let (other, rest) = or_parts (nat_eq p.0 (first + count)) (is_taken placed (first + count)) next in
    or_from (nat_lt first (p.0 + 1) && nat_lt p.0 (first + (count + 1))) (overlaps placed first (count + 1)) (grind (arith, here, other))
    (overlaps-more placed first count others rest)

-- some pairs take no position that was taken
free-among : (before : List Placed) (first : ℕ) (range : List Node) (pairs : List Placed) → StandAmong before first range pairs → 0 < length range
    → (overlaps before first (length range) ≡ false) × (pairs ≡ place before first range)
free-among before first [] pairs is some = absurd (omega (arith, some))
free-among before first (pair ∷ more) pairs is some = is

taken-among : (before : List Placed) (first : ℕ) (range : List Node) (pairs : List Placed) → StandAmong before first range pairs
    → is_taken pairs (first + length range) ≡ is_taken before (first + length range)
taken-among before first [] pairs is = ap (λ l. is_taken l (first + 0)) is
taken-among before first (pair ∷ more) pairs (free, is) =
    let next = first + length (pair ∷ more) in
    ap (λ l. is_taken l next) is ∙ any-placed _ before first (pair ∷ more)
    ∙ ap (λ b. is_taken before next || b) (taken-after first (pair ∷ more) next (omega arith))
    ∙ or_false (is_taken before next)
  where
    or_false : (b : Bool) → (b || false) ≡ b
    or_false true = refl
    or_false false = refl

more-among : (before : List Placed) (first : ℕ) (range : List Node) (pairs : List Placed) (pair : Node) → StandAmong before first range pairs
    → is_taken before (first + length range) ≡ false
    → StandAmong before first (range ++ pair ∷ []) (place pairs (first + length range) (pair ∷ []))
more-among before first [] pairs pair is free =
    let here : first + 0 ≡ first = omega arith in (
      sym (taken-overlaps before first) ∙ ap (is_taken before) (sym here) ∙ free,
      ap (λ l. place l (first + 0) (pair ∷ [])) is ∙ ap (λ n. place before n (pair ∷ [])) here,
    )
more-among before first (p ∷ more) pairs pair (apart, is) free =
    let range = p ∷ more in
    let longer : length (range ++ pair ∷ []) ≡ length range + 1 = omega (arith, length-append range (pair ∷ [])) in (
      ap (overlaps before first) longer ∙ overlaps-more before first (length range) apart free,
      ap (λ l. place l (first + length range) (pair ∷ [])) is ∙ in_parts before first range (pair ∷ []) apart,
    )

module _ {C A : Type 0} (kind : chunk_range.Ghosts C A) where
  abbrev StandIn : Parts C NoHashes → List Node → ℕ → ℕ → ℕ → List Placed → Type 0
  StandIn = StandForPlaced kind

  abbrev Ended : Parts C NoHashes → List Placed → Type 0
  Ended = Stands kind

  module _ (session : Parts C NoHashes) (range : List Node) (first next total : ℕ) (pairs : List Placed) (h : StandIn session range first next total pairs) where
    -- only what is ended can have the next position
    pub taken-held : is_taken pairs next ≡ is_taken h.before next
    taken-held = subst (λ n. is_taken pairs n ≡ is_taken h.before n) h.adjacent (taken-among h.before first range pairs h.among)

    pub StandForPlaced-push : (pair : Node) → is_taken h.before next ≡ false → next + 1 < 2 ^ 64 → total + pair.1 < 2 ^ 64
        → StandIn session (range ++ pair ∷ []) first (next + 1) (total + pair.1) (place pairs next (pair ∷ []))
    StandForPlaced-push pair free low fits = record {
      before = h.before;
      ended = h.ended;
      among = subst (λ n. StandAmong h.before first (range ++ pair ∷ []) (place pairs n (pair ∷ []))) h.adjacent
          (more-among h.before first range pairs pair h.among (subst (λ n. is_taken h.before n ≡ false) (sym h.adjacent) free));
      adjacent = omega (arith, h.adjacent, length-append range (pair ∷ []));
      low = low;
      total_is = let size = place-size pairs next (pair ∷ []) in omega (arith, h.total_is, size);
      fits = fits;
    }

    -- an open range with a pair is placed: no position is taken, and the sizes are the sum of all
    pub StandForPlaced-free : 0 < length range → meet session.runs first (length range) ≡ false
    StandForPlaced-free some =
        meet_overlaps kind session.runs h.before first (length range) h.ended.0 some ∙ (free-among h.before first range pairs h.among some).0

    pub StandForPlaced-total : 0 < length range → total ≡ session.size + total_size range
    StandForPlaced-total some =
        let size = ap (λ l. total_size (chunks_of l)) (free-among h.before first range pairs h.among some).1 ∙ place-size h.before first range in
        omega (arith, size, h.total_is, h.ended.1)

    -- once it is placed, the session stands for all pairs
    pub StandForPlaced-ended : 0 < length range → (new : Parts C NoHashes)
        → (((placed : List Placed) → StandFor kind session.runs placed → StandFor kind new.runs (place placed first range)))
        → new.size ≡ total → Ended new pairs
    StandForPlaced-ended some new places size =
        let is = (free-among h.before first range pairs h.among some).1 in
        (subst (λ l. StandFor kind new.runs l) (sym is) (places h.before h.ended.0), size ∙ h.total_is)

  -- ranges that begin
  pub StandForPlaced-none : (session : Parts C NoHashes) (range : List Node) → session.runs ≡ [] → session.size ≡ 0 → range ≡ [] → StandIn session range 0 0 0 []
  StandForPlaced-none session range no_runs size none = subst (λ l. StandIn session l 0 0 0 []) (sym none) (record {
    before = [];
    ended = (subst (λ runs. StandFor kind runs []) (sym no_runs) refl, size);
    among = refl;
    adjacent = refl;
    low = omega arith;
    total_is = refl;
    fits = omega arith;
  })

  -- ranges with a pair more
  pub StandForPairs-push : (ranges : Gathered C) (pairs : List Placed) (next : ℕ) → StandForPairs kind ranges pairs next → is_taken pairs next ≡ false
      → (pair : Node) (items : List Node) (after total : ℕ) → items ≡ ranges.range ++ pair ∷ [] → after ≡ ranges.next + 1 → total ≡ ranges.total + pair.1
      → after < 2 ^ 64 → total < 2 ^ 64
      → StandIn ranges.session items ranges.first (next + 1) total (place pairs next (pair ∷ [])) × (after ≡ next + 1)
  StandForPairs-push ranges pairs next (hold, at) free pair items after total items_are after_is total_is low fits =
      let taken = taken-held ranges.session ranges.range ranges.first next ranges.total pairs hold in (
        subst (λ n. StandIn ranges.session items ranges.first (next + 1) n (place pairs next (pair ∷ []))) (sym total_is)
            (subst (λ l. StandIn ranges.session l ranges.first (next + 1) (ranges.total + pair.1) (place pairs next (pair ∷ []))) (sym items_are)
            (StandForPlaced-push ranges.session ranges.range ranges.first next ranges.total pairs hold pair (sym taken ∙ free)
            (omega (arith, after_is, at, low)) (omega (arith, total_is, fits)))),
        omega (arith, after_is, at),
      )

  -- where no range is open the session stands for all pairs
  pub stands-all : (session : Parts C NoHashes) (range : List Node) (first next total : ℕ) (pairs : List Placed) → StandIn session range first next total pairs
      → range ≡ [] → Ended session pairs
  stands-all session range first next total pairs hold none =
      let is = subst (λ l. StandAmong hold.before first l pairs) none hold.among in subst (Ended session) (sym is) hold.ended
