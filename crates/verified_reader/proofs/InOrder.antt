-- What keeps the two maps of kept chunks in order.
use Rattle.std.proofs.Common.{arith, nat_cmp, ◌≡◌, ◌<◌, ◌≤◌, ◌+◌, ◌-◌, ◌^◌, ◌⊎◌, ℕ, true, false, List, [], ◌∷◌, ◌++◌, length, refl, sym, ap, subst, ◌∙◌, inl, inr}
use Rattle.std.specs.Prelude.{All, Contains, None, Some, Option, IsSome, cond, is_some, map}
use Rattle.std.specs.Option.{IfNone, IfSome}
use Rattle.std.specs.BTreeMap.{BTreeMap, IsOrdered, insert_entry, is_at}
use Rattle.std.specs.Map.{lookup, remove_entry, values_of}
use Rattle.std.specs.Bool.{IsTrue}
use Rattle.std.proofs.Math.Dec.{leb}
use Rattle.std.specs.Ordering.{eq_by_cmp, is_gt, is_lt}
use Rattle.std.proofs.lemmas.Bool.{cases_eq, cases_lt, true≢false}
use Rattle.std.proofs.lemmas.Cmp.{nat_cmp_total}
use Rattle.std.proofs.lemmas.List.{append_assoc, map-append}
use Rattle.std.proofs.lemmas.List.Elements.{All-contains, All-push, All-same, All-tail, All-weaker}
use Rattle.std.proofs.lemmas.List.Sums.{sum_by-append, sum_by-cons}
use Rattle.std.proofs.lemmas.Map.Keys.{ge_from_not_lt}
use Rattle.std.proofs.lemmas.Map.Lookups.{exact_unsigned}
use Rattle.std.proofs.lemmas.Map.Views.{All-found, Contains-from_lookup, tells_apart}
use Rattle.std.proofs.lemmas.Option.{none-some, same_Some}
use Rattle.verified_reader.specs.Kept.{Chunk, HasPlace, IsFree, IsKept, end_of, size_of_kept}
use Rattle.verified_reader.specs.declared.kept_chunks.KeptChunk.{KeptChunk}
use Rattle.verified_reader.specs.Steps.KeptChunks.{AreInOrder, IsAt, chunk_of, chunks_of}
use Rattle.verified_reader.proofs.Entries.{AllBelow, Stands, insert-last, is_found, is_kept, replace-last}

-- what holds without a value
pub at_none : {T : Type 0} {P : Type 0} (r : Option T) → P → IfNone r P
at_none None holds = holds
at_none (Some x) holds = tt

same_key : (k q : ℕ) → k ≡ q → is_at (nat_cmp k) q ≡ true
same_key k q h = grind (arith, h)

other_key : (k q : ℕ) → (q ≡ k → ⊥) → is_at (nat_cmp k) q ≡ false
other_key k q h = grind (arith, h)

module _ {X : Type 0} where
  pub one_value : (q : ℕ) (entries : List (ℕ × X)) (x y : X) → IsAt q entries x → IsAt q entries y → x ≡ y
  one_value q entries x y a b = same_Some x y (sym a ∙ b)

  -- entries have a value at a number, and at other numbers what they had
  pub record Puts (k : ℕ) (v : X) (old new : List (ℕ × X)) : Type 0 where
    pub here : IsAt k new v
    pub others : (q : ℕ) (x : X) → (q ≡ k → ⊥) → IsAt q old x → IsAt q new x
    pub back : (q : ℕ) (x : X) → (q ≡ k → ⊥) → IsAt q new x → IsAt q old x

  pub puts : (k : ℕ) (v : X) (old new : List (ℕ × X)) →
      ((q : ℕ) → lookup (is_at (nat_cmp q)) new ≡ cond (is_at (nat_cmp k) q) (Some v) (lookup (is_at (nat_cmp q)) old)) → Puts k v old new
  puts k v old new h = record {
    here = h k ∙ ap (λ b. cond b (Some v) (lookup (is_at (nat_cmp k)) old)) (same_key k k refl);
    others = λ q x apart is. h q ∙ ap (λ b. cond b (Some v) (lookup (is_at (nat_cmp q)) old)) (other_key k q apart) ∙ is;
    back = λ q x apart is. sym (h q ∙ ap (λ b. cond b (Some v) (lookup (is_at (nat_cmp q)) old)) (other_key k q apart)) ∙ is;
  }

  -- entries have no value at a number, and at other numbers what they had
  pub record Takes (k : ℕ) (old new : List (ℕ × X)) : Type 0 where
    pub gone : (x : X) → IsAt k new x → ⊥
    pub others : (q : ℕ) (x : X) → (q ≡ k → ⊥) → IsAt q old x → IsAt q new x
    pub back : (q : ℕ) (x : X) → (q ≡ k → ⊥) → IsAt q new x → IsAt q old x

  pub takes : (k : ℕ) (old new : List (ℕ × X)) →
      ((q : ℕ) → lookup (is_at (nat_cmp q)) new ≡ cond (is_at (nat_cmp k) q) None (lookup (is_at (nat_cmp q)) old)) → Takes k old new
  takes k old new h = record {
    gone = λ x is. none-some x (sym (h k ∙ ap (λ b. cond b None (lookup (is_at (nat_cmp k)) old)) (same_key k k refl)) ∙ is);
    others = λ q x apart is. h q ∙ ap (λ b. cond b None (lookup (is_at (nat_cmp q)) old)) (other_key k q apart) ∙ is;
    back = λ q x apart is. sym (h q ∙ ap (λ b. cond b None (lookup (is_at (nat_cmp q)) old)) (other_key k q apart)) ∙ is;
  }

  pub below_of : (k q : ℕ) (entries : List (ℕ × X)) (x : X) → AllBelow k entries → IsAt q entries x → q < k
  below_of k q entries x low is =
      All-contains (λ (e : ℕ × X). e.0 < k) entries (q, x) low
      (Contains-from_lookup {eq = eq_by_cmp nat_cmp} (tells_apart exact_unsigned) q x entries is)

  pub more_below : (k : ℕ) (entries : List (ℕ × X)) → AllBelow k entries → AllBelow (k + 1) entries
  more_below k entries low =
      All-weaker (λ (e : ℕ × X). e.0 < k) (λ (e : ℕ × X). e.0 < k + 1) (λ e h. omega (arith, h)) entries low

-- what isn't there isn't
pub not_some : {T P : Type 0} (r : Option T) → is_some r ≡ false → IfNone r P → P
not_some None not holds = holds
not_some (Some x) not holds = absurd (true≢false not)

-- what is there is there
pub some_then : {T : Type 0} {P : T → Type 0} (r : Option T) → is_some r ≡ true → IfSome r P → (x : T) × P x
some_then None not holds = absurd (true≢false (sym not))
some_then (Some x) not holds = (x, holds)

pub not_gt : (a b : ℕ) → a ≤ b → is_gt (nat_cmp a b) ≡ false
not_gt a b h = grind (arith, h)

pub le_from_test : (a b : ℕ) → IsTrue (leb a b) → a ≤ b
le_from_test a b h = grind (arith, h)

pub test_from_le : (a b : ℕ) → a ≤ b → IsTrue (leb a b)
test_from_le a b h = grind (arith, h)

-- a byte that is kept isn't free
pub not_free : (kept : List Chunk) (begin end place : ℕ) → begin ≤ place → place < end → IsKept kept place → IsFree kept begin end → ⊥
not_free kept begin end place near within (chunk, among, has) free =
    let begins = has.begin in
    let ends = has.end in
    elim (free chunk among) [
      | inl before ↦ omega (arith, before, ends, near)
      | inr after ↦ omega (arith, after, begins, within)
    ]

module _ {A : Type 0} where
  abbrev pub AllListed : List (ℕ × KeptChunk A) → Type 0
  AllListed entries = All (λ (e : ℕ × KeptChunk A). IsAt e.0 entries e.1) entries

  -- the entries of a map are found at their keys
  pub all_listed : (map : BTreeMap ℕ (KeptChunk A)) → IsOrdered nat_cmp map → AllListed map.entries
  all_listed map ordered = All-found nat_cmp_total map ordered

  pub pushed_chunks : (entries more : List (ℕ × KeptChunk A)) → chunks_of (entries ++ more) ≡ chunks_of entries ++ chunks_of more
  pushed_chunks entries more =
      ap (λ l. map chunk_of l) (map-append (λ (e : ℕ × KeptChunk A). e.1) entries more)
      ∙ map-append chunk_of (values_of entries) (values_of more)

  module _ (by_use : List (ℕ × KeptChunk A)) (uses : List (ℕ × ℕ)) (next size : ℕ) (h : AreInOrder by_use uses next size) where
    -- a place within no chunk isn't where one begins
    pub absent : (begin end : ℕ) → begin < end → IsFree (chunks_of by_use) begin end → (number : ℕ) → IsAt begin uses number → ⊥
    absent begin end some free number is =
        let (chunk, at, begins) = h.named begin number is in
        let not_empty = h.some number chunk at in
        elim (free (chunk_of chunk) (is_kept number by_use chunk at)) [
          | inl before ↦ omega (arith, before, not_empty, begins)
          | inr after ↦ omega (arith, after, some, begins)
        ]

    -- two chunks that begin at one place are one
    pub one_number : (number other : ℕ) (chunk next : KeptChunk A) → IsAt number by_use chunk → IsAt other by_use next →
        chunk.begin ≡ next.begin → number ≡ other
    one_number number other chunk next a b same =
        one_value next.begin uses number other (subst (λ (p : ℕ). IsAt p uses number) same (h.found number chunk a)) (h.found other next b)

    -- a chunk begins where it is found
    pub begins_there : (begin last : ℕ) (chunk : KeptChunk A) → IsAt begin uses last → IsAt last by_use chunk → chunk.begin ≡ begin
    begins_there begin last chunk at_begin at_last =
        let (same, at_same, begins) = h.named begin last at_begin in
        ap (λ (c : KeptChunk A). c.begin) (one_value last by_use chunk same at_last at_same) ∙ begins

    -- a chunk that is kept is found by where it begins
    pub found_there : (chunk : Chunk) (last : ℕ) → Contains (chunks_of by_use) chunk → IsAt chunk.begin uses last →
        (kept : KeptChunk A) × IsAt last by_use kept × (chunk_of kept ≡ chunk)
    found_there chunk last kept at_begin =
        let f = is_found by_use chunk h.listed kept in
        let there = subst (λ (c : Chunk). IsAt c.begin uses f.number) f.same (h.found f.number f.kept f.at) in
        let number = one_value chunk.begin uses f.number last there at_begin in
        (f.kept, subst (λ (n : ℕ). IsAt n by_use f.kept) number f.at, f.same)

    -- the byte where a chunk begins is kept
    pub first_kept : (begin number : ℕ) → IsAt begin uses number → IsKept (chunks_of by_use) begin
    first_kept begin number at_begin =
        let (chunk, at, begins) = h.named begin number at_begin in
        let some = h.some number chunk at in
        (chunk_of chunk, is_kept number by_use chunk at, record { begin = omega (arith, begins); end = omega (arith, begins, some) })

    -- no byte is kept past 64 bits
    pub within_64 : (place : ℕ) → 2 ^ 64 ≤ place → IsKept (chunks_of by_use) place → ⊥
    within_64 place past (chunk, among, has) =
        let f = is_found by_use chunk h.listed among in
        let here = subst (λ (c : Chunk). HasPlace c place) (sym f.same) has in
        let fits = h.fits f.number f.kept f.at in
        let end = here.end in
        omega (arith, past, fits, end)

    -- a byte isn't kept if each chunk that begins at its place or before it ends there or before it
    pub not_kept : (place : ℕ) → ((number : ℕ) (chunk : KeptChunk A) → IsAt number by_use chunk → chunk.begin ≤ place → end_of (chunk_of chunk) ≤ place) →
        IsKept (chunks_of by_use) place → ⊥
    not_kept place past (chunk, kept, has) =
        let f = is_found by_use chunk h.listed kept in
        let here = subst (λ (c : Chunk). HasPlace c place) (sym f.same) has in
        omega (arith, past f.number f.kept f.at here.begin, here.end)

    -- so it is if the last of these chunks does
    pub last_ends : (place begin last : ℕ) (chunk : KeptChunk A) → IsAt begin uses last → IsAt last by_use chunk → begin ≤ place →
        ((q : ℕ) → q ≤ place → IsSome (lookup (is_at (nat_cmp q)) uses) → is_lt (nat_cmp begin q) ≡ false) →
        end_of (chunk_of chunk) ≤ place → IsKept (chunks_of by_use) place → ⊥
    last_ends place begin last chunk at_begin at_last near greatest ends = not_kept place (λ number other at le.
        let begins_too = begins_there begin last chunk at_begin at_last in
        let there = h.found number other at in
        let not_after = ge_from_not_lt begin other.begin (greatest other.begin le (subst IsSome (sym there) refl)) in
        elim (cases_eq other.begin chunk.begin) [
          | inl equal ↦
              let is_last = one_number number last other chunk at at_last equal in
              let is_chunk = one_value last by_use other chunk (subst (λ (n : ℕ). IsAt n by_use other) is_last at) at_last in
              subst (λ (c : KeptChunk A). end_of (chunk_of c) ≤ place) (sym is_chunk) ends
          | inr differs ↦
              let before : other.begin < chunk.begin = omega (arith, not_after, begins_too, differs) in
              let apart = h.apart number last other chunk at at_last before in
              omega (arith, apart, begins_too, near)
        ])

    -- no byte is kept from a place that isn't, up to where the next chunk begins
    pub free_between : (begin end : ℕ) → (IsKept (chunks_of by_use) begin → ⊥) → ((b number : ℕ) → begin ≤ b → IsAt b uses number → end ≤ b) →
        IsFree (chunks_of by_use) begin end
    free_between begin end not_here after = λ chunk kept.
        let f = is_found by_use chunk h.listed kept in
        let begins : f.kept.begin ≡ chunk.begin = ap (λ (c : Chunk). c.begin) f.same in
        elim (cases_lt begin chunk.begin) [
          | inl later ↦ inr (let all = after f.kept.begin f.number (omega (arith, later, begins)) (h.found f.number f.kept f.at) in omega (arith, all, begins))
          | inr earlier ↦ elim (cases_lt begin (end_of chunk)) [
            | inl within ↦ absurd (not_here (chunk, kept, record { begin = earlier; end = within }))
            | inr ends ↦ inl ends
          ]
        ]

    -- other places of the uses may be forgotten and found again
    pub same_uses : (again : List (ℕ × ℕ)) → ((q x : ℕ) → IsAt q uses x → IsAt q again x) → ((q x : ℕ) → IsAt q again x → IsAt q uses x) →
        AreInOrder by_use again next size
    same_uses again there back = record {
      listed = h.listed;
      below = h.below;
      size_is = h.size_is;
      found = λ number chunk at. there chunk.begin number (h.found number chunk at);
      named = λ begin number at. h.named begin number (back begin number at);
      some = h.some;
      fits = h.fits;
      apart = h.apart;
    }

    -- a use that was added is taken away again
    pub undone : (begin end number : ℕ) (mid again : List (ℕ × ℕ)) → begin < end → IsFree (chunks_of by_use) begin end →
        Puts begin number uses mid → Takes begin mid again → AreInOrder by_use again next size
    undone begin end number mid again some free p t =
        same_uses again
        (λ q x at. let differs = not_there q x at in t.others q x differs (p.others q x differs at))
        (λ q x at. let differs = not_gone q x at in p.back q x differs (t.back q x differs at))
      where
        not_there : (q x : ℕ) → IsAt q uses x → q ≡ begin → ⊥
        not_there q x at same = absent begin end some free x (subst (λ (b : ℕ). IsAt b uses x) same at)

        not_gone : (q x : ℕ) → IsAt q again x → q ≡ begin → ⊥
        not_gone q x at same = t.gone x (subst (λ (b : ℕ). IsAt b again x) same at)

    module _ (chunk : KeptChunk A) (new : List (ℕ × KeptChunk A)) (again : List (ℕ × ℕ)) where
      -- where the others stand after a chunk was moved
      pub record Moves (last : ℕ) : Type 0 where
        pub here : IsAt next new chunk
        pub others : (q : ℕ) (x : KeptChunk A) → (q ≡ last → ⊥) → IsAt q by_use x → IsAt q new x
        pub back : (q : ℕ) (x : KeptChunk A) → (q ≡ next → ⊥) → IsAt q new x → (q ≡ last → ⊥) × IsAt q by_use x

      -- a chunk is moved by three changes: an entry is made after all others, its own is taken, and the new one takes its place
      pub moves : (last : ℕ) (empty : KeptChunk A) (more less : List (ℕ × KeptChunk A)) → IsAt last by_use chunk →
          Puts next empty by_use more → Takes last more less → Puts next chunk less new → Moves last
      moves last empty more less at_last p t again' = record {
        here = again'.here;
        others = λ q x not_last at.
            let not_next : q ≡ next → ⊥ = λ same. next_is_free q x at same in
            again'.others q x not_next (t.others q x not_last (p.others q x not_next at));
        back = λ q x not_next at.
            let there = again'.back q x not_next at in
            let not_last : q ≡ last → ⊥ = λ same. t.gone x (subst (λ (n : ℕ). IsAt n less x) same there) in
            (not_last, p.back q x not_next (t.back q x not_last there));
      }
        where
          next_is_free : (q : ℕ) (x : KeptChunk A) → IsAt q by_use x → q ≡ next → ⊥
          next_is_free q x at same = let lower = below_of next q by_use x h.below at in omega (arith, lower, same)

      -- then it stands last
      pub stands_last : (last : ℕ) (empty : KeptChunk A) (more less : List (ℕ × KeptChunk A)) (s : Stands last by_use chunk) →
          more ≡ insert_entry nat_cmp by_use next empty → less ≡ remove_entry (is_at (nat_cmp last)) more → new ≡ insert_entry nat_cmp less next chunk →
          new ≡ s.front ++ (s.back ++ (next, chunk) ∷ [])
      stands_last last empty more less s more_is less_is new_is =
          let low : AllBelow next (s.front ++ s.back) = s.others next h.below in
          let less_too : less ≡ (s.front ++ s.back) ++ (next, empty) ∷ [] =
          less_is ∙ ap (λ l. remove_entry (is_at (nat_cmp last)) l) (more_is ∙ insert-last next by_use empty h.below)
          ∙ s.without ((next, empty) ∷ []) ∙ sym (append_assoc s.front s.back ((next, empty) ∷ [])) in
          new_is ∙ ap (λ l. insert_entry nat_cmp l next chunk) less_too ∙ replace-last next (s.front ++ s.back) empty chunk low
          ∙ append_assoc s.front s.back ((next, chunk) ∷ [])

      -- a chunk is put after all others
      pub pushed : AllListed new → 0 < length chunk.bytes.items → chunk.begin + length chunk.bytes.items < 2 ^ 64 → IsFree (chunks_of by_use) chunk.begin (chunk.begin + length chunk.bytes.items) →
          new ≡ by_use ++ (next, chunk) ∷ [] → Puts next chunk by_use new → Puts chunk.begin next uses again →
          AreInOrder new again (next + 1) (size + (length chunk.bytes.items + 128))
      pushed listed some fits free is p u = record {
        listed = listed;
        below = All-same (λ (e : ℕ × KeptChunk A). e.0 < next + 1) new (by_use ++ (next, chunk) ∷ []) is
            (All-push (λ (e : ℕ × KeptChunk A). e.0 < next + 1) by_use (next, chunk) (more_below next by_use h.below) (omega arith));
        size_is =
            let all : size_of_kept (chunks_of new) ≡ size_of_kept (chunks_of by_use) + size_of_kept (chunks_of ((next, chunk) ∷ [])) =
            ap (λ l. size_of_kept (chunks_of l)) is ∙ ap size_of_kept (pushed_chunks by_use ((next, chunk) ∷ []))
            ∙ sum_by-append (λ (chunk : Chunk). length chunk.bytes + 128) (chunks_of by_use) (chunks_of ((next, chunk) ∷ [])) in
            omega (arith, all, h.size_is);
        found = found;
        named = named;
        some = λ number other at. elim (was number other at) [
          | inl (is_next, same) ↦ subst (λ (c : KeptChunk A). 0 < length c.bytes.items) (sym same) some
          | inr old ↦ h.some number other old
        ];
        fits = λ number other at. elim (was number other at) [
          | inl (is_next, same) ↦ subst (λ (c : KeptChunk A). c.begin + length c.bytes.items < 2 ^ 64) (sym same) fits
          | inr old ↦ h.fits number other old
        ];
        apart = apart;
      }
        where
          was : (number : ℕ) (other : KeptChunk A) → IsAt number new other → ((number ≡ next) × (other ≡ chunk)) ⊎ IsAt number by_use other
          was number other at = elim (cases_eq number next) [
            | inl same ↦ inl (same, one_value next new other chunk (subst (λ (n : ℕ). IsAt n new other) same at) p.here)
            | inr differs ↦ inr (p.back number other differs at)
          ]

          found : (number : ℕ) (other : KeptChunk A) → IsAt number new other → IsAt other.begin again number
          found number other at = elim (was number other at) [
            | inl (is_next, same) ↦
                subst (λ (n : ℕ). IsAt other.begin again n) (sym is_next) (subst (λ (c : KeptChunk A). IsAt c.begin again next) (sym same) u.here)
            | inr old ↦
                let there = h.found number other old in
                u.others other.begin number
                (λ same. absent chunk.begin (chunk.begin + length chunk.bytes.items) (omega (arith, some)) free number (subst (λ (b : ℕ). IsAt b uses number) same there))
                there
          ]

          named : (begin number : ℕ) → IsAt begin again number → (other : KeptChunk A) × IsAt number new other × (other.begin ≡ begin)
          named begin number at = elim (cases_eq begin chunk.begin) [
            | inl same ↦
                let is_next : number ≡ next = one_value chunk.begin again number next (subst (λ (b : ℕ). IsAt b again number) same at) u.here in
                (chunk, subst (λ (n : ℕ). IsAt n new chunk) (sym is_next) p.here, sym same)
            | inr differs ↦
                let (other, old, begins) = h.named begin number (u.back begin number differs at) in
                let lower = below_of next number by_use other h.below old in
                (other, p.others number other (λ same. omega (arith, lower, same)) old, begins)
          ]

          apart : (number other : ℕ) (a b : KeptChunk A) → IsAt number new a → IsAt other new b → a.begin < b.begin → a.begin + length a.bytes.items ≤ b.begin
          apart number other a b at bt before = elim (was number a at) [
            | inl (a_next, a_is) ↦ elim (was other b bt) [
              | inl (b_next, b_is) ↦ absurd (omega (arith, before, ap (λ (c : KeptChunk A). c.begin) a_is, ap (λ (c : KeptChunk A). c.begin) b_is))
              | inr b_old ↦ after_chunk a b a_is (free (chunk_of b) (is_kept other by_use b b_old)) before
            ]
            | inr a_old ↦ elim (was other b bt) [
              | inl (b_next, b_is) ↦ before_chunk a b b_is (free (chunk_of a) (is_kept number by_use a a_old)) before
              | inr b_old ↦ h.apart number other a b a_old b_old before
            ]
          ]
            where
              after_chunk : (a b : KeptChunk A) → a ≡ chunk → (end_of (chunk_of b) ≤ chunk.begin) ⊎ (chunk.begin + length chunk.bytes.items ≤ b.begin) →
                  a.begin < b.begin → a.begin + length a.bytes.items ≤ b.begin
              after_chunk a b is (inl early) before = absurd (omega (arith, early, before, ap (λ (c : KeptChunk A). c.begin) is))
              after_chunk a b is (inr late) before =
                  subst (λ (c : KeptChunk A). c.begin + length c.bytes.items ≤ b.begin) (sym is) late

              before_chunk : (a b : KeptChunk A) → b ≡ chunk → (end_of (chunk_of a) ≤ chunk.begin) ⊎ (chunk.begin + length chunk.bytes.items ≤ a.begin) →
                  a.begin < b.begin → a.begin + length a.bytes.items ≤ b.begin
              before_chunk a b is (inl early) before = omega (arith, early, ap (λ (c : KeptChunk A). c.begin) is)
              before_chunk a b is (inr late) before = absurd (omega (arith, late, before, ap (λ (c : KeptChunk A). c.begin) is))

      -- the first chunk goes
      pub popped : AllListed new → (first : ℕ) → by_use ≡ (first, chunk) ∷ new → IsAt first by_use chunk → Takes first by_use new → Takes chunk.begin uses again →
          AreInOrder new again next (size - (length chunk.bytes.items + 128))
      popped listed first is at_first t u = record {
        listed = listed;
        below = All-tail (λ (e : ℕ × KeptChunk A). e.0 < next) (first, chunk) new
            (subst (λ l. AllBelow next l) is h.below);
        size_is =
            let all : size_of_kept (chunks_of by_use) ≡ (length chunk.bytes.items + 128) + size_of_kept (chunks_of new) =
            ap (λ l. size_of_kept (chunks_of l)) is ∙ sum_by-cons (λ (chunk : Chunk). length chunk.bytes + 128) (chunk_of chunk) (chunks_of new) in
            omega (arith, all, h.size_is);
        found = λ number other at.
            let differs = not_first number other at in
            let old = t.back number other differs at in
            u.others other.begin number (λ same. differs (one_number number first other chunk old at_first same)) (h.found number other old);
        named = λ begin number at.
            let differs : begin ≡ chunk.begin → ⊥ = λ same. u.gone number (subst (λ (b : ℕ). IsAt b again number) same at) in
            let (other, old, begins) = h.named begin number (u.back begin number differs at) in
            let not : number ≡ first → ⊥ = λ same. differs (sym begins ∙ ap (λ (c : KeptChunk A). c.begin) (one_value first by_use other chunk (subst (λ (n : ℕ). IsAt n by_use other) same old) at_first)) in
            (other, t.others number other not old, begins);
        some = λ number other at. h.some number other (t.back number other (not_first number other at) at);
        fits = λ number other at. h.fits number other (t.back number other (not_first number other at) at);
        apart = λ number other a b at bt. h.apart number other a b (t.back number a (not_first number a at) at) (t.back other b (not_first other b bt) bt);
      }
        where
          not_first : (number : ℕ) (other : KeptChunk A) → IsAt number new other → number ≡ first → ⊥
          not_first number other at same = t.gone other (subst (λ (n : ℕ). IsAt n new other) same at)

      -- a chunk is taken from among the others and put after them
      pub moved : (last : ℕ) (front back : List (ℕ × KeptChunk A)) → by_use ≡ front ++ (last, chunk) ∷ back → new ≡ front ++ (back ++ (next, chunk) ∷ []) →
          IsAt last by_use chunk → AllListed new → Moves last → Puts chunk.begin next uses again → AreInOrder new again (next + 1) size
      moved last front back was is at_last listed m u = record {
        listed = listed;
        below = All-weaker (λ (e : ℕ × KeptChunk A). IsAt e.0 new e.1) (λ (e : ℕ × KeptChunk A). e.0 < next + 1) (λ e at. number_below e.0 e.1 at) new listed;
        size_is =
            let f : Chunk → ℕ = λ chunk. length chunk.bytes + 128 in
            let one = chunks_of ((next, chunk) ∷ []) in
            let a : size_of_kept (chunks_of by_use) ≡ size_of_kept (chunks_of front) + ((length chunk.bytes.items + 128) + size_of_kept (chunks_of back)) =
            ap (λ l. size_of_kept (chunks_of l)) was ∙ ap size_of_kept (pushed_chunks front ((last, chunk) ∷ back))
            ∙ sum_by-append f (chunks_of front) (chunks_of ((last, chunk) ∷ back))
            ∙ ap (λ (n : ℕ). size_of_kept (chunks_of front) + n) (sum_by-cons f (chunk_of chunk) (chunks_of back)) in
            let b : size_of_kept (chunks_of (back ++ (next, chunk) ∷ [])) ≡ size_of_kept (chunks_of back) + size_of_kept one =
            ap size_of_kept (pushed_chunks back ((next, chunk) ∷ [])) ∙ sum_by-append f (chunks_of back) one in
            let c : size_of_kept (chunks_of new) ≡ size_of_kept (chunks_of front) + size_of_kept (chunks_of (back ++ (next, chunk) ∷ [])) =
            ap (λ l. size_of_kept (chunks_of l)) is ∙ ap size_of_kept (pushed_chunks front (back ++ (next, chunk) ∷ []))
            ∙ sum_by-append f (chunks_of front) (chunks_of (back ++ (next, chunk) ∷ [])) in
            omega (arith, a, b, c, h.size_is);
        found = λ number other at. elim (cases_eq number next) [
          | inl same ↦
              let value = one_value next new other chunk (subst (λ (n : ℕ). IsAt n new other) same at) m.here in
              subst (λ (n : ℕ). IsAt other.begin again n) (sym same) (subst (λ (c : KeptChunk A). IsAt c.begin again next) (sym value) u.here)
          | inr differs ↦
              let (not_last, old) = m.back number other differs at in
              u.others other.begin number (λ same. not_last (one_number number last other chunk old at_last same)) (h.found number other old)
        ];
        named = λ begin number at. elim (cases_eq begin chunk.begin) [
          | inl same ↦
              let is_next : number ≡ next = one_value chunk.begin again number next (subst (λ (b : ℕ). IsAt b again number) same at) u.here in
              (chunk, subst (λ (n : ℕ). IsAt n new chunk) (sym is_next) m.here, sym same)
          | inr differs ↦
              let (other, old, begins) = h.named begin number (u.back begin number differs at) in
              let not : number ≡ last → ⊥ = λ same. differs (sym begins ∙ ap (λ (c : KeptChunk A). c.begin) (one_value last by_use other chunk (subst (λ (n : ℕ). IsAt n by_use other) same old) at_last)) in
              (other, m.others number other not old, begins)
        ];
        some = λ number other at. let (old, there) = before number other at in h.some old other there;
        fits = λ number other at. let (old, there) = before number other at in h.fits old other there;
        apart = λ number other a b at bt.
            let (a_old, a_there) = before number a at in
            let (b_old, b_there) = before other b bt in
            h.apart a_old b_old a b a_there b_there;
      }
        where
          number_below : (number : ℕ) (other : KeptChunk A) → IsAt number new other → number < next + 1
          number_below number other at = elim (cases_eq number next) [
            | inl same ↦ omega (arith, same)
            | inr differs ↦
                let (not_last, old) = m.back number other differs at in
                let lower = below_of next number by_use other h.below old in
                omega (arith, lower)
          ]

          before : (number : ℕ) (other : KeptChunk A) → IsAt number new other → (old : ℕ) × IsAt old by_use other
          before number other at = elim (cases_eq number next) [
            | inl same ↦
                let value = one_value next new other chunk (subst (λ (n : ℕ). IsAt n new other) same at) m.here in
                (last, subst (λ (c : KeptChunk A). IsAt last by_use c) (sym value) at_last)
            | inr differs ↦ let (not_last, old) = m.back number other differs at in (number, old)
          ]
