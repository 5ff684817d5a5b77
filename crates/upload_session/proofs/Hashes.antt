-- Hashes that are put into a set one after another, and removed.
use Rattle.std.proofs.Common.{◌≡◌, ◌+◌, ◌<◌, ◌≤◌, ℕ, Bool, true, false, not, List, [], ◌∷◌, ◌++◌, ◌&&◌, ◌||◌, get_or, length, take, refl, sym, ap, subst, ◌∙◌}
use Rattle.std.specs.Prelude.{Option, Some, None, cond, is_some}
use Rattle.std.specs.List.{IsDistinct}
use Rattle.std.proofs.lemmas.Bool.{true≢false}
use Rattle.std.proofs.lemmas.Cmp.{nat_list_eq_equiv}
use Rattle.std.specs.Cmp.Lexicographic.{same_text}
use Rattle.std.proofs.lemmas.List.{get_or-map, length-map, take_all, take_more}
use Rattle.std.proofs.lemmas.List.Folds.{list_any_more, list_any-append}
use Rattle.std.specs.Map.{keys_of}
use Rattle.std.proofs.lemmas.Map.Entries.{length-keys_of}
use Rattle.std.proofs.lemmas.Map.Keys.{IsDistinct-push}
use Rattle.std.proofs.lemmas.Map.Made.{is_some-lookup, length-from_same_keys}
use Rattle.xet_hash.specs.FiniteMap.{value_at, IsFiniteMap, Sets}
use Rattle.xet_roots.specs.Groups.{Node}
use Rattle.upload_session.specs.Hashes.{Hash, hash_eq, hashes_of, is_among, AreNew}

-- one more hash
pub is_among-next : (hashes : List Hash) (i : ℕ) (next hash : Hash) → i < length hashes → get_or hashes i next ≡ next
    → is_among (take (i + 1) hashes) hash ≡ (is_among (take i hashes) hash || hash_eq hash next)
is_among-next hashes i next hash inside is =
    list_any_more (hash_eq hash) hashes i next inside ∙ ap (λ other. is_among (take i hashes) hash || hash_eq hash other) is

is_some-without : {V : Type 0} (b : Bool) (found : Option V) → is_some (cond b None found) ≡ (is_some found && not b)
is_some-without true None = refl
is_some-without true (Some value) = refl
is_some-without false None = refl
is_some-without false (Some value) = refl

neither : (s a b : Bool) → ((s && not a) && not b) ≡ (s && not (a || b))
neither true true b = refl
neither true false b = refl
neither false a b = refl

-- whether a map has a hash once another was taken out
is_some-removed : {V : Type 0} (old new : List (Hash × V)) (key hash : Hash) → Sets hash_eq old key None new
    → is_some (value_at hash_eq new hash) ≡ (is_some (value_at hash_eq old hash) && not (hash_eq hash key))
is_some-removed old new key hash sets =
    ap is_some (sets hash ∙ ap (λ b. cond b None (value_at hash_eq old hash)) (nat_list_eq_equiv.symm key hash))
    ∙ is_some-without (hash_eq hash key) (value_at hash_eq old hash)

-- the first hashes are taken out, and then the next one
pub removed-next : {V : Type 0} (first old new : List (Hash × V)) (hashes : List Hash) (i : ℕ) (next : Hash)
    → i < length hashes → get_or hashes i next ≡ next
    → ((hash : Hash) → is_some (value_at hash_eq old hash) ≡ (is_some (value_at hash_eq first hash) && not (is_among (take i hashes) hash)))
    → Sets hash_eq old next None new
    → (hash : Hash) → is_some (value_at hash_eq new hash) ≡ (is_some (value_at hash_eq first hash) && not (is_among (take (i + 1) hashes) hash))
removed-next first old new hashes i next inside is before sets hash =
    let b = hash_eq hash next in
    let s = is_some (value_at hash_eq first hash) in
    is_some-removed old new next hash sets
    ∙ ap (λ found. found && not b) (before hash)
    ∙ neither s (is_among (take i hashes) hash) b
    ∙ ap (λ among. s && not among) (sym (is_among-next hashes i next hash inside is))

-- the map has what it had and the hashes so far, and those that it hadn't are listed once
abbrev pub KeepsSoFar : {V : Type 0} → List (Hash × V) → List (Hash × V) → List Hash → List Hash → Type 0
KeepsSoFar first now new done =
    ((hash : Hash) → is_some (value_at hash_eq now hash) ≡ (is_some (value_at hash_eq first hash) || is_among done hash))
    × IsDistinct hash_eq new
    × ((hash : Hash) → is_among new hash ≡ (is_among done hash && not (is_some (value_at hash_eq first hash))))

or-false : (b : Bool) → b ≡ (b || false)
or-false true = refl
or-false false = refl

pub keeps-none : {V : Type 0} (first : List (Hash × V)) (new : List Hash) → new ≡ [] → KeepsSoFar first first new []
unfolding IsDistinct
keeps-none first new none = (
  λ hash. or-false (is_some (value_at hash_eq first hash)),
  subst (λ (l : List Hash). IsDistinct hash_eq l) (sym none) tt,
  λ hash. ap (λ (l : List Hash). is_among l hash) none,
)

-- what was kept so far is given up by taking the listed hashes out
was : (now first among done : Bool) → now ≡ (first || done) → among ≡ (done && not first) → first ≡ (now && not among)
was now first among done has lists =
    given first done ∙ sym (ap (λ n. n && not among) has ∙ ap (λ a. (first || done) && not a) lists)
  where
    given : (first done : Bool) → first ≡ ((first || done) && not (done && not first))
    given true true = refl
    given true false = refl
    given false true = refl
    given false false = refl

pub given_up : {V : Type 0} (first now : List (Hash × V)) (new done : List Hash) → KeepsSoFar first now new done
    → (hash : Hash) → is_some (value_at hash_eq first hash) ≡ (is_some (value_at hash_eq now hash) && not (is_among new hash))
given_up first now new done keeps hash =
    was (is_some (value_at hash_eq now hash)) (is_some (value_at hash_eq first hash)) (is_among new hash) (is_among done hash) (keeps.0 hash) (keeps.2 hash)

-- the next chunk's hash among the hashes so far
pub among-next : (chunks : List Node) (i : ℕ) (next : Node) (hash : Hash) → i < length chunks → next ≡ get_or chunks i next
    → is_among (take (i + 1) (hashes_of chunks)) hash ≡ (is_among (take i (hashes_of chunks)) hash || hash_eq hash next.0)
among-next chunks i next hash inside is =
    is_among-next (hashes_of chunks) i next.0 hash
    (subst (λ n. i < n) (sym (length-map chunks (λ (chunk : Node). chunk.0))) inside)
    (get_or-map (λ (chunk : Node). chunk.0) chunks i next next.0 inside ∙ ap (λ (chunk : Node). chunk.0) (sym is))

-- one more hash at the end
among-push : (hashes : List Hash) (next hash : Hash) → is_among (hashes ++ next ∷ []) hash ≡ (is_among hashes hash || hash_eq hash next)
among-push hashes next hash =
    list_any-append (hash_eq hash) hashes (next ∷ [])
    ∙ ap (λ b. is_among hashes hash || b) (sym (or-false (hash_eq hash next)))

-- what holds of a hash where it holds of an equal one, and of each other one
by_equal : (P : Hash → Type 0) (next hash : Hash) → P next → (hash_eq hash next ≡ false → P hash) → P hash
by_equal P next hash at_next else_ = choose (hash_eq hash next) refl
  where
    choose : (b : Bool) → hash_eq hash next ≡ b → P hash
    choose true same = subst P (sym (same_text hash next (sym same))) at_next
    choose false other = else_ other

module _ {V : Type 0} (first now : List (Hash × V)) (new done : List Hash) (keeps : KeepsSoFar first now new done) where
  -- where the next hash isn't in the map, and is listed, but not put in
  pub given_up-listed : (next : Hash) → is_some (value_at hash_eq now next) ≡ false
      → (hash : Hash) → is_some (value_at hash_eq first hash) ≡ (is_some (value_at hash_eq now hash) && not (is_among (new ++ next ∷ []) hash))
  given_up-listed next lacks hash = by_equal
      (λ hash. is_some (value_at hash_eq first hash) ≡ (is_some (value_at hash_eq now hash) && not (is_among (new ++ next ∷ []) hash)))
      next hash
      (given_up first now new done keeps next ∙ ap (λ n. n && not (is_among new next)) lacks
      ∙ sym (ap (λ n. n && not (is_among (new ++ next ∷ []) next)) lacks))
      (λ other. given_up first now new done keeps hash
      ∙ ap (λ a. is_some (value_at hash_eq now hash) && not a)
      (or-false (is_among new hash) ∙ ap (λ b. is_among new hash || b) (sym other) ∙ sym (among-push new next hash)))

  -- where the next hash is in the map
  pub keeps-old : (next : Hash) → is_some (value_at hash_eq now next) ≡ true
      → (more : List Hash) → ((hash : Hash) → is_among more hash ≡ (is_among done hash || hash_eq hash next))
      → KeepsSoFar first now new more
  keeps-old next has more is = (
    λ hash. keeps.0 hash ∙ by_equal (λ hash. (is_some (value_at hash_eq first hash) || is_among done hash) ≡ (is_some (value_at hash_eq first hash) || is_among more hash))
        next hash
        (either (is_some (value_at hash_eq first next)) (is_among done next) (sym (keeps.0 next) ∙ has)
        ∙ ap (λ b. is_some (value_at hash_eq first next) || (is_among done next || b)) (sym (nat_list_eq_equiv.refl next))
        ∙ ap (λ b. is_some (value_at hash_eq first next) || b) (sym (is next)))
        (λ other. ap (λ b. is_some (value_at hash_eq first hash) || b) (or-false (is_among done hash) ∙ ap (λ b. is_among done hash || b) (sym other) ∙ sym (is hash))),
    keeps.1,
    λ hash. keeps.2 hash ∙ by_equal (λ hash. (is_among done hash && not (is_some (value_at hash_eq first hash))) ≡ (is_among more hash && not (is_some (value_at hash_eq first hash))))
        next hash
        (either_not (is_some (value_at hash_eq first next)) (is_among done next) (sym (keeps.0 next) ∙ has)
        ∙ ap (λ b. (is_among done next || b) && not (is_some (value_at hash_eq first next))) (sym (nat_list_eq_equiv.refl next))
        ∙ ap (λ b. b && not (is_some (value_at hash_eq first next))) (sym (is next)))
        (λ other. ap (λ b. b && not (is_some (value_at hash_eq first hash))) (or-false (is_among done hash) ∙ ap (λ b. is_among done hash || b) (sym other) ∙ sym (is hash))),
  )
    where
      either : (s d : Bool) → (s || d) ≡ true → (s || d) ≡ (s || (d || true))
      either true d h = refl
      either false true h = refl
      either false false h = h

      either_not : (s d : Bool) → (s || d) ≡ true → (d && not s) ≡ ((d || true) && not s)
      either_not true true h = refl
      either_not true false h = refl
      either_not false true h = refl
      either_not false false h = h

  -- where it isn't, and is put in and listed
  pub keeps-new : (next : Hash) → is_some (value_at hash_eq now next) ≡ false
      → (more : List Hash) → ((hash : Hash) → is_among more hash ≡ (is_among done hash || hash_eq hash next))
      → (value : V) (after : List (Hash × V)) → Sets hash_eq now next (Some value) after
      → KeepsSoFar first after (new ++ next ∷ []) more
  keeps-new next lacks more is value after sets = (
    λ hash. ap is_some (sets hash ∙ ap (λ b. cond b (Some value) (value_at hash_eq now hash)) (nat_list_eq_equiv.symm next hash))
        ∙ put (hash_eq hash next) (value_at hash_eq now hash)
        ∙ ap (λ n. n || hash_eq hash next) (keeps.0 hash)
        ∙ regroup (is_some (value_at hash_eq first hash)) (is_among done hash) (hash_eq hash next)
        ∙ ap (λ b. is_some (value_at hash_eq first hash) || b) (sym (is hash)),
    IsDistinct-push nat_list_eq_equiv new next keeps.1 (keeps.2 next ∙ neither_first (is_some (value_at hash_eq first next)) (is_among done next) (sym (keeps.0 next) ∙ lacks)),
    λ hash. among-push new next hash ∙ by_equal (λ hash. (is_among new hash || hash_eq hash next) ≡ (is_among more hash && not (is_some (value_at hash_eq first hash))))
        next hash
        (ap (λ b. is_among new next || b) (nat_list_eq_equiv.refl next)
        ∙ fresh (is_some (value_at hash_eq first next)) (is_among done next) (is_among new next) (sym (keeps.0 next) ∙ lacks)
        ∙ ap (λ b. (is_among done next || b) && not (is_some (value_at hash_eq first next))) (sym (nat_list_eq_equiv.refl next))
        ∙ ap (λ b. b && not (is_some (value_at hash_eq first next))) (sym (is next)))
        (λ other. ap (λ b. is_among new hash || b) other ∙ sym (or-false (is_among new hash)) ∙ keeps.2 hash
        ∙ ap (λ b. b && not (is_some (value_at hash_eq first hash))) (or-false (is_among done hash) ∙ ap (λ b. is_among done hash || b) (sym other) ∙ sym (is hash))),
  )
    where
      put : (b : Bool) (found : Option V) → is_some (cond b (Some value) found) ≡ (is_some found || b)
      put true None = refl
      put true (Some old) = refl
      put false None = refl
      put false (Some old) = refl

      regroup : (s d b : Bool) → ((s || d) || b) ≡ (s || (d || b))
      regroup true d b = refl
      regroup false d b = refl

      neither_first : (s d : Bool) → (s || d) ≡ false → (d && not s) ≡ false
      neither_first true true h = refl
      neither_first true false h = refl
      neither_first false true h = h
      neither_first false false h = refl

      fresh : (s d n : Bool) → (s || d) ≡ false → (n || true) ≡ ((d || true) && not s)
      fresh true d n h = absurd (true≢false h)
      fresh false true n h = absurd (true≢false h)
      fresh false false true h = refl
      fresh false false false h = refl

-- what isn't in a map is new, where the map has the known hashes
pub new_where_known : {V : Type 0} (first : List (Hash × V)) (hashes new known : List Hash) → IsDistinct hash_eq new
    → ((hash : Hash) → is_among new hash ≡ (is_among hashes hash && not (is_some (value_at hash_eq first hash))))
    → ((hash : Hash) → is_some (value_at hash_eq first hash) ≡ is_among known hash) → AreNew known hashes new
new_where_known first hashes new known once lists has = record {
  each_once = once;
  among = λ hash. lists hash ∙ ap (λ b. is_among hashes hash && not b) (has hash);
}

-- the keys of a map are the hashes that it knows
pub among-keys : {V : Type 0} (entries : List (Hash × V)) (hash : Hash) → is_some (value_at hash_eq entries hash) ≡ is_among (keys_of entries) hash
among-keys entries hash = is_some-lookup (hash_eq hash) entries

-- a list of them, each once, is as long
pub length-keys : {V : Type 0} (entries : List (Hash × V)) (distinct : List Hash) → IsFiniteMap hash_eq entries
    → ((hash : Hash) → is_some (value_at hash_eq entries hash) ≡ is_among distinct hash) → IsDistinct hash_eq distinct
    → length entries ≡ length distinct
length-keys entries distinct map knows once =
    sym (length-keys_of entries)
    ∙ length-from_same_keys nat_list_eq_equiv (keys_of entries) distinct map once (λ hash. sym (among-keys entries hash) ∙ knows hash)

-- all keys of the entries are listed
pub listed-all : {V : Type 0} (items entries : List (Hash × V)) (hashes : List Hash) (n : ℕ) → hashes ≡ take n (keys_of items) → length items ≤ n → items ≡ entries
    → hashes ≡ keys_of entries
listed-all {V} items entries hashes n listed all is =
    listed
    ∙ take_all n (keys_of items) (subst (λ m. m ≤ n) (sym (length-keys_of items)) all)
    ∙ ap (λ (l : List (Hash × V)). keys_of l) is

-- the key of the next entry is listed
pub listed-next : {V : Type 0} (items : List (Hash × V)) (hashes more : List Hash) (i : ℕ) (item : Hash × V) → i < length items → item ≡ get_or items i item
    → hashes ≡ take i (keys_of items) → more ≡ hashes ++ item.0 ∷ [] → more ≡ take (i + 1) (keys_of items)
listed-next {V} items hashes more i item inside is listed pushed =
    let first = λ (entry : Hash × V). entry.0 in
    pushed
    ∙ ap (λ (l : List Hash). l ++ item.0 ∷ []) listed
    ∙ ap (λ (h : Hash). take i (keys_of items) ++ h ∷ []) (ap first is ∙ sym (get_or-map first items i item [] inside))
    ∙ sym (take_more (keys_of items) i [] (subst (λ n. i < n) (sym (length-keys_of items)) inside))
