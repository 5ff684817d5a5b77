-- Numbers that are put into an index one after another, and taken out.
use Rattle.std.proofs.Common.{◌≡◌, ◌+◌, ◌<◌, ◌≤◌, ℕ, Bool, true, false, List, [], ◌∷◌, ◌++◌, ◌||◌, get_or, length, take, refl, sym, ap, subst, ◌∙◌, append_assoc}
use Rattle.std.specs.Prelude.{Option, Some, None, cond, is_some}
use Rattle.std.specs.Cmp.Lexicographic.{same_text}
use Rattle.std.specs.Map.{keys_of, lookup}
use Rattle.std.specs.Option.{option_or}
use Rattle.std.proofs.lemmas.Bool.{true≢false}
use Rattle.std.proofs.lemmas.Cmp.{nat_list_eq_equiv}
use Rattle.std.proofs.lemmas.List.{append-nil, take_more}
use Rattle.std.proofs.lemmas.List.Folds.{list_any_more, list_any-append}
use Rattle.std.proofs.lemmas.Map.Entries.{length-keys_of}
use Rattle.std.proofs.lemmas.Map.Made.{is_some-lookup, length-from_same_keys, length-le_from_is_member}
use Rattle.xet_hash.specs.FiniteMap.{Sets}
use Rattle.hash_numbers.specs.Index.{Entry, Hash, hash_eq, number_of, AreSame, IsIndex, SameNumbers}
use Rattle.hash_numbers.specs.Steps.Removing.{is_among, IsWithout}

-- what holds of a hash where it holds of an equal one, and of each other one
by_equal : (P : Hash → Type 0) (next hash : Hash) → P next → (hash_eq hash next ≡ false → P hash) → P hash
by_equal P next hash at_next else_ = choose (hash_eq hash next) refl
  where
    choose : (b : Bool) → hash_eq hash next ≡ b → P hash
    choose true same = subst P (sym (same_text hash next (sym same))) at_next
    choose false other = else_ other

-- `or` after a case distinction
cond-or : (b : Bool) (number : ℕ) (first second : Option ℕ) → cond b (Some number) (option_or first second) ≡ option_or (cond b (Some number) first) second
cond-or true number first second = refl
cond-or false number first second = refl

lookup-append : (test : Hash → Bool) (first second : List Entry) → lookup test (first ++ second) ≡ option_or (lookup test first) (lookup test second)
lookup-append test [] second = refl
lookup-append test (entry ∷ first) second =
    ap (cond (test entry.0) (Some entry.1)) (lookup-append test first second)
    ∙ cond-or (test entry.0) entry.1 (lookup test first) (lookup test second)

-- one more pair
number_of-push : (first done : List Entry) (next : Entry) (hash : Hash)
    → number_of (first ++ (done ++ next ∷ [])) hash ≡ option_or (number_of (first ++ done) hash) (cond (hash_eq hash next.0) (Some next.1) None)
number_of-push first done next hash =
    ap (λ (entries : List Entry). number_of entries hash) (sym (append_assoc first done (next ∷ [])))
    ∙ lookup-append (hash_eq hash) (first ++ done) (next ∷ [])

-- the number that was there stays
or-there : (b : Bool) (number : ℕ) (found : Option ℕ) → (b ≡ true → is_some found ≡ true) → found ≡ option_or found (cond b (Some number) None)
or-there false number None there = refl
or-there false number (Some old) there = refl
or-there true number None there = absurd (true≢false (sym (there refl)))
or-there true number (Some old) there = refl

-- the number that is put where none was
or-put : (b : Bool) (number : ℕ) (found : Option ℕ) → (b ≡ true → is_some found ≡ false) → cond b (Some number) found ≡ option_or found (cond b (Some number) None)
or-put false number None none = refl
or-put false number (Some old) none = refl
or-put true number None none = refl
or-put true number (Some old) none = absurd (true≢false (none refl))

-- where there is none, a case distinction finds none either
none-either : (b : Bool) (found : Option ℕ) → is_some found ≡ false → cond b None found ≡ None
none-either true found none = refl
none-either false None none = refl
none-either false (Some old) none = absurd (true≢false none)

-- the map has the numbers that came first, and taking out the listed hashes makes it what it was
pub record PutSoFar (first now : List Entry) (added : List Hash) (done : List Entry) : Type 0 where
  pub numbers : SameNumbers now (first ++ done)
  pub back : IsWithout now added first

pub puts-none : (first : List Entry) (added : List Hash) → added ≡ [] → PutSoFar first first added []
puts-none first added none = record {
  numbers = λ hash. ap (λ (entries : List Entry). number_of entries hash) (sym (append-nil first));
  back = λ hash. ap (λ (hashes : List Hash). cond (is_among hashes hash) None (number_of first hash)) (sym none);
}

-- where the next hash has a number
pub puts-old : (first now : List Entry) (added : List Hash) (done : List Entry) (next : Entry) → PutSoFar first now added done
    → is_some (number_of now next.0) ≡ true → PutSoFar first now added (done ++ next ∷ [])
puts-old first now added done next so_far has = record {
  numbers = λ hash.
      so_far.numbers hash
      ∙ or-there (hash_eq hash next.0) next.1 (number_of (first ++ done) hash)
      (λ same. ap (λ (h : Hash). is_some (number_of (first ++ done) h)) (same_text hash next.0 (sym same)) ∙ ap is_some (sym (so_far.numbers next.0)) ∙ has)
      ∙ sym (number_of-push first done next hash);
  back = so_far.back;
}

-- one more hash at the end of a list
among-push : (hashes : List Hash) (next hash : Hash) → is_among (hashes ++ next ∷ []) hash ≡ (is_among hashes hash || hash_eq hash next)
among-push hashes next hash =
    list_any-append (hash_eq hash) hashes (next ∷ []) ∙ ap (λ b. is_among hashes hash || b) (or-false (hash_eq hash next))
  where
    or-false : (b : Bool) → (b || false) ≡ b
    or-false true = refl
    or-false false = refl

or-true : (b : Bool) → (b || true) ≡ true
or-true true = refl
or-true false = refl

or-else : (b : Bool) → (b || false) ≡ b
or-else true = refl
or-else false = refl

-- a hash that had no number is listed, and may be put in
pub back-listed : (first now after : List Entry) (added : List Hash) (next : Hash) → IsWithout now added first
    → is_some (number_of now next) ≡ false → ((hash : Hash) → hash_eq hash next ≡ false → number_of after hash ≡ number_of now hash)
    → IsWithout after (added ++ next ∷ []) first
back-listed first now after added next back lacks others hash = by_equal
    (λ hash. number_of first hash ≡ cond (is_among (added ++ next ∷ []) hash) None (number_of after hash)) next hash
    (back next ∙ none-either (is_among added next) (number_of now next) lacks
    ∙ ap (λ b. cond b None (number_of after next)) (sym (among-push added next next ∙ ap (λ b. is_among added next || b) (nat_list_eq_equiv.refl next) ∙ or-true (is_among added next))))
    (λ other. back hash
    ∙ ap (λ b. cond b None (number_of now hash)) (sym (among-push added next hash ∙ ap (λ b. is_among added hash || b) other ∙ or-else (is_among added hash)))
    ∙ ap (λ found. cond (is_among (added ++ next ∷ []) hash) None found) (sym (others hash other)))

-- where the next hash has no number, and gets one
pub puts-new : (first now : List Entry) (added : List Hash) (done : List Entry) (next : Entry) (after : List Entry) → PutSoFar first now added done
    → is_some (number_of now next.0) ≡ false → Sets hash_eq now next.0 (Some next.1) after → PutSoFar first after (added ++ next.0 ∷ []) (done ++ next ∷ [])
puts-new first now added done next after so_far lacks sets = record {
  numbers = λ hash.
      sets hash
      ∙ ap (λ b. cond b (Some next.1) (number_of now hash)) (nat_list_eq_equiv.symm next.0 hash)
      ∙ ap (cond (hash_eq hash next.0) (Some next.1)) (so_far.numbers hash)
      ∙ or-put (hash_eq hash next.0) next.1 (number_of (first ++ done) hash)
      (λ same. ap (λ (h : Hash). is_some (number_of (first ++ done) h)) (same_text hash next.0 (sym same)) ∙ ap is_some (sym (so_far.numbers next.0)) ∙ lacks)
      ∙ sym (number_of-push first done next hash);
  back = back-listed first now after added next.0 so_far.back lacks
      (λ hash other. sets hash ∙ ap (λ b. cond b (Some next.1) (number_of now hash)) (nat_list_eq_equiv.symm next.0 hash ∙ other));
}

-- one more of a list of pairs
pub puts-next : (first now : List Entry) (added : List Hash) (pairs : List Entry) (i : ℕ) (next : Entry) → i < length pairs → next ≡ get_or pairs i next
    → PutSoFar first now added (take i pairs ++ next ∷ []) → PutSoFar first now added (take (i + 1) pairs)
puts-next first now added pairs i next inside is =
    subst (λ (done : List Entry). PutSoFar first now added done)
    (sym (take_more pairs i next inside ∙ ap (λ (one : Entry). take i pairs ++ one ∷ []) (sym is)))

-- two hashes are taken out
cond-cond : (a b : Bool) (found : Option ℕ) → cond b None (cond a None found) ≡ cond (a || b) None found
cond-cond true true found = refl
cond-cond true false found = refl
cond-cond false b found = refl

-- the first hashes are taken out, and then the next one
pub removed-next : (first now after : List Entry) (hashes : List Hash) (i : ℕ) (next : Hash) → i < length hashes → next ≡ get_or hashes i next
    → IsWithout first (take i hashes) now → Sets hash_eq now next None after → IsWithout first (take (i + 1) hashes) after
removed-next first now after hashes i next inside is before sets hash =
    sets hash
    ∙ ap (λ b. cond b None (number_of now hash)) (nat_list_eq_equiv.symm next hash)
    ∙ ap (cond (hash_eq hash next) None) (before hash)
    ∙ cond-cond (is_among (take i hashes) hash) (hash_eq hash next) (number_of first hash)
    ∙ ap (λ b. cond b None (number_of first hash))
    (sym (list_any_more (hash_eq hash) hashes i next inside ∙ ap (λ (one : Hash). is_among (take i hashes) hash || hash_eq hash one) (sym is)))

-- how many entries there are, where the numbers are the same
pub same_entries : (first second : List Entry) → IsIndex first → IsIndex second → SameNumbers first second → AreSame first second
same_entries first second once once' same = record {
  numbers = same;
  count = sym (length-keys_of first)
      ∙ length-from_same_keys nat_list_eq_equiv (keys_of first) (keys_of second) once once'
      (λ hash. sym (is_some-lookup (hash_eq hash) first) ∙ ap is_some (same hash) ∙ is_some-lookup (hash_eq hash) second)
      ∙ length-keys_of second;
}

is_some-or : (first second : Option ℕ) → is_some first ≡ true → is_some (option_or first second) ≡ true
is_some-or None second has = absurd (true≢false (sym has))
is_some-or (Some number) second has = refl

-- pairs that are put in add entries
pub grown : (old given new : List Entry) → IsIndex old → SameNumbers new (old ++ given) → length old ≤ length new
grown old given new once same =
    let keys : length (keys_of old) ≤ length (keys_of new) = length-le_from_is_member nat_list_eq_equiv (keys_of old) (keys_of new) once
    (λ hash has. sym (is_some-lookup (hash_eq hash) new) ∙ ap is_some (same hash ∙ lookup-append (hash_eq hash) old given)
    ∙ is_some-or (number_of old hash) (number_of given hash) (is_some-lookup (hash_eq hash) old ∙ has)) in
    subst (λ n. n ≤ length new) (length-keys_of old) (subst (λ n. length (keys_of old) ≤ n) (length-keys_of new) keys)
