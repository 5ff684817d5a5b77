-- Numbers in slots, where one is written.
use Rattle.std.proofs.Common.{◌≡◌, ◌≢◌, ◌↔◌, ◌+◌, ◌<◌, ℕ, zero, suc, Bool, IsTrue, List, [], ◌∷◌, get_or, set, length, slice_index, sym, ap, subst, ◌∙◌, arith, get_or-set_same}
use Rattle.std.specs.Cmp.Lexicographic.{same_text}
use Rattle.std.specs.Map.{keys_of}
use Rattle.std.proofs.lemmas.Cmp.{nat_list_eq_equiv}
use Rattle.std.proofs.lemmas.List.{get_or-map, length-set}
use Rattle.hash_numbers.specs.Index.{Hash, hash_eq}
use Rattle.hash_numbers.specs.Steps.Places.{IsEntryOf, Reaches, StandsIn}

-- whether the entry at an index has a hash
pub is_entry : {V : Type 0} (entries : List (Hash × V)) (i : ℕ) (entry : Hash × V) (hash : Hash) (b : Bool) → i < length entries → entry ≡ get_or entries i entry
    → b ≡ hash_eq entry.0 hash → IsTrue b ↔ IsEntryOf entries i hash
is_entry {V} entries i entry hash b inside is same =
    let key : get_or (keys_of entries) i [] ≡ entry.0 = get_or-map (λ (e : Hash × V). e.0) entries i entry [] inside ∙ ap (λ (e : Hash × V). e.0) (sym is) in (
      λ yes. record { inside = inside; hash_is = key ∙ same_text entry.0 hash (sym (sym same ∙ yes)) },
      λ has. same ∙ ap (λ (other : Hash). hash_eq other hash) (sym key ∙ has.hash_is) ∙ nat_list_eq_equiv.refl hash,
    )

-- a number that isn't 0 stays so where such a number is written
filled-set : (numbers : List ℕ) (at number k : ℕ) → number ≢ 0 → get_or numbers k 0 ≢ 0 → get_or (set numbers at number) k 0 ≢ 0
filled-set [] at number k some was = was
filled-set (x ∷ xs) zero number zero some was = some
filled-set (x ∷ xs) zero number (suc k) some was = was
filled-set (x ∷ xs) (suc at) number zero some was = was
filled-set (x ∷ xs) (suc at) number (suc k) some was = filled-set xs at number k some was

-- a number stays where another is written over
kept-set : (numbers : List ℕ) (at number k there : ℕ) → get_or numbers at 0 ≢ there → get_or numbers k 0 ≡ there → get_or (set numbers at number) k 0 ≡ there
kept-set [] at number k there apart is = is
kept-set (x ∷ xs) zero number zero there apart is = absurd (apart is)
kept-set (x ∷ xs) zero number (suc k) there apart is = is
kept-set (x ∷ xs) (suc at) number zero there apart is = is
kept-set (x ∷ xs) (suc at) number (suc k) there apart is = kept-set xs at number k there apart is

reaches-set : (numbers : List ℕ) (home place at number : ℕ) → number ≢ 0 → Reaches numbers home place → Reaches (set numbers at number) home place
reaches-set numbers home place at number some reached = record {
  inside = subst (λ n. place < n) (sym (length-set numbers at number)) reached.inside;
  after = reached.after;
  near = reached.near;
  filled = λ before from below. filled-set numbers at number before some (reached.filled before from below);
}

-- an index stands where it stood, where the number of another is written over
pub stands-set : (numbers : List ℕ) (home i at number : ℕ) → number ≢ 0 → slice_index numbers at ≢ i + 1 → StandsIn numbers home i → StandsIn (set numbers at number) home i
stands-set numbers home i at number some apart stands = record {
  place = stands.place;
  reached = reaches-set numbers home stands.place at number some stands.reached;
  number = kept-set numbers at number stands.place (i + 1) apart stands.number;
}

pub more_than_none : (i : ℕ) → i + 1 ≢ 0
more_than_none i = λ is. omega arith

-- an index stands where it is written
pub stands-new : (numbers : List ℕ) (home place i : ℕ) → Reaches numbers home place → StandsIn (set numbers place (i + 1)) home i
stands-new numbers home place i reached = record {
  place = place;
  reached = reaches-set numbers home place place (i + 1) (more_than_none i) reached;
  number = get_or-set_same numbers place (i + 1) 0 reached.inside;
}
