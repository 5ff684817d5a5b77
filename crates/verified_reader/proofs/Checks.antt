-- What some checks show, and what more checks show too.
use Rattle.std.proofs.Common.{arith, ◌≡◌, ◌<◌, ◌≤◌, ◌+◌, ◌⊎◌, ℕ, List, [], ◌∷◌, ◌++◌, length, take, drop, refl, sym, ap, subst, ◌∙◌, inl, inr}
use Rattle.std.specs.Prelude.{All, Contains, Err, IfSome, None, Ok, OnErr, OnOk, Option, Result, Some}
use Rattle.std.proofs.lemmas.Bool.{cases_lt}
use Rattle.std.proofs.lemmas.List.{take-append-drop}
use Rattle.std.proofs.lemmas.List.Elements.{All-contains, All-contains_itself, All-weaker, Contains-append_left, Contains-append_right, Contains-get_or, Contains-push, Contains-push_cases}
use Rattle.std.proofs.lemmas.List.Sums.{sum_by-append, sum_by-cons}
use Rattle.range_proof.specs.RangeProof.{file_size_of}
use Rattle.verified_reader.specs.Kept.{AreUsed, Chunk, IsUsed, Keeps, KeepsAll, size_of_kept}
use Rattle.verified_reader.specs.Reader.{Check, IsChecked, IsCheckedBy, IsCheckOf, IsPartOf, IsShownBy, IsSizeOfFile, Part, Reader, checks_of}
use Rattle.verified_reader.proofs.Entries.{of_map}
use Rattle.verified_reader.proofs.Pieces.{of_size}
use Rattle.verified_reader.proofs.Reading.{used_member, used_members}

-- ---- More checks

abbrev pub AreAmong : List Check → List Check → Type 0
AreAmong checks more = (check : Check) → Contains checks check → Contains more check

pub checked_too : (checks more : List Check) (hash salt : List ℕ) (chunk : Chunk) → AreAmong checks more → IsChecked checks hash salt chunk → IsChecked more hash salt chunk
checked_too checks more hash salt chunk are h =
    record { proof = h.proof; among = are (record { proof = h.proof; bytes = chunk.bytes }) h.among; checked = h.checked }

size_too : (checks more : List Check) (hash salt : List ℕ) (size : ℕ) → AreAmong checks more → IsSizeOfFile checks hash salt size → IsSizeOfFile more hash salt size
size_too checks more hash salt size are h = λ file is_hash. elim (h file is_hash) [
  | inl is ↦ inl is
  | inr c ↦ inr (record { check = c.check; among = are c.check c.among; collision = c.collision })
]

pub sizes_too : (checks more : List Check) (hash salt : List ℕ) (size : Option ℕ) → AreAmong checks more → IfSome size (IsSizeOfFile checks hash salt) →
    IfSome size (IsSizeOfFile more hash salt)
sizes_too checks more hash salt None are h = h
sizes_too checks more hash salt (Some size) are h = size_too checks more hash salt size are h

-- what holds of each member holds of all
pub all_from : {X : Type 0} (P : X → Type 0) (xs : List X) → ((x : X) → Contains xs x → P x) → All P xs
all_from {X} P xs each = All-weaker (Contains xs) P each xs (All-contains_itself xs)

-- ---- A part

pub check_among : (part : Part) (chunk : Chunk) → Contains part.checked chunk → Contains (checks_of part) (record { proof = part.proof; bytes = chunk.bytes })
check_among part chunk among =
    let check : Chunk → Check = λ chunk. record { proof = part.proof; bytes = chunk.bytes } in
    All-contains (λ (c : Chunk). Contains (checks_of part) (check c)) part.checked chunk
    (of_map (Contains (checks_of part)) check part.checked (All-contains_itself (checks_of part))) among

-- chunks that a proof checked were checked in their own checks
pub own_checks : (part : Part) → All (IsCheckedBy part.proof part.hash part.salt) part.checked → All (IsChecked (checks_of part) part.hash part.salt) part.checked
own_checks part checked = all_from (IsChecked (checks_of part) part.hash part.salt) part.checked (λ chunk among. record {
  proof = part.proof;
  among = check_among part chunk among;
  checked = All-contains (IsCheckedBy part.proof part.hash part.salt) part.checked chunk checked among;
})

-- ---- What a reader keeps

-- a chunk that is kept was kept before, or is the new one
kept_member : (most : ℕ) (old new : List Chunk) (chunk : Chunk) → Keeps most old chunk new → (c : Chunk) → Contains new c → Contains old c ⊎ (chunk ≡ c)
kept_member most old new chunk (Keeps.kept may drops) c among =
    let xs = old ++ chunk ∷ [] in
    let dropped = subst (λ l. Contains l c) drops.new_is among in
    Contains-push_cases old chunk c (subst (λ l. Contains l c) (take-append-drop drops.dropped xs) (Contains-append_right (take drops.dropped xs) (drop drops.dropped xs) c dropped))
kept_member most old new chunk (Keeps.stay not (inl u)) c among = inl ((used_member old new chunk.begin u c).0 among)
kept_member most old new chunk (Keeps.stay not (inr same)) c among = inl (subst (λ l. Contains l c) same among)

pub kept_members : (most : ℕ) (old chunks new : List Chunk) → KeepsAll most old chunks new → (c : Chunk) → Contains new c → Contains old c ⊎ Contains chunks c
kept_members most old chunks new KeepsAll.none c among = inl among
kept_members most old chunks new (KeepsAll.more {between} before chunk first then) c among = elim (kept_member most between new chunk then c among) [
  | inl earlier ↦ elim (kept_members most old before between first c earlier) [
    | inl old' ↦ inl old'
    | inr one ↦ inr (Contains-append_left before (chunk ∷ []) c one)
  ]
  | inr same ↦ inr (subst (λ x. Contains (before ++ chunk ∷ []) x) same (Contains-push before chunk))
]
kept_members most old chunks new (KeepsAll.lost before chunk first) c among = elim (kept_members most old before new first c among) [
  | inl old' ↦ inl old'
  | inr one ↦ inr (Contains-append_left before (chunk ∷ []) c one)
]

abbrev weight : Chunk → ℕ
weight chunk = length chunk.bytes + 128

used_size : (old new : List Chunk) (place : ℕ) → IsUsed old place new → size_of_kept new ≡ size_of_kept old
used_size old new place u =
    let a : size_of_kept old ≡ size_of_kept u.front + (weight u.chunk + size_of_kept u.back) =
    ap size_of_kept u.old_is ∙ sum_by-append weight u.front (u.chunk ∷ u.back) ∙ ap (λ (n : ℕ). size_of_kept u.front + n) (sum_by-cons weight u.chunk u.back) in
    let b : size_of_kept new ≡ (size_of_kept u.front + size_of_kept u.back) + (weight u.chunk + size_of_kept []) =
    ap size_of_kept u.new_is ∙ sum_by-append weight (u.front ++ u.back) (u.chunk ∷ [])
    ∙ ap (λ (n : ℕ). n + size_of_kept (u.chunk ∷ [])) (sum_by-append weight u.front u.back)
    ∙ ap (λ (n : ℕ). (size_of_kept u.front + size_of_kept u.back) + n) (sum_by-cons weight u.chunk []) in
    omega (arith, a, b)

pub used_sizes : (old : List Chunk) (from to : ℕ) (new : List Chunk) → AreUsed old from to new → size_of_kept new ≡ size_of_kept old
used_sizes old from to new AreUsed.none = refl
used_sizes old from to new (AreUsed.more {between} {place} before near past u) =
    used_size between new place u ∙ used_sizes old from place between before

-- what holds of each chunk holds of each when some were used
pub used_checked : (P : Chunk → Type 0) (old : List Chunk) (from to : ℕ) (new : List Chunk) → AreUsed old from to new → All P old → All P new
used_checked P old from to new used all = all_from P new (λ chunk among. All-contains P old chunk all ((used_members old from to new used chunk).0 among))

-- a reader that only used chunks is shown by the same checks
pub used_shown : (checks : List Check) (old new : Reader) (from to : ℕ) → new ≡ record old { kept = new.kept } → AreUsed old.kept from to new.kept →
    IsShownBy checks old → IsShownBy checks new
used_shown checks old new from to same used shown =
    subst (λ (r : Reader). IsShownBy checks r) (sym same)
    (record { kept = used_checked (IsChecked checks old.hash old.salt) old.kept from to new.kept used shown.kept; size = shown.size })

kept_size : (most : ℕ) (old new : List Chunk) (chunk : Chunk) → size_of_kept old ≤ most → Keeps most old chunk new → size_of_kept new ≤ most
kept_size most old new chunk within (Keeps.kept may drops) = drops.fits
kept_size most old new chunk within (Keeps.stay not (inl u)) = subst (λ (n : ℕ). n ≤ most) (sym (used_size old new chunk.begin u)) within
kept_size most old new chunk within (Keeps.stay not (inr same)) = subst (λ l. size_of_kept l ≤ most) (sym same) within

pub kept_sizes : (most : ℕ) (old chunks new : List Chunk) → size_of_kept old ≤ most → KeepsAll most old chunks new → size_of_kept new ≤ most
kept_sizes most old chunks new within KeepsAll.none = within
kept_sizes most old chunks new within (KeepsAll.more {between} before chunk first then) =
    kept_size most between new chunk (kept_sizes most old before between within first) then
kept_sizes most old chunks new within (KeepsAll.lost before chunk first) = kept_sizes most old before new within first

-- ---- A part is taken

-- what holds of a call that succeeds, or that fails
pub ok_or_err : {T E P Q : Type 0} (r : Result T E) → OnOk r P → OnErr r Q → P ⊎ Q
ok_or_err (Ok x) holds other = inl holds
ok_or_err (Err e) holds other = inr other

-- what more checks show
pub shown_too : (checks more : List Check) (reader : Reader) → AreAmong checks more → IsShownBy checks reader → IsShownBy more reader
shown_too checks more reader are shown = record {
  kept = All-weaker (IsChecked checks reader.hash reader.salt) (IsChecked more reader.hash reader.salt)
      (λ chunk h. checked_too checks more reader.hash reader.salt chunk are h) reader.kept shown.kept;
  size = sizes_too checks more reader.hash reader.salt reader.size are shown.size;
}

-- a reader after its part was taken is shown by the part's checks, too, and by one more check of the part
pub taken_shown : (checks : List Check) (old : Reader) (part : Part) (kept : List Chunk) (size : Option ℕ) → IsShownBy checks old → IsPartOf old part →
    All (IsCheckedBy part.proof part.hash part.salt) part.checked → ((c : Chunk) → Contains kept c → Contains old.kept c ⊎ Contains part.checked c) →
    (0 < part.right → (chunk : Chunk) × IsCheckedBy part.proof part.hash part.salt chunk) →
    (0 < part.right → size ≡ Some (file_size_of part.proof)) → (part.right ≡ 0 → size ≡ old.size) →
    (check : Check) × IsCheckOf part check × IsShownBy (check ∷ checks_of part ++ checks) (record old { kept = kept; size = size })
taken_shown checks old part kept size shown is by members one some none = elim (cases_lt 0 part.right) [
  | inl right ↦
      let (chunk, checked) = one right in
      let check : Check = record { proof = part.proof; bytes = chunk.bytes } in
      let all = check ∷ checks_of part ++ checks in
      let size_is = of_size all part.hash part.salt chunk part.proof checked (Contains-get_or all 0 check (omega arith)) in (
        check,
        record { proof = refl; right = λ _. (chunk, checked, refl) },
        with_size check (subst (λ (s : Option ℕ). IfSome s (IsSizeOfFile all old.hash old.salt)) (sym (some right))
            (subst (λ (s : List ℕ). IsSizeOfFile all old.hash s (file_size_of part.proof)) is.salt
            (subst (λ (h : List ℕ). IsSizeOfFile all h part.salt (file_size_of part.proof)) is.hash size_is))),
      )
  | inr empty ↦
      let check : Check = record { proof = part.proof; bytes = [] } in (
        check,
        record { proof = refl; right = λ some. absurd (omega (arith, some, empty)) },
        with_size check (subst (λ (s : Option ℕ). IfSome s (IsSizeOfFile (check ∷ checks_of part ++ checks) old.hash old.salt)) (sym (none (omega (arith, empty))))
            (sizes_too checks (check ∷ checks_of part ++ checks) old.hash old.salt old.size (right check) shown.size)),
      )
]
  where
    left : (check : Check) → AreAmong (checks_of part) (check ∷ checks_of part ++ checks)
    left check c among = Contains-append_right (check ∷ []) (checks_of part ++ checks) c (Contains-append_left (checks_of part) checks c among)

    right : (check : Check) → AreAmong checks (check ∷ checks_of part ++ checks)
    right check c among = Contains-append_right (check ∷ []) (checks_of part ++ checks) c (Contains-append_right (checks_of part) checks c among)

    own : (c : Chunk) → Contains part.checked c → IsChecked (checks_of part) old.hash old.salt c
    own c one' =
        subst (λ (s : List ℕ). IsChecked (checks_of part) old.hash s c) is.salt
        (subst (λ (h : List ℕ). IsChecked (checks_of part) h part.salt c) is.hash
        (All-contains (IsChecked (checks_of part) part.hash part.salt) part.checked c (own_checks part by) one'))

    with_size : (check : Check) → IfSome size (IsSizeOfFile (check ∷ checks_of part ++ checks) old.hash old.salt) →
        IsShownBy (check ∷ checks_of part ++ checks) (record old { kept = kept; size = size })
    with_size check size_is = record {
      kept = all_from (IsChecked (check ∷ checks_of part ++ checks) old.hash old.salt) kept (λ c among. elim (members c among) [
        | inl was ↦ checked_too checks (check ∷ checks_of part ++ checks) old.hash old.salt c (right check) (All-contains (IsChecked checks old.hash old.salt) old.kept c shown.kept was)
        | inr new ↦ checked_too (checks_of part) (check ∷ checks_of part ++ checks) old.hash old.salt c (left check) (own c new)
      ]);
      size = size_is;
    }
