-- Bytes that are read from kept chunks, and what their use changes.
use Rattle.std.proofs.Common.{arith, ◌≡◌, ◌<◌, ◌≤◌, ◌+◌, ◌-◌, ◌⊎◌, ℕ, List, [], ◌∷◌, ◌++◌, length, take, drop, get_or, refl, sym, ap, subst, ◌∙◌, inl, inr, length-append}
use Rattle.std.specs.Prelude.{Contains, max, min}
use Rattle.std.specs.Ordering.{nat_cmp, ord_max, ord_min}
use borrow.Rule.Slice.PartMut.{put_mid}
use Rattle.std.proofs.lemmas.Bool.{cases_lt}
use Rattle.std.proofs.lemmas.List.{get_or-append_right, get_or-drop, get_or-take, get_or_append_left, length-drop, length-take-le}
use Rattle.std.proofs.lemmas.List.Elements.{Contains-append_cases, Contains-append_left, Contains-append_right}
use Rattle.std.proofs.lemmas.List.Sums.{sum_by-cons}
use Rattle.verified_reader.specs.Kept.{AllKept, AreKeptAt, AreKeptFrom, AreUsed, Chunk, IsUsed, size_of_kept}

-- bytes that are kept, and some of those that are kept after them
pub kept_more : (kept : List Chunk) (place n : ℕ) (bytes part : List ℕ) → n ≤ length part → AreKeptAt kept place bytes →
    AreKeptFrom kept (place + length bytes) part → AreKeptAt kept place (bytes ++ take n part)
kept_more kept place n bytes part within are (chunk, among, has, is) = λ k below. elim (cases_lt k (length bytes)) [
  | inl early ↦
      let (other, there, holds, same) = are k early in
      (other, there, holds, same ∙ sym (get_or_append_left bytes (take n part) 0 k early))
  | inr late ↦
      let j = k - length bytes in
      let begins = has.begin in
      let ends = has.end in
      let size : length part ≡ length chunk.bytes - ((place + length bytes) - chunk.begin) = ap length is ∙ length-drop ((place + length bytes) - chunk.begin) chunk.bytes in
      let all : length (bytes ++ take n part) ≡ length bytes + n = length-append bytes (take n part) ∙ ap (λ (m : ℕ). length bytes + m) (length-take-le n part within) in
      let inside : j < n = omega (arith, below, late, all) in
      let at : get_or (bytes ++ take n part) k 0 ≡ get_or part j 0 =
      get_or-append_right bytes (take n part) (length bytes) k 0 refl late ∙ get_or-take n part j 0 inside in
      let from : get_or part j 0 ≡ get_or chunk.bytes (((place + length bytes) - chunk.begin) + j) 0 =
      ap (λ (l : List ℕ). get_or l j 0) is ∙ get_or-drop ((place + length bytes) - chunk.begin) chunk.bytes j 0 in
      let index : (place + k) - chunk.begin ≡ ((place + length bytes) - chunk.begin) + j = omega (arith, begins, late) in (
        chunk,
        among,
        record { begin = omega (arith, begins, late); end = omega (arith, begins, ends, size, inside, within, late) },
        ap (λ (i : ℕ). get_or chunk.bytes i 0) index ∙ sym from ∙ sym at,
      )
]

-- a chunk that is used is one of the same chunks
pub used_member : (old new : List Chunk) (place : ℕ) → IsUsed old place new → (chunk : Chunk) → (Contains new chunk → Contains old chunk) × (Contains old chunk → Contains new chunk)
used_member old new place u chunk = (
  λ among. subst (λ l. Contains l chunk) (sym u.old_is) (elim (Contains-append_cases (u.front ++ u.back) (u.chunk ∷ []) chunk (subst (λ l. Contains l chunk) u.new_is among)) [
    | inl other ↦ elim (Contains-append_cases u.front u.back chunk other) [
      | inl front ↦ Contains-append_left u.front (u.chunk ∷ u.back) chunk front
      | inr back ↦ Contains-append_right u.front (u.chunk ∷ u.back) chunk (Contains-append_right (u.chunk ∷ []) u.back chunk back)
    ]
    | inr last ↦ Contains-append_right u.front (u.chunk ∷ u.back) chunk (Contains-append_left (u.chunk ∷ []) u.back chunk last)
  ]),
  λ among. subst (λ l. Contains l chunk) (sym u.new_is) (elim (Contains-append_cases u.front (u.chunk ∷ u.back) chunk (subst (λ l. Contains l chunk) u.old_is among)) [
    | inl front ↦ Contains-append_left (u.front ++ u.back) (u.chunk ∷ []) chunk (Contains-append_left u.front u.back chunk front)
    | inr there ↦ elim (Contains-append_cases (u.chunk ∷ []) u.back chunk there) [
      | inl one ↦ Contains-append_right (u.front ++ u.back) (u.chunk ∷ []) chunk one
      | inr back ↦ Contains-append_left (u.front ++ u.back) (u.chunk ∷ []) chunk (Contains-append_right u.front u.back chunk back)
    ]
  ]),
)

-- so are all that are used
pub used_members : (old : List Chunk) (from to : ℕ) (new : List Chunk) → AreUsed old from to new → (chunk : Chunk) →
    (Contains new chunk → Contains old chunk) × (Contains old chunk → Contains new chunk)
used_members old from to new AreUsed.none chunk = (λ among. among, λ among. among)
used_members old from to new (AreUsed.more {between} {place} before near past u) chunk =
    let one = used_member between new place u chunk in
    let others = used_members old from place between before chunk in
    (λ among. others.0 (one.0 among), λ among. one.1 (others.1 among))

-- up to a later place, too
used_later : (old : List Chunk) (from to later : ℕ) (new : List Chunk) → to ≤ later → AreUsed old from to new → AreUsed old from later new
used_later old from to later new upto AreUsed.none = AreUsed.none
used_later old from to later new upto (AreUsed.more before near past u) = AreUsed.more before near (omega (arith, past, upto)) u

pub used_more : (old : List Chunk) (from to later place : ℕ) (between new : List Chunk) → AreUsed old from to between →
    IsUsed between place new ⊎ (new ≡ between) → from ≤ place → place < later → to ≤ place → AreUsed old from later new
used_more old from to later place between new before (inl u) near past upto = AreUsed.more (used_later old from to place between upto before) near past u
used_more old from to later place between new before (inr same) near past upto =
    subst (λ l. AreUsed old from later l) (sym same) (used_later old from to later between (omega (arith, past, upto)) before)

-- some bytes are kept from a place that is kept
pub some_bytes : (kept : List Chunk) (place : ℕ) (bytes : List ℕ) → AreKeptFrom kept place bytes → 0 < length bytes
some_bytes kept place bytes (chunk, among, has, is) =
    let begins = has.begin in
    let ends = has.end in
    let size : length bytes ≡ length chunk.bytes - (place - chunk.begin) = ap length is ∙ length-drop (place - chunk.begin) chunk.bytes in
    omega (arith, size, begins, ends)

-- and from the same chunks in another order
pub kept_before : (old : List Chunk) (from to place : ℕ) (between : List Chunk) (bytes : List ℕ) → AreUsed old from to between →
    AreKeptFrom between place bytes → AreKeptFrom old place bytes
kept_before old from to place between bytes used (chunk, among, has, is) = (chunk, (used_members old from to between used chunk).0 among, has, is)

-- ---- Gaps

-- bytes up to a place are kept, and those from it to the end of a chunk
pub all_more : (kept : List Chunk) (from place next : ℕ) (bytes : List ℕ) → AllKept kept from place → AreKeptFrom kept place bytes →
    next ≤ place + length bytes → AllKept kept from next
all_more kept from place next bytes all (chunk, among, has, is) upto = λ q near below. elim (cases_lt q place) [
  | inl early ↦ all q near early
  | inr late ↦
      let begins = has.begin in
      let ends = has.end in
      let size : length bytes ≡ length chunk.bytes - (place - chunk.begin) = ap length is ∙ length-drop (place - chunk.begin) chunk.bytes in
      (chunk, among, record { begin = omega (arith, begins, late); end = omega (arith, begins, ends, size, late, below, upto) })
]

-- ---- Numbers

pub least_left : (a b r : ℕ) → r ≡ ord_min nat_cmp a b → r ≤ a
least_left a b r h = grind (arith, h)

pub least_right : (a b r : ℕ) → r ≡ ord_min nat_cmp a b → r ≤ b
least_right a b r h = grind (arith, h)

pub least_some : (a b r : ℕ) → r ≡ ord_min nat_cmp a b → 0 < a → 0 < b → 0 < r
least_some a b r h a_some b_some = grind (arith, h, a_some, b_some)

pub least_is : (a b : ℕ) → ord_min nat_cmp a b ≡ min a b
least_is a b = grind arith

pub most_is : (a b : ℕ) → ord_max nat_cmp a b ≡ max a b
most_is a b = grind arith

-- a part of a list that was written doesn't change its length
pub length-put : (a k : ℕ) (xs ys : List ℕ) → a + k ≤ length xs → length ys ≡ k → length (put_mid a k xs ys) ≡ length xs
length-put a k xs ys within size =
    let rest : length (drop k (drop a xs)) ≡ (length xs - a) - k = length-drop k (drop a xs) ∙ ap (λ (n : ℕ). n - k) (length-drop a xs) in
    let back : length (ys ++ drop k (drop a xs)) ≡ length ys + length (drop k (drop a xs)) = length-append ys (drop k (drop a xs)) in
    let front : length (take a xs) ≡ a = length-take-le a xs (omega (arith, within)) in
    let all : length (take a xs ++ (ys ++ drop k (drop a xs))) ≡ length (take a xs) + length (ys ++ drop k (drop a xs)) =
    length-append (take a xs) (ys ++ drop k (drop a xs)) in
    let sum : length (take a xs ++ (ys ++ drop k (drop a xs))) ≡ length xs = omega (arith, all, back, front, rest, size, within) in
    sum

-- without the first chunk they count less
pub drop_less : (kept : List Chunk) → 0 < size_of_kept kept → size_of_kept (drop 1 kept) < size_of_kept kept
drop_less [] some = absurd (omega (arith, some))
drop_less (chunk ∷ kept) some =
    let all = sum_by-cons (λ (chunk : Chunk). length chunk.bytes + 128) chunk kept in
    omega (arith, all)
