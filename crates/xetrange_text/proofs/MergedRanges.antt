-- What lines of ranges are merged to.
use Rattle.std.proofs.Common.{◌≡◌, ℕ, ◌+◌, ◌^◌, ◌<◌, ◌≤◌, false, List, [], ◌∷◌, ◌++◌, length, flat_map, refl, sym, ap, subst, ◌∙◌, inl, inr, arith, append-nil, append_assoc}
use Rattle.std.specs.List.{AllZip, concat}
use Rattle.std.proofs.lemmas.List.Sums.{sum_by-append}
use Rattle.std.proofs.lemmas.Bool.{cases_lt}
use Rattle.std.specs.Prelude.{Result, Ok}
use Rattle.xet_roots.specs.declared.error.CoreError.{CoreError}
use Rattle.xet_merkle.specs.Groups.{Node}
use Rattle.xet_merkle.specs.Levels.{levels_size}
use Rattle.xet_merkle.specs.Subtree.{Subtree, IsCanonical}
use Rattle.xet_merkle.specs.Merging.{AreCanonical, IsMerged, MergeRefusals, ranges_size}
use Rattle.line_io.specs.Lines.{byte_limit, content}
use Rattle.line_io.proofs.Lines.{concat-push}
use Rattle.xetrange_text.specs.Ranges.{IsOpen, SaysRange, AreRanges, AreMerged}

-- ---- ranges that are merged

pub AreRanges-none : AreRanges [] []
AreRanges-none = record { say = tt; fits = omega arith; within = omega arith }

pub AreMerged-none : (empty : Subtree) → IsOpen empty → levels_size empty.levels ≡ 0 → IsCanonical empty [] → AreMerged [] empty
AreMerged-none empty is_open size canonical = record { is_open = is_open; size = size; canonical = none }
  where
    none : (lists : List (List Node)) → AreCanonical [] lists → IsCanonical empty (flat_map (λ list. list) lists)
    none [] zip = canonical
    none (list ∷ lists) zip = absurd zip

zip-push : {X Y : Type 0} (P : X → Y → Type 0) (xs : List X) (ys : List Y) (x : X) (y : Y) → AllZip P xs ys → P x y → AllZip P (xs ++ x ∷ []) (ys ++ y ∷ [])
zip-push P [] [] x y all is = (is, tt)
zip-push P [] (_ ∷ ys) x y all is = absurd all
zip-push P (_ ∷ xs) [] x y all is = absurd all
zip-push P (a ∷ xs) (b ∷ ys) x y all is = (all.0, zip-push P xs ys x y all.1 is)

-- the last of some ranges, and the list that it is the canonical subtree of
zip-last : {X Y : Type 0} (P : X → Y → Type 0) (xs : List X) (x : X) (zs : List Y) → AllZip P (xs ++ x ∷ []) zs
    → (ys : List Y) × (y : Y) × (zs ≡ ys ++ y ∷ []) × AllZip P xs ys × P x y
zip-last P [] x [] all = absurd all
zip-last P [] x (y ∷ []) all = ([], y, refl, tt, all.0)
zip-last P [] x (y ∷ z ∷ zs) all = absurd all.1
zip-last P (a ∷ xs) x [] all = absurd all
zip-last P (a ∷ xs) x (z ∷ zs) all =
    let (ys, y, is, rest, last) = zip-last P xs x zs all.1 in
    (z ∷ ys, y, ap (λ l. z ∷ l) is, (all.0, rest), last)

flat-push : (lists : List (List Node)) (list : List Node) → flat_map (λ l. l) (lists ++ list ∷ []) ≡ flat_map (λ l. l) lists ++ list
flat-push [] list = append-nil list
flat-push (first ∷ lists) list = ap (λ l. first ++ l) (flat-push lists list) ∙ sym (append_assoc first (flat_map (λ l. l) lists) list)

size-push : (ranges : List Subtree) (range : Subtree) → ranges_size (ranges ++ range ∷ []) ≡ ranges_size ranges + levels_size range.levels
size-push ranges range =
    let sum = sum_by-append (λ (r : Subtree). levels_size r.levels) ranges (range ∷ []) in omega (arith, sum)

module _ (before : List (List ℕ)) (ranges : List Subtree) (front back merged : Subtree) (line : List ℕ) (good : AreRanges before ranges)
    (are_merged : AreMerged ranges front) (is_merged : IsMerged front back merged) where
  pub AreRanges-push : SaysRange (content line) back → ranges_size ranges + levels_size back.levels < 2 ^ 64
      → length (concat before) + length line ≤ byte_limit → AreRanges (before ++ line ∷ []) (ranges ++ back ∷ [])
  AreRanges-push says fits within = record {
    say = zip-push (λ line range. SaysRange (content line) range) before ranges line back good.say says;
    fits = omega (arith, fits, size-push ranges back);
    within = omega (arith, within, concat-push before line);
  }

  pub AreMerged-push : back.at_end ≡ false → AreMerged (ranges ++ back ∷ []) merged
  AreMerged-push is_open = record {
    is_open = (is_merged.spans.start ∙ are_merged.is_open.0, is_merged.spans.end ∙ is_open);
    size = omega (arith, is_merged.spans.size, are_merged.size, size-push ranges back);
    canonical = λ all zip.
        let (lists, list, is, others, last) = zip-last IsCanonical ranges back all zip in
        subst (IsCanonical merged) (sym (ap (flat_map (λ l. l)) is ∙ flat-push lists list))
        (is_merged.canonical (flat_map (λ l. l) lists) list (are_merged.canonical lists others) last);
  }

-- a merge that succeeds has sizes that fit
pub sizes_fit : (ranges : List Subtree) (front back : Subtree) (r : Result (Unit {0}) CoreError) (merged : Subtree) → AreMerged ranges front
    → IsMerged front back merged → r ≡ Ok tt → MergeRefusals front back r → ranges_size ranges + levels_size back.levels < 2 ^ 64
sizes_fit ranges front back r merged are_merged is_merged ok refusals =
    elim (cases_lt (ranges_size ranges + levels_size back.levels) (2 ^ 64)) [
      | inl fits ↦ fits
      | inr past ↦
          let refused = refusals.overflow.1 ((is_merged.spans.no_end, is_merged.spans.no_start), omega (arith, past, are_merged.size)) in
          let clash : ⊥ = cc (ok, refused) in absurd clash
    ]
