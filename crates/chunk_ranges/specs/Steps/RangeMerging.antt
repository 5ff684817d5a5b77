-- Ranges of any kind, merged one after another.
use Rattle.std.specs.Prelude.{◌≡◌, ℕ, Bool, List, [], ◌∷◌, Option, Some, None, flat_map}
use Rattle.std.specs.List.{AllZip}
use Rattle.xet_roots.specs.Groups.{Node}
use Rattle.chunk_ranges.specs.Ranges.{NoMarkBetween, total_of}

-- the mark at the end of the last of some ranges
abbrev pub end_of_last : {R : Type 0} → (R → Bool) → List R → Option Bool
end_of_last end [] = None
end_of_last end (range ∷ []) = Some (end range)
end_of_last end (range ∷ next ∷ ranges) = end_of_last end (next ∷ ranges)

-- the mark at the start of the first of some ranges
abbrev pub start_of_first : {R : Type 0} → (R → Bool) → List R → Option Bool
start_of_first start [] = None
start_of_first start (range ∷ ranges) = Some (start range)

-- adjacent ranges are merged to others
pub record JoinsTo {R : Type 0} (stands : R → List Node → Type 0) (start end : R → Bool) (total : R → ℕ) (ranges others : List R) : Type 0 where
  pub marks : NoMarkBetween start end others
  pub first : start_of_first start others ≡ start_of_first start ranges
  pub last : end_of_last end others ≡ end_of_last end ranges
  pub sum : total_of total others ≡ total_of total ranges
  pub lists : (lists : List (List Node)) → AllZip stands ranges lists →
      (joined : List (List Node)) × AllZip stands others joined × (flat_map (λ list. list) joined ≡ flat_map (λ list. list) lists)
