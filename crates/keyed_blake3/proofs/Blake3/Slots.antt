-- Messages in slots.
use Rattle.std.proofs.Common.{◌≡◌, ◌≢◌, ℕ, ◌+◌, ◌<◌, List, [], inl, inr, get_or, length, take, drop, set, ap, ◌∙◌, arith, length-drop, length-set}
use Rattle.std.proofs.lemmas.Bool.{cases_lt}
use Rattle.std.proofs.lemmas.List.{get_or-drop, get_or-set_other, get_or-set_same, get_or-take, length-take-le}
use Rattle.std.specs.List.{flat_map}
use Rattle.keyed_blake3.specs.Steps.Lanes.{chunk_at}
use Rattle.keyed_blake3.specs.Steps.Messages.{AreSlots, message_in}
use Rattle.keyed_blake3.proofs.Blake3.Messages.{chunk_at_row}

-- what an element is after one is replaced: the new one or the old one
pub set_cases : {A : Type 0} (P : ℕ → A → Type 0) (d : A) (l : List A) (j : ℕ) (x : A) → j < length l → P j x
    → (i : ℕ) → (i ≢ j → P i (get_or l i d)) → P i (get_or (set l j x) i d)
set_cases {A} P d l j x fits here i other = elim (cases_lt i j) [
  | inl before ↦ let ne : i ≢ j = λ e. omega arith in rw (get_or-set_other l j i x d ne) (other ne)
  | inr low ↦ elim (cases_lt j i) [
    | inl after ↦ let ne : i ≢ j = λ e. omega arith in rw (get_or-set_other l j i x d ne) (other ne)
    | inr high ↦ let same : i ≡ j = omega arith in rw (same, get_or-set_same l j x d fits) here
  ]
]

module _ (n : ℕ) (slots : List (List ℕ)) (lens : List ℕ) where
  -- a message has its length
  pub length-message : (j : ℕ) → AreSlots n slots lens → j < length lens → length (message_in slots lens j) ≡ get_or lens j 0
  length-message j are h = length-take-le (get_or lens j 0) (get_or slots j []) (omega (arith, are.sizes j (omega (arith, are.few)), are.short j h))

  -- one slot is replaced by another
  pub AreSlots-set : (j : ℕ) (slot : List ℕ) → AreSlots n slots lens → j < n → length slot ≡ 1024 → AreSlots n (set slots j slot) lens
  AreSlots-set j slot are fits size = record {
    count = length-set slots j slot ∙ are.count;
    sizes = λ i h. set_cases (λ i x. length x ≡ 1024) [] slots j slot (omega (arith, are.count)) size i (λ _. are.sizes i h);
    few = are.few;
    short = are.short;
  }

  -- the chunks of the slots from one on
  pub chunk_at_slot : (start j : ℕ) → AreSlots n slots lens → start + j < n → chunk_at j (flat_map (λ x. x) (drop start slots)) ≡ get_or slots (start + j) []
  chunk_at_slot start j are fits =
      let sizes : (i : ℕ) → i < length (drop start slots) → length (get_or (drop start slots) i []) ≡ 1024 = λ i h.
      ap length (get_or-drop start slots i []) ∙ are.sizes (start + i) (omega (arith, length-drop start slots, are.count)) in
      chunk_at_row (drop start slots) j sizes (omega (arith, length-drop start slots, are.count)) ∙ get_or-drop start slots j []

-- the lengths from one on, up to another
pub len_in : (lens : List ℕ) (start count j : ℕ) → j < count → get_or (take count (drop start lens)) j 0 ≡ get_or lens (start + j) 0
len_in lens start count j h = get_or-take count (drop start lens) j 0 h ∙ get_or-drop start lens j 0
