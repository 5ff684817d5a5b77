-- Lists of lists that are lent.
use Rattle.std.proofs.Common.{◌≡◌, ℕ, ◌+◌, ◌<◌, ◌≤◌, List, [], ◌∷◌, ◌++◌, inl, inr, length, map, take, get_or, set, Bor, sym, ap, subst, ◌∙◌, arith}
use Rattle.std.proofs.lemmas.Bool.{cases_lt}
use Rattle.std.proofs.lemmas.List.{get_or-map, get_or-set_other, get_or-set_same, get_or-take, length-map, length-take-le, map-set, take-map, take_more_set}
use Rattle.std.proofs.lemmas.List.FromFn.{fill_by_all}
use Rattle.std.specs.List.{range_with_len}

-- the lists
abbrev pub lent : {X : Type 0} → List (Bor (List X)) → List (List X)
lent lists = map (λ l. l.now) lists

module _ {X : Type 0} (lists : List (Bor (List X))) where
  pub lent_at : (j : ℕ) (d : Bor (List X)) → j < length lists → get_or (lent lists) j [] ≡ (get_or lists j d).now
  lent_at j d fits = get_or-map (λ l. l.now) lists j d [] fits

  -- one of the first n
  pub lent_of_first : (n j : ℕ) → j < n → get_or (lent (take n lists)) j [] ≡ get_or (lent lists) j []
  lent_of_first n j h =
      ap (λ (l : List (List X)). get_or l j []) (sym (take-map (λ (l : Bor (List X)). l.now) n lists)) ∙ get_or-take n (lent lists) j [] h

  -- the first ones up to one that is put after them
  pub lent_more : (n : ℕ) (last : Bor (List X)) → n < length lists → take (n + 1) (lent (set lists n last)) ≡ take n (lent lists) ++ last.now ∷ []
  lent_more n last fits =
      ap (take (n + 1)) (map-set (λ (l : Bor (List X)). l.now) lists n last)
      ∙ take_more_set (lent lists) n last.now (omega (arith, length-map lists (λ (l : Bor (List X)). l.now)))

  -- what holds of the first n and of one that is put after them
  pub each_more : (P : ℕ → List X → Type 0) (n : ℕ) (last : Bor (List X)) → n < length lists
      → ((j : ℕ) → j < n → P j (get_or (lent lists) j [])) → P n last.now → (j : ℕ) → j < n + 1 → P j (get_or (lent (set lists n last)) j [])
  each_more P n last fits before at_last j h =
      let same : lent (set lists n last) ≡ set (lent lists) n last.now = map-set (λ (l : Bor (List X)). l.now) lists n last in
      let at : (i : ℕ) → get_or (lent (set lists n last)) i [] ≡ get_or (set (lent lists) n last.now) i [] = λ i. ap (λ (l : List (List X)). get_or l i []) same in
      elim (cases_lt j n) [
        | inl less ↦ subst (P j) (sym (at j ∙ get_or-set_other (lent lists) n j last.now [] (λ e. omega arith))) (before j less)
        | inr past ↦
            let here : j ≡ n = omega arith in
            let size = length-map lists (λ (l : Bor (List X)). l.now) in
            subst (P j) (sym (at j ∙ ap (λ (i : ℕ). get_or (set (lent lists) n last.now) i []) here ∙ get_or-set_same (lent lists) n last.now [] (omega arith)))
            (subst (λ (i : ℕ). P i last.now) (sym here) at_last)
      ]

-- the first n of a list that are made of others one by one
pub made_one_by_one : {X Y : Type 0} (make : List X → Y) (lists : List (List X)) (made : List Y) (n : ℕ) (d : Y) → n ≤ length lists → n ≤ length made
    → ((i : ℕ) → i < n → get_or made i d ≡ make (get_or lists i [])) → take n made ≡ map make (take n lists)
made_one_by_one {X} {Y} make lists made n d many long each =
    let one : ℕ → Y = λ i. make (get_or lists i []) in
    let left : take n made ≡ map one (range_with_len 0 n) =
    fill_by_all one (take n made) n d (length-take-le n made long) (λ k fits. get_or-take n made k d fits ∙ each k fits) in
    let right : map make (take n lists) ≡ map one (range_with_len 0 n) =
    fill_by_all one (map make (take n lists)) n d (length-map (take n lists) make ∙ length-take-le n lists many)
    (λ k fits. get_or-map make (take n lists) k [] d (rw (length-take-le n lists many) fits) ∙ ap make (get_or-take n lists k [] fits)) in
    left ∙ sym right
