-- A list of nodes in a form of the caller's own, and the piece of it that is read.
use Rattle.std.proofs.Common.{◌≡◌, ℕ, ◌+◌, ◌≤◌, List, [], ◌∷◌, ◌++◌, length, map, take, drop, refl, sym, ap, ◌∙◌, arith}
use Rattle.std.specs.Prelude.{sum_by}
use Rattle.std.proofs.lemmas.List.{length-map, length-take-le, map-append, take-append-drop}
use Rattle.std.proofs.lemmas.List.Sums.{sum_by-cons}
use Rattle.xet_roots.specs.Groups.{Node}
use Rattle.xet_roots.specs.Roots.{total_size}
use Rattle.xet_roots.proofs.Roots.Making.{total_size-append}

module _ {X : Type 0} (node : X → Node) where
  pub total_size-map : (xs : List X) → total_size (map node xs) ≡ sum_by (λ (x : X). (node x).1) xs
  total_size-map [] = refl
  total_size-map (x ∷ xs) =
      sum_by-cons (λ (n : Node). n.1) (node x) (map node xs) ∙ ap (λ (n : ℕ). (node x).1 + n) (total_size-map xs)
      ∙ sym (sum_by-cons (λ (x : X). (node x).1) x xs)

  pub piece_size : (count : ℕ) (rest : List X) (piece : List Node) → count ≤ length rest → piece ≡ map node (take count rest) → length piece ≡ count
  piece_size count rest piece many read = ap length read ∙ length-map (take count rest) node ∙ length-take-le count rest many

  -- a piece that is the front of a list is completed by the rest
  pub piece_joins : (count : ℕ) (rest : List X) (piece : List Node) → piece ≡ map node (take count rest) → piece ++ map node (drop count rest) ≡ map node rest
  piece_joins count rest piece read =
      ap (λ (l : List Node). l ++ map node (drop count rest)) read ∙ sym (map-append node (take count rest) (drop count rest))
      ∙ ap (map node) (take-append-drop count rest)

  pub piece_fits : (rest : List X) (piece more : List Node) → piece ++ more ≡ map node rest → total_size piece ≤ total_size (map node rest)
  piece_fits rest piece more joined = omega (arith, total_size-append piece more, ap total_size joined)
