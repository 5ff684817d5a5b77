-- Sums of the first of some things, as where nodes begin and end, one after another. Only private contracts and proofs
-- use them.
use Rattle.std.specs.Prelude.{◌≡◌, ℕ, ◌+◌, ◌≤◌, List, length, take, slice_index, sum_by}
use Rattle.xet_roots.specs.Groups.{Node}

-- the sums of `f` over the first k of `xs`, from none to all, each with `start` added
pub record AreSums {X : Type 0} (f : X → ℕ) (start : ℕ) (xs : List X) (sums : List ℕ) : Type 0 where
  pub count : length sums ≡ length xs + 1
  pub at : (k : ℕ) → k ≤ length xs → slice_index sums k ≡ start + sum_by f (take k xs)

-- where each of some nodes begins if the first begins at `start`, and last where the last one ends
abbrev pub ArePlaces : ℕ → List Node → List ℕ → Type 0
ArePlaces start nodes places = AreSums (λ node. node.1) start nodes places

-- where each of some groups begins, and last where the last one ends
abbrev pub AreBounds : List (List Node) → List ℕ → Type 0
AreBounds groups bounds = AreSums length 0 groups bounds
