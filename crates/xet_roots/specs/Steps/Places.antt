-- Groups in another order than theirs. Only private contracts and proofs use it.
use Rattle.std.specs.Prelude.{◌≡◌, ◌⊎◌, ℕ, ◌<◌, List, [], get_or, slice_index}
use Rattle.xet_roots.specs.Groups.{Node}
use Rattle.xet_roots.specs.Roots.{parent_hash}

-- place j is in the list of the places of groups with len nodes, whose number is in `counts`
abbrev pub IsListed : List (List ℕ) → List ℕ → ℕ → ℕ → Type 0
IsListed lists counts len j = (k : ℕ) × (k < slice_index counts len) × (slice_index (get_or lists len []) k ≡ j)

-- group number j has its parent's hash, or is at one of the first n places
abbrev pub IsSettled : List (List Node) → List (List ℕ) → List ℕ → ℕ → ℕ → Type 0
IsSettled groups hashes places n j =
    (get_or hashes j [] ≡ parent_hash (get_or groups j [])) ⊎ ((k : ℕ) × (k < n) × (slice_index places k ≡ j))
