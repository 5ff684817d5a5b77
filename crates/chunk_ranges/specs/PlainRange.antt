-- A range that keeps all of its chunks, in contracts.
use Rattle.std.specs.Prelude.{◌≡◌, ℕ, ◌^◌, ◌<◌, Bool, List}
use Rattle.xet_roots.specs.Groups.{Node}
use Rattle.xet_roots.specs.Roots.{total_size}

pub record Plain : Type 0 where
  pub at_start : Bool
  pub at_end : Bool
  pub chunks : List Node

-- the size that is kept with the chunks is the sum of their sizes, and fits 64 bits
abbrev pub IsSizeOf : ℕ → List Node → Type 0
IsSizeOf size chunks = (size ≡ total_size chunks) × (total_size chunks < 2 ^ 64)
