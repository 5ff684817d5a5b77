-- How many bytes a scan for a low gear passes.
use Rattle.std.specs.Prelude.{ℕ, suc, if◌then◌else◌, List, [], ◌∷◌}
use Rattle.xet_chunker.specs.Gear.{next_gear}
use Rattle.xet_chunker.specs.Cuts.{is_low}

-- how many of some bytes come before the first after which the gear is low: all, if there is none
unfoldable pub before_low : ℕ → List ℕ → ℕ
before_low gear [] = 0
before_low gear (byte ∷ rest) = if is_low (next_gear gear byte) then 0 else suc (before_low (next_gear gear byte) rest)
