-- Subtrees of ranges, merged one after another.
use Rattle.std.specs.Prelude.{◌≡◌, List, Option}
use Rattle.subtree_levels.specs.Levels.{levels_size}
use Rattle.subtree_levels.specs.Subtree.{Subtree, IsCanonical}
use Rattle.xet_roots.specs.declared.error.CoreError.{CoreError}
use Rattle.chunk_ranges.specs.declared.adjacent.Passed.{Passed}
use Rattle.chunk_ranges.specs.Steps.Adjacent.{IsPassed, refusal}
use Rattle.chunk_ranges.specs.Steps.RangeMerging.{JoinsTo}

-- merging some ranges gives others
abbrev pub MergesTo : List Subtree → List Subtree → Type 0
MergesTo = JoinsTo IsCanonical (λ range. range.at_start) (λ range. range.at_end) (λ range. levels_size range.levels)

-- what is known of ranges that were passed
abbrev pub ArePassed : Passed → List Subtree → Type 0
ArePassed = IsPassed (λ range. range.at_start) (λ range. range.at_end) (λ range. levels_size range.levels)

-- why ranges can't be merged, from what is known of them after all were passed
abbrev pub RefusalOf : List Subtree → Option CoreError → Type 0
RefusalOf ranges reason = (passed : Passed) × ArePassed passed ranges × (reason ≡ refusal passed.no_mark_between passed.total)
