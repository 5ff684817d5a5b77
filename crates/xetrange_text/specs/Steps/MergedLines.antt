-- What lines of ranges have said so far. Only private contracts and proofs use it.
use Rattle.std.specs.Prelude.{◌≡◌, ℕ, List}
use Rattle.xet_merkle.specs.Subtree.{Subtree}
use Rattle.line_io.specs.Lines.{NoNewline}
use Rattle.xetrange_text.specs.declared.merged_lines.MergedLines.{MergedLines}
use Rattle.xetrange_text.specs.declared.fault.LineFault.{LineFault}
use Rattle.xetrange_text.specs.declared.fault.LineFault.TheVariants.{Bad, NoRange, Sizes as passes_sizes}
use Rattle.xetrange_text.specs.Ranges.{SaysNoRange, AreRanges, AreMerged}

-- a line's content is refused because of what it says
abbrev pub IsNoRange : List ℕ → LineFault → Type 0
IsNoRange text (NoRange rule) = SaysNoRange text rule
IsNoRange text Bad = ⊥
IsNoRange text passes_sizes = ⊥

module _ {A : Type 0} where
  -- lines of ranges were taken, and the beginning of a line
  abbrev pub HasTaken : MergedLines A → List (List ℕ) → List ℕ → Type 0
  HasTaken lines before line =
      (ranges : List Subtree) × AreRanges before ranges × AreMerged ranges lines.merged × (lines.line.items ≡ line) × NoNewline line
