-- What `make`, `join`, `root` and `prove` write for their inputs.
use Rattle.std.specs.Prelude.{◌≡◌, ℕ, ◌+◌, ◌^◌, ◌<◌, ◌≤◌, ◌⊎◌, List, length, replicate, flat_map}
use Rattle.std.specs.List.{concat}
use Rattle.xet_merkle.specs.Groups.{Node}
use Rattle.xet_merkle.specs.Roots.{IsRoot, IsFileHash}
use Rattle.xet_merkle.specs.Levels.{levels_size}
use Rattle.xet_merkle.specs.Subtree.{Subtree, IsCanonical}
use Rattle.xet_merkle.specs.Merging.{AreCanonical, ranges_size}
use Rattle.range_proof.specs.RangeProof.{Proof}
use Rattle.range_proof.specs.Proving.{Proves}
use Rattle.line_io.specs.Lines.{byte_limit, content, lines_of}
use Rattle.line_io.specs.Faults.{HasFault}
use Rattle.pair_text.specs.Output.{output_text}
use Rattle.pair_text.specs.PairText as pair_text
use Rattle.pair_text.specs.PairText.{AreGood}
use Rattle.pair_text.specs.declared.pair_fault.PairFault.TheVariants.{Bad as bad_pair, Sizes as pair_sizes}
use Rattle.xetrange_text.specs.declared.fault.RangeFault.{RangeFault}
use Rattle.xetrange_text.specs.declared.fault.RangeFault.TheVariants.{BadLine, Sizes, Memory, Read, Write, BadRange, NoChunks, Mismatch}
use Rattle.xetrange_text.specs.declared.fault.LineFault.{LineFault}
use Rattle.xetrange_text.specs.declared.fault.LineFault.TheVariants.{Bad, Sizes as passes_sizes, NoRange}
use Rattle.xetrange_text.specs.Ranges.{IsOpen, SaysRange, SaysNoRange, AreRanges, AreMerged, IsRangeLine}
use Rattle.xetrange_text.specs.Proofs.{IsProofLine}

-- `make`: the line of the canonical subtree of the pairs that the lines say, open at both ends
abbrev pub IsMadeOf : List ℕ → List ℕ → Type 0
IsMadeOf text output =
    (pairs : List Node) × (range : Subtree) × AreGood (lines_of text) pairs × IsCanonical range pairs × IsOpen range
    × IsRangeLine output range

-- its faults; an allocation, a read and a write can fail for any text
abbrev pub IsMakeFaultOf : List ℕ → RangeFault → Type 0
IsMakeFaultOf text (BadLine number) = HasFault pair_text.IsLineFault text number bad_pair
IsMakeFaultOf text (Sizes number) = HasFault pair_text.IsLineFault text number pair_sizes
IsMakeFaultOf text (BadRange number rule) = ⊥
IsMakeFaultOf text NoChunks = ⊥
IsMakeFaultOf text Mismatch = ⊥
IsMakeFaultOf text Memory = Unit {0}
IsMakeFaultOf text Read = Unit {0}
IsMakeFaultOf text Write = Unit {0}

-- `join`: the line of the range that the ranges of the lines are merged to
abbrev pub IsJoinedOf : List ℕ → List ℕ → Type 0
IsJoinedOf text output =
    (ranges : List Subtree) × (merged : Subtree) × AreRanges (lines_of text) ranges × AreMerged ranges merged × IsRangeLine output merged

-- `root`: two lines. If the ranges are the canonical subtrees of lists, these are the root of the concatenated list,
-- and its file hash under the salt of 32 zero bytes.
pub record IsRootOf (text output : List ℕ) : Type 0 where
  pub ranges : List Subtree
  pub root : List ℕ
  pub file : List ℕ
  pub good : AreRanges (lines_of text) ranges
  pub is_root : (lists : List (List Node)) → AreCanonical ranges lists → IsRoot (flat_map (λ list. list) lists) root
  pub is_file : (lists : List (List Node)) → AreCanonical ranges lists → IsFileHash (flat_map (λ list. list) lists) (replicate 32 0) file
  pub is_text : output ≡ output_text root file

-- a line after others contains the first byte past the limit
abbrev pub IsPast : List (List ℕ) → List ℕ → Type 0
IsPast before line = byte_limit < length (concat before) + length line

-- with the range that it says, the sizes are more than 2 ^ 64 - 1
abbrev pub PassesSizes : List Subtree → List ℕ → Type 0
PassesSizes ranges line = (range : Subtree) × SaysRange (content line) range × (2 ^ 64 ≤ ranges_size ranges + levels_size range.levels)

-- the fault of a line after lines of ranges
abbrev pub IsLineFault : List (List ℕ) → List ℕ → LineFault → Type 0
IsLineFault before line Bad = (ranges : List Subtree) × AreRanges before ranges × IsPast before line
IsLineFault before line (NoRange rule) =
    (ranges : List Subtree) × AreRanges before ranges × ¬ (IsPast before line) × SaysNoRange (content line) rule
IsLineFault before line passes_sizes =
    (ranges : List Subtree) × AreRanges before ranges × ¬ (IsPast before line) × PassesSizes ranges line

-- the faults of `join` and `root`: the first faulty line decides
abbrev pub IsRangeFaultOf : List ℕ → RangeFault → Type 0
IsRangeFaultOf text (BadLine number) = HasFault IsLineFault text number Bad
IsRangeFaultOf text (BadRange number rule) = HasFault IsLineFault text number (NoRange rule)
IsRangeFaultOf text (Sizes number) = HasFault IsLineFault text number passes_sizes
IsRangeFaultOf text NoChunks = ⊥
IsRangeFaultOf text Mismatch = ⊥
IsRangeFaultOf text Memory = Unit {0}
IsRangeFaultOf text Read = Unit {0}
IsRangeFaultOf text Write = Unit {0}

-- `prove`: the line of the proof of the chunks from number `first` up to, but without, number `end`, of the pairs that
-- the lines say
abbrev pub IsProvedOf : ℕ → ℕ → List ℕ → List ℕ → Type 0
IsProvedOf first end text output =
    (pairs : List Node) × (proof : Proof) × AreGood (lines_of text) pairs × Proves pairs first end proof × IsProofLine output proof

-- the lines don't have these chunks
abbrev pub LacksChunks : ℕ → ℕ → List ℕ → Type 0
LacksChunks first end text = (pairs : List Node) × AreGood (lines_of text) pairs × ((end ≤ first) ⊎ (length pairs < end))

-- its faults
abbrev pub IsProveFaultOf : ℕ → ℕ → List ℕ → RangeFault → Type 0
IsProveFaultOf first end text (BadLine number) = HasFault pair_text.IsLineFault text number bad_pair
IsProveFaultOf first end text (Sizes number) = HasFault pair_text.IsLineFault text number pair_sizes
IsProveFaultOf first end text (BadRange number rule) = ⊥
IsProveFaultOf first end text NoChunks = LacksChunks first end text
IsProveFaultOf first end text Mismatch = ⊥
IsProveFaultOf first end text Memory = Unit {0}
IsProveFaultOf first end text Read = Unit {0}
IsProveFaultOf first end text Write = Unit {0}
