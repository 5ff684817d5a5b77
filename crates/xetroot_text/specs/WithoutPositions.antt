-- The faults of a text in which no line names a position, defined without positions.
use Rattle.std.specs.Prelude.{ℕ, List}
use Rattle.line_io.specs.Faults.{HasFault}
use Rattle.pair_text.specs.PairText.{IsLineFault}
use Rattle.pair_text.specs.declared.pair_fault.PairFault.TheVariants.{Bad, Sizes as passes_sizes}
use Rattle.xetroot_text.specs.declared.fault.Fault.{Fault}
use Rattle.xetroot_text.specs.declared.fault.Fault.TheVariants.{BadLine, Sizes, Memory, Read, Write, Overlap, Gap}

-- the fault of a text: that of its first faulty line; the other faults don't come from the text
abbrev pub IsFaultOf : List ℕ → Fault → Type 0
IsFaultOf text (BadLine number) = HasFault IsLineFault text number Bad
IsFaultOf text (Sizes number) = HasFault IsLineFault text number passes_sizes
IsFaultOf text (Overlap number) = ⊥
IsFaultOf text Gap = ⊥
IsFaultOf text Memory = Unit {0}
IsFaultOf text Read = Unit {0}
IsFaultOf text Write = Unit {0}
