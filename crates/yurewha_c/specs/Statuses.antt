-- The statuses that exports return, and those of errors.
use Rattle.std.specs.Prelude.{ℕ, ◌+◌}
use Rattle.xet_roots.specs.declared.error.CoreError.{CoreError}
use Rattle.xet_roots.specs.declared.error.CoreError.TheVariants.{InvalidArguments, SizeOverflow, OutOfMemory, InvalidJson, InvalidLists}
use Rattle.range_proof.specs.declared.open_error.OpenFault.{OpenFault}
use Rattle.range_proof.specs.declared.open_error.OpenFault.TheVariants as open_faults
use Rattle.session_json.specs.declared.fault.SessionTextFault.{SessionTextFault}
use Rattle.session_json.specs.declared.fault.SessionTextFault.TheVariants as text_faults
use Rattle.upload_session.specs.declared.range_fault.RangeFault.{RangeFault}
use Rattle.upload_session.specs.declared.range_fault.RangeFault.TheVariants as range_faults
use Rattle.upload_session.specs.declared.session_fault.SessionFault.{SessionFault}
use Rattle.upload_session.specs.declared.session_fault.SessionFault.TheVariants.{Overlap, Positions, Sizes, Memory, Gap}

abbrev pub done : ℕ
done = 0

abbrev pub arguments : ℕ
arguments = 1

abbrev pub sizes : ℕ
sizes = 2

abbrev pub memory : ℕ
memory = 3

abbrev pub text : ℕ
text = 4

abbrev pub room : ℕ
room = 5

abbrev pub empty_handle : ℕ
empty_handle = 6

abbrev pub mismatch : ℕ
mismatch = 7

abbrev pub elsewhere : ℕ
elsewhere = 38

abbrev pub too_far : ℕ
too_far = 39

abbrev pub session_overlap : ℕ
session_overlap = 33

abbrev pub session_positions : ℕ
session_positions = 34

abbrev pub session_gap : ℕ
session_gap = 37

abbrev pub core_status : CoreError → ℕ
core_status InvalidArguments = 1
core_status SizeOverflow = 2
core_status OutOfMemory = 3
core_status (InvalidJson rule) = 16 + rule
core_status (InvalidLists rule) = 16 + rule

abbrev pub session_status : SessionFault → ℕ
session_status Overlap = 33
session_status Positions = 34
session_status Sizes = 2
session_status Memory = 3
session_status Gap = 37

abbrev pub range_status : RangeFault → ℕ
range_status range_faults.Range = 1
range_status (range_faults.Overlap position) = 33
range_status range_faults.Positions = 34
range_status range_faults.Sizes = 2
range_status range_faults.Memory = 3

-- the rules of a range proof have statuses of their own
abbrev pub proof_status : CoreError → ℕ
proof_status InvalidArguments = 1
proof_status SizeOverflow = 2
proof_status OutOfMemory = 3
proof_status (InvalidJson rule) = 48 + rule
proof_status (InvalidLists rule) = 48 + rule

abbrev pub open_status : OpenFault → ℕ
open_status open_faults.Mismatch = 7
open_status open_faults.OutOfMemory = 3

abbrev pub text_status : SessionTextFault → ℕ
text_status text_faults.Text = 4
text_status (text_faults.Rule rule) = 64 + rule
text_status (text_faults.Subtree rule) = 16 + rule
text_status text_faults.Memory = 3
