-- What the words of the program's arguments request, and what it then does.
use Rattle.std.specs.Prelude.{◌≡◌, ℕ, ◌^◌, ◌<◌, ◌⊎◌, List, [], ◌∷◌, Result, IsOkAnd, codes, decimal}
use Rattle.std.specs.declared.string.String.{String}
use Rattle.std.specs.declared.vec.IntoIter.{IntoIter}
use Rattle.line_io.specs.Requests.{AskForHelp, AskForVersion, words_of}
use Rattle.xetrange_text.specs.declared.command.Command.{Command}
use Rattle.xetrange_text.specs.declared.command.Command.TheVariants.{Make, Join, Root, Prove, Verify}
use Rattle.xetrange_text.specs.declared.fault.RangeFault.{RangeFault}
use Rattle.std.specs.Str.{str_to_ascii_lowercase}
use Rattle.xet_hash.specs.Hash.{IsHash, IsHexText, hex_text}
use Rattle.xetrange_text.specs.Verifying.{IsVerifiedOf, IsVerifyFaultOf}
use Rattle.xetrange_text.specs.Answers.{IsMadeOf, IsMakeFaultOf, IsJoinedOf, IsRangeFaultOf, IsRootOf, IsProvedOf, IsProveFaultOf}

-- some bytes are the 64 hex digits of a hash, in lower or upper case
pub record IsHexOf (digits hash : List ℕ) : Type 0 where
  pub are_digits : IsHexText digits
  pub reads : hex_text hash ≡ str_to_ascii_lowercase digits
  pub is_hash : IsHash hash

-- some words request a command
abbrev pub AskFor : List (List ℕ) → Command → Type 0
AskFor words Make = words ≡ codes "make" ∷ []
AskFor words Join = words ≡ codes "join" ∷ []
AskFor words Root = words ≡ codes "root" ∷ []
AskFor words (Prove first end) = (words ≡ codes "prove" ∷ decimal first ∷ decimal end ∷ []) × (first < 2 ^ 64) × (end < 2 ^ 64)
AskFor words (Verify file_hash from to) =
    (digits : List ℕ) × (words ≡ codes "verify" ∷ digits ∷ decimal from ∷ decimal to ∷ []) × IsHexOf digits file_hash × (from < 2 ^ 64) × (to < 2 ^ 64)

-- some arguments could be read, and request a command
abbrev pub HasCommand : {A E : Type 0} → Result (IntoIter (String A) A) E → Command → Type 0
HasCommand args command = IsOkAnd args (λ args. AskFor (words_of args) command)

-- the program knows some words
abbrev pub AreKnown : List (List ℕ) → Type 0
AreKnown words = ((command : Command) × AskFor words command) ⊎ (AskForHelp words ⊎ AskForVersion words)

-- the answer of a command to an input
abbrev pub IsAnswerOf : Command → List ℕ → List ℕ → Type 0
IsAnswerOf Make = IsMadeOf
IsAnswerOf Join = IsJoinedOf
IsAnswerOf Root = IsRootOf
IsAnswerOf (Prove first end) = IsProvedOf first end
IsAnswerOf (Verify file_hash from to) = IsVerifiedOf file_hash from to

-- a fault of a command with an input
abbrev pub IsFaultOf : Command → List ℕ → RangeFault → Type 0
IsFaultOf Make = IsMakeFaultOf
IsFaultOf Join = IsRangeFaultOf
IsFaultOf Root = IsRangeFaultOf
IsFaultOf (Prove first end) = IsProveFaultOf first end
IsFaultOf (Verify file_hash from to) = IsVerifyFaultOf file_hash from to
