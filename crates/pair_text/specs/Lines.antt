-- What a line says, without its newline.
use Rattle.std.specs.Prelude.{◌≡◌, ℕ, ◌^◌, ◌<◌, ◌⊎◌, List, ◌++◌, length, codes, decimal}
use Rattle.std.specs.Str.{str_to_ascii_lowercase}
use Rattle.xet_hash.specs.Blake3.{keyed_hash}
use Rattle.xet_hash.specs.Hash.{IsHash, IsHexText, data_key, hash_of, hex_text}
use Rattle.xet_roots.specs.Groups.{Node}

-- the line that ends a range
abbrev pub IsSeparator : List ℕ → Type 0
IsSeparator line = line ≡ codes "--"

-- the line that names the position of the next pair: an at sign and the position in decimal
abbrev pub IsPositionLine : List ℕ → ℕ → Type 0
IsPositionLine line position = (line ≡ codes "@" ++ decimal position) × (position < 2 ^ 64)

-- the line of a pair: the 64 hex digits of its hash, in lower or upper case, one space, and its size in decimal
pub record IsPairLine (line : List ℕ) (node : Node) : Type 0 where
  pub digits : List ℕ
  pub parts : line ≡ digits ++ codes " " ++ decimal node.1
  pub are_digits : IsHexText digits
  pub reads : hex_text node.0 ≡ str_to_ascii_lowercase digits
  pub is_hash : IsHash node.0
  pub is_size : node.1 < 2 ^ 64

-- the line of a chunk: a plus sign and the chunk's bytes; its pair is their data hash and their number
abbrev pub IsChunkLine : List ℕ → Node → Type 0
IsChunkLine line node = (bytes : List ℕ) × (line ≡ codes "+" ++ bytes) × (node ≡ (hash_of (keyed_hash data_key bytes), length bytes))

-- a line that says a pair
abbrev pub SaysPair : List ℕ → Node → Type 0
SaysPair line node = IsPairLine line node ⊎ IsChunkLine line node
