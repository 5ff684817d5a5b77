-- The two lines of output.
use Rattle.std.specs.Prelude.{◌≡◌, ℕ, List, ◌++◌, codes, replicate}
use Rattle.xet_hash.specs.Hash.{hex_text}
use Rattle.xet_roots.specs.Groups.{Node}
use Rattle.xet_roots.specs.Roots.{IsRoot, IsFileHash}

-- the text of a root and a file hash
abbrev pub output_text : List ℕ → List ℕ → List ℕ
output_text root file = codes "xorb " ++ hex_text root ++ codes "\nfile " ++ hex_text file ++ codes "\n"

-- the two lines for some pairs: their root, and their file hash under the salt of 32 zero bytes
pub record IsOutput (pairs : List Node) (output : List ℕ) : Type 0 where
  pub root : List ℕ
  pub file : List ℕ
  pub is_root : IsRoot pairs root
  pub is_file : IsFileHash pairs (replicate 32 0) file
  pub text : output ≡ output_text root file
