-- Hashers of files that handles own.
use Rattle.std.specs.Prelude.{ℕ, List}
use Rattle.upload_session.specs.Subtrees.{subtrees}
use Rattle.std.specs.declared.alloc.Global.{Global}
use Rattle.xet_file.specs.FileHasher.{Holds}
use Rattle.yurewha_c.specs.declared.kept_file.KeptFile.{KeptFile}

-- the pieces that a hasher was given make up a file
abbrev pub HasTaken : KeptFile → List ℕ → Type 0
HasTaken kept file = Holds {A = Global} subtrees kept.hasher file
