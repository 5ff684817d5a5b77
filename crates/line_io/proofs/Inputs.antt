-- What is known of a whole input from the part that was read.
use Rattle.std.proofs.Common.{ℕ, List, ◌++◌, sym, subst, Option, Some, None, IfSome}
use Rattle.std.specs.Io.KnownBytes.{Consumes}

-- what holds however the input goes on holds of the input
pub IfSome-consumed : (old new : Option (List ℕ)) (read : List ℕ) (P : List ℕ → Type 0) → Consumes old new read → ((rest : List ℕ) → P (read ++ rest)) → IfSome old P
IfSome-consumed None new read P consumed h = tt
IfSome-consumed (Some text) None read P consumed h = absurd consumed
IfSome-consumed (Some text) (Some rest) read P consumed h = subst P (sym consumed) (h rest)
