-- An error that is passed on.
use Rattle.std.proofs.Common.{◌≡◌, Result, Ok, Err, IfErr, IsErrAnd, subst, sym}

pub passed_on : {T E : Type 0} (P : E → Type 0) (result : Result T E) (e : E) → IsErrAnd result (λ (other : E). other ≡ e) → P e → IfErr result P
passed_on P (Ok value) e h p = tt
passed_on P (Err other) e h p = subst P (sym h) p
