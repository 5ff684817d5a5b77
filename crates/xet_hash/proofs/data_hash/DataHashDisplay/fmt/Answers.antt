use Rattle.std.proofs.Common.{Result, Ok, Err, refl}
use Rattle.std.specs.Prelude.{IsOk, MatchResult}
use Rattle.std.proofs.lemmas.Str.{IsUtf8-from_ascii}
use Rattle.xet_hash.proofs.data_hash.DataHashDisplay.fmt.Goals as goal

-- a result that can't be an `Err`
IsOk-without_err : {T E : Type 0} (r : Result T E) (P : T → Type 0) (Q : E → Type 0) → MatchResult r P Q
    → ((e : E) → Q e → ⊥) → IsOk r
IsOk-without_err (Ok x) P Q h none = refl
IsOk-without_err (Err e) P Q h none = absurd (none e h)

pub unwrap-requires : goal.unwrap-requires
unwrap-requires g c =
    let text = IsUtf8-from_ascii _ c.hex_digits-digits.ensures.ascii in
    IsOk-without_err _ _ _ c.from_utf8.ensures.cases (λ e h. h.0 text)
