use Rattle.std.proofs.Common.{Err, inr, refl, sym, ap, subst}
use Rattle.std.specs.Prelude.{IsSomeAnd, Option}
use Rattle.json.specs.Json.{Json}
use Rattle.json.specs.Strict.{HasUniqueKeys}
use Rattle.session_json.proofs.Strict.{not_both}
use Rattle.session_json.proofs.lists.check_members.Goals as goal

pub returns-in-Ok-clause-unique : goal.returns-in-Ok-clause-unique
returns-in-Ok-clause-unique c = subst (λ (found : Option Json). IsSomeAnd found HasUniqueKeys) (sym c.in-Ok.ensures.ok) c.in-Ok.ensures.unique

pub returns-in-Err-Invalid-clause-errors : goal.returns-in-Err-Invalid-clause-errors
returns-in-Err-Invalid-clause-errors c = inr (
  refl,
  λ unique.
      subst (λ (found : Option Json). IsSomeAnd found HasUniqueKeys) (c.in-Err-Invalid.ensures.invalid (ap Err c.in-Err-Invalid.field-0-is)) unique,
)

pub returns-in-Err-DuplicateKey-clause-errors : goal.returns-in-Err-DuplicateKey-clause-errors
returns-in-Err-DuplicateKey-clause-errors c = inr (refl, λ unique. not_both _ (c.in-Err-DuplicateKey.ensures.duplicate (ap Err c.in-Err-DuplicateKey.field-0-is)) unique)
