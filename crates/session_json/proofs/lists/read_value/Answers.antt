use Rattle.std.proofs.Common.{rules, List, ℕ, inl, inr, refl, sym, ap, subst, ◌∙◌}
use Rattle.std.specs.Prelude.{IsSomeAnd}
use Rattle.json.specs.Json.{document}
use Rattle.json.specs.Strict.{HasUniqueKeys}
use Rattle.serde_json.specs.Read.{read}
use Rattle.xet_roots.proofs.Results.{passed_on}
use Rattle.session_json.proofs.Strict.{strict, unique_of}
use Rattle.session_json.proofs.lists.read_value.Goals as goal

pub returns-in_default-clause-errors : goal.returns-in_default-clause-errors
returns-in_default-clause-errors c = inr (refl, λ json h. c.in_default.ensures.cases.0 h.utf8)

pub returns-in_err-check_members-clause-errors : goal.returns-in_err-check_members-clause-errors
returns-in_err-check_members-clause-errors c =
    passed_on _ c.from_residual.result c.in_err-check_members.field-0.0 c.from_residual.ensures.1
    (elim c.in_err-check_members.ensures.errors [
      | inl memory ↦ inl memory
      | inr refused ↦ inr (
        refused.0,
        λ json h.
            refused.1 (subst (λ (text : List ℕ). IsSomeAnd (document text) HasUniqueKeys) (sym c.in-Ok.ensures.cases.0) (unique_of _ json h)),
      )
    ])

pub returns-in-Ok-from_str-clause-value : goal.returns-in-Ok-from_str-clause-value
returns-in-Ok-from_str-clause-value c =
    strict _ _ c.in-Ok.ensures.cases.1 (c.is_shallow.ensures.0 (search rules))
    (subst (λ (text : List ℕ). IsSomeAnd (document text) HasUniqueKeys) c.in-Ok.ensures.cases.0 c.in_ok-check_members.ensures.unique)
    (ap read (sym c.in-Ok.ensures.cases.0) ∙ c.in-Ok-from_str.ensures.ok)
