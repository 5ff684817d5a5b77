use Rattle.std.proofs.Common.{inl, inr, sym, ◌∙◌}
use Rattle.std.proofs.lemmas.Bool.{false≢true}
use Rattle.xet_roots.proofs.Results.{passed_on}
use Rattle.session_json.specs.Reading.{no_run, no_hash}
use Rattle.session_json.proofs.Faults.{for_memory, for_text, for_rule, for_subtree, breaks_subtree, reads_lists}
use Rattle.session_json.proofs.reading.read_parts.Goals as goal

pub returns-in_err-value-clause-refused : goal.returns-in_err-value-clause-refused
returns-in_err-value-clause-refused c =
    passed_on _ c.from_residual.result c.in_err-value.field-0.0 c.from_residual.ensures.1
    (elim c.in_err-value.ensures.errors [
      | inl memory ↦ for_memory _ _ memory
      | inr refused ↦ for_text _ _ refused.0 refused.1
    ])

pub returns-in-Err-clause-refused : goal.returns-in-Err-clause-refused
returns-in-Err-clause-refused c = (_, c.in_ok-value.ensures.value, c.in-Err.ensures.broken)

pub returns-then-not-are_runs-clause-refused : goal.returns-then-not-are_runs-clause-refused
returns-then-not-are_runs-clause-refused c = (
  _,
  c.in_ok-value.ensures.value,
  no_run c.in-Ok.ensures.lists (λ all. absurd (false≢true (sym c.if-not-are_runs.true ∙ c.are_runs.ensures.1 all))),
)

pub returns-in_err-hashes-clause-refused : goal.returns-in_err-hashes-clause-refused
returns-in_err-hashes-clause-refused c =
    passed_on _ c.from_residual-in_err-hashes.result c.in_err-hashes.field-0.0 c.from_residual-in_err-hashes.ensures.1
    (elim c.in_err-hashes.ensures.refused [
      | inl memory ↦ for_memory _ _ memory
      | inr refused ↦ for_rule _ _ 4 _ c.in_ok-value.ensures.value refused.0
          (no_hash c.in-Ok.ensures.lists (c.are_runs.ensures.0 c.if-not-are_runs.false) refused.1)
    ])

pub returns-in_err-runs-clause-refused : goal.returns-in_err-runs-clause-refused
returns-in_err-runs-clause-refused c =
    passed_on _ c.from_residual-in_err-runs.result c.in_err-runs.field-0.0 c.from_residual-in_err-runs.ensures.1
    (elim c.in_err-runs.ensures.refused [
      | inl memory ↦ for_memory _ _ memory
      | inr refused ↦ for_subtree _ _ refused.0 _ c.in_ok-value.ensures.value refused.1
          (breaks_subtree _ _ _ _ refused.0 c.in-Ok.ensures.lists (c.are_runs.ensures.0 c.if-not-are_runs.false) c.in_ok-hashes.ensures.read refused.2)
    ])

pub returns-clause-read : goal.returns-clause-read
returns-clause-read c = (
  _,
  c.in_ok-value.ensures.value,
  reads_lists _ _ _ c.in_ok-runs.runs.items _ c.in-Ok.ensures.lists c.in_ok-runs.ensures.read c.in_ok-hashes.ensures.read,
)
