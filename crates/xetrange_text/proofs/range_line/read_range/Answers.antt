use Rattle.std.proofs.Common.{inl, inr, sym, ◌∙◌}
use Rattle.xetrange_text.proofs.range_line.read_range.Goals.{then-at_start-via-then-at_start, then-at_start-via-else-at_start+then-at_end}
use Rattle.xetrange_text.proofs.range_line.read_range.Goals as goal

pub returns-then-at_start-clause-fault : goal.returns-then-at_start-clause-fault
returns-then-at_start-clause-fault g c = inr (
  _,
  c.in-Ok-from_json.range,
  c.in-Ok.ensures.value,
  c.in-Ok-from_json.ensures.reads,
  elim c.then-at_start.branch [
    | then-at_start-via-then-at_start w ↦ inl (sym c.at_start.ensures ∙ w.if-at_start.true)
    | then-at_start-via-else-at_start+then-at_end w ↦ inr (sym w.at_end.ensures ∙ w.if-at_end.true)
  ],
)
