use Rattle.std.proofs.Common.{arith, ◌≡◌, ℕ, List, sym, ◌∙◌}
use Rattle.serde_json.specs.Data.{Data}
use Rattle.session_json.specs.Reading.{HasFault, IsStrictText}
use Rattle.session_json.specs.declared.fault.SessionTextFault.{SessionTextFault}
use Rattle.session_json.specs.declared.fault.SessionTextFault.TheVariants.{Text, Rule, Subtree, Memory}
use Rattle.yurewha_c.specs.Statuses.{text_status}
use Rattle.yurewha_c.proofs.session_text.yurewha_session_from_json.Goals as goal

-- only one fault has the status of a text, and it says that the text has no value
no_text : (text : List ℕ) (fault : SessionTextFault) → HasFault text fault → text_status fault ≡ 4 → (json : Data) → IsStrictText text json → ⊥
no_text text Text none e = none
no_text text (Rule rule) h e = absurd (omega (arith, e))
no_text text (Subtree rule) h e = absurd (omega (arith, e))
no_text text Memory h e = absurd (omega (arith, e))

pub returns-in-Err-clause-text : goal.returns-in-Err-clause-text
returns-in-Err-clause-text c = λ e. no_text c.args.text.now c.in-Err.fault c.in-Err.ensures.refused (sym c.status_of_text.ensures ∙ e)
