-- The faults of a text.
use Rattle.std.proofs.Common.{◌≡◌, ℕ, List, sym, subst}
use Rattle.serde_json.specs.Data.{Data}
use Rattle.upload_session.specs.Hashes.{Hash}
use Rattle.std.specs.List.{AllZip}
use Rattle.std.specs.Prelude.{All}
use Rattle.session_json.specs.Reading.{BreaksRule, BreaksSubtreeOf, BreaksSubtreeRule, HasFault, HasLists, IsRunValue, IsStrictText, ReadsHash, ReadsLists}
use Rattle.session_json.specs.Steps.SavedRuns.{all_placed, ReadsSaved}
use Rattle.session_json.specs.declared.fault.SessionTextFault.{SessionTextFault}
use Rattle.session_json.specs.declared.fault.SessionTextFault.TheVariants.{Text, Rule, Subtree, Memory}
use Rattle.session_json.specs.declared.reading.SavedRun.{SavedRun}
use Rattle.session_json.proofs.Broken.{reads_placed}

pub for_memory : (text : List ℕ) (e : SessionTextFault) → e ≡ Memory → HasFault text e
for_memory text e is = subst (HasFault text) (sym is) tt

pub for_text : (text : List ℕ) (e : SessionTextFault) → e ≡ Text → ((json : Data) → IsStrictText text json → ⊥) → HasFault text e
for_text text e is none = subst (HasFault text) (sym is) none

pub for_rule : (text : List ℕ) (json : Data) (rule : ℕ) (e : SessionTextFault) → IsStrictText text json → e ≡ Rule rule → BreaksRule json rule → HasFault text e
for_rule text json rule e strict is broken = subst (HasFault text) (sym is) (json, strict, broken)

pub for_subtree : (text : List ℕ) (json : Data) (rule : ℕ) (e : SessionTextFault) → IsStrictText text json → e ≡ Subtree rule → BreaksSubtreeRule json rule
    → HasFault text e
for_subtree text json rule e strict is broken = subst (HasFault text) (sym is) (json, strict, broken)

-- ---- what was read of the lists of a value

pub breaks_subtree : (json : Data) (run_values hash_values : List Data) (hashes : List Hash) (rule : ℕ) → HasLists json run_values hash_values
    → All IsRunValue run_values → AllZip ReadsHash hash_values hashes → BreaksSubtreeOf run_values rule → BreaksSubtreeRule json rule
breaks_subtree json run_values hash_values hashes rule lists runs known of = record {
  run_values = run_values;
  hash_values = hash_values;
  lists = lists;
  are_runs = runs;
  hashes = hashes;
  known_are = known;
  of_runs = of;
}

pub reads_lists : (json : Data) (run_values hash_values : List Data) (runs : List SavedRun) (hashes : List Hash) → HasLists json run_values hash_values
    → AllZip ReadsSaved run_values runs → AllZip ReadsHash hash_values hashes → ReadsLists json (all_placed runs) hashes
reads_lists json run_values hash_values runs hashes lists read known = record {
  run_values = run_values;
  hash_values = hash_values;
  lists = lists;
  runs_are = reads_placed run_values runs read;
  known_are = known;
}
