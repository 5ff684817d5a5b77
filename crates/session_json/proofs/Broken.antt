-- A value whose chunks are no subtree.
use Rattle.std.proofs.Common.{◌≡◌, ◌+◌, ◌<◌, ◌++◌, ℕ, List, [], ◌∷◌, Option, Some, None, drop, get_or, length, map, take, sym, ap, subst, inl, inr, ◌∙◌, rules}
use Rattle.std.specs.Prelude.{◌⊎◌, IfNone, IfSome, IsSome}
use Rattle.std.specs.List.{AllZip}
use Rattle.std.proofs.lemmas.List.{drop_more, map-append, take-append-drop}
use Rattle.serde_json.specs.Data.{Data}
use Rattle.serde_json.specs.View.{view}
use Rattle.serde_json.specs.declared.value.Value.{Value}
use Rattle.xet_merkle.specs.JsonRules as subtree
use Rattle.xet_roots.specs.declared.error.CoreError.{CoreError}
use Rattle.xet_roots.specs.declared.error.CoreError.TheVariants.{OutOfMemory, InvalidJson}
use Rattle.session_json.specs.Reading.{BreaksSubtreeOf, HasRunMembers, IsRunValue, ReadsRun}
use Rattle.session_json.specs.Steps.SavedRuns.{all_placed, ReadsSaved}
use Rattle.session_json.specs.declared.reading.SavedRun.{SavedRun}

pub is_run : {X : Type 0} (found : Option X) (value : Data) → IfNone found ((first end : ℕ) (chunks : Data) → HasRunMembers value first end chunks → ⊥)
    → IsRunValue value → IsSome found
is_run None value none run = absurd (none run.0 run.1 run.2 run.3)
is_run (Some x) value none run = search rules

pub reads_placed : (values : List Data) (runs : List SavedRun) → AllZip ReadsSaved values runs → AllZip ReadsRun values (all_placed runs)
reads_placed [] [] h = tt
reads_placed [] (run ∷ runs) h = elim h [ ]
reads_placed (value ∷ values) [] h = elim h [ ]
reads_placed (value ∷ values) (run ∷ runs) h = (h.0, reads_placed values runs h.1)

-- the values before one, it, and those after it
parted : (values : List Value) (i : ℕ) (value : Value) → i < length values → value ≡ get_or values i value
    → map view values ≡ map view (take i values) ++ view value ∷ map view (drop (i + 1) values)
parted values i value within is =
    ap (map view) (sym (take-append-drop i values) ∙ ap (λ (rest : List Value). take i values ++ rest) (drop_more values i value within))
    ∙ map-append view (take i values) (get_or values i value ∷ drop (i + 1) values)
    ∙ ap (λ (other : Value). map view (take i values) ++ view other ∷ map view (drop (i + 1) values)) (sym is)

pub broken_run : (values : List Value) (i : ℕ) (value : Value) (done : List SavedRun) (first end : ℕ) (chunks : Data) (rule : ℕ) → i < length values
    → value ≡ get_or values i value → AllZip ReadsSaved (map view (take i values)) done → HasRunMembers (view value) first end chunks
    → subtree.BreaksRule chunks rule → BreaksSubtreeOf (map view values) rule
broken_run values i value done first end chunks rule within is read members broken = record {
  before = map view (take i values);
  value = view value;
  after = map view (drop (i + 1) values);
  values_are = parted values i value within is;
  runs = all_placed done;
  runs_are = reads_placed (map view (take i values)) done read;
  first = first;
  end = end;
  chunks = chunks;
  members = members;
  broken = broken;
}

-- the rule of an error that isn't for lack of memory
pub rule_of : (e : CoreError) (rule : ℕ) (P : ℕ → Type 0) → e ≡ InvalidJson rule → (e ≡ OutOfMemory) ⊎ ((other : ℕ) × (e ≡ InvalidJson other) × P other) → P rule
rule_of e rule P is (inl memory) = let none : ⊥ = cc in absurd none
rule_of e rule P is (inr (other, same, broken)) = let found : other ≡ rule = cc in subst P found broken

-- what a found value has
pub found_has : {X : Type 0} (P : X → Type 0) (found : Option X) (x : X) → found ≡ Some x → IfSome found P → P x
found_has P None x is h = let none : ⊥ = cc in absurd none
found_has P (Some y) x is h = let same : y ≡ x = cc in subst P same h
