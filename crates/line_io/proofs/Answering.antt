-- The contract of a call that answers an input, with faults of another type.
use Rattle.std.proofs.Common.{◌≡◌, ℕ, List, Option, Some, None, IfSome, Err}
use Rattle.line_io.specs.Answers.{AnswersInput}

-- what holds of a text holds in another form
if-weaker : {P Q : List ℕ → Type 0} (o : Option (List ℕ)) → IfSome o P → ((text : List ℕ) → P text → Q text) → IfSome o Q
if-weaker None p h = tt
if-weaker (Some text) p h = h text p

module _ {is_answer : List ℕ → List ℕ → Type 0} {input left before after : Option (List ℕ)} {E F : Type 0} {is_fault : List ℕ → E → Type 0} {write_failed : E}
    (fault_of : E → F) (is_other : List ℕ → F → Type 0) (other_failed : F) where
  -- a fault that is another one's form
  pub AnswersInput-err : (fault : E) → AnswersInput is_answer is_fault write_failed input left before after (Err fault)
      → ((text : List ℕ) → is_fault text fault → is_other text (fault_of fault)) → (fault_of fault ≡ other_failed → fault ≡ write_failed)
      → (fault ≡ write_failed → fault_of fault ≡ other_failed) → AnswersInput is_answer is_other other_failed input left before after (Err (fault_of fault))
  AnswersInput-err fault answers faulty only failed = record {
    answer = tt;
    read = tt;
    fault = if-weaker input answers.fault faulty;
    unwritten = λ other. answers.unwritten (λ is. other (failed is));
    begun = λ is. answers.begun (cc (only (let same : fault_of fault ≡ other_failed = cc is in same)));
  }
