-- The promise of a call that reads an input and writes its answer.
use Rattle.std.specs.Prelude.{◌≡◌, ◌≢◌, ℕ, List, ◌++◌, Option, Result, Ok, Err, IfSome, IfErr, OnOk}
use Rattle.std.specs.Io.KnownBytes.{Appends, IsAtEnd, Keeps}

-- a call read from a reader and wrote to a writer. `input` is what the reader had before, `left` what it has after.
-- `before` and `after` are what the writer held.
pub record AnswersInput {F : Type 0} (is_answer : List ℕ → List ℕ → Type 0) (is_fault : List ℕ → F → Type 0) (write_failed : F)
    (input left before after : Option (List ℕ)) (result : Result (Unit {0}) F) : Type 0 where
  -- what was written is the answer to the whole input
  pub answer : OnOk result (IfSome input (λ text. (output : List ℕ) × is_answer text output × Appends before after output))
  pub read : OnOk result (IsAtEnd left)
  -- a fault depends on the whole input, including the part that was left unread
  pub fault : IfErr result (λ fault. IfSome input (λ text. is_fault text fault))
  pub unwritten : IfErr result (λ fault. fault ≢ write_failed → Keeps before after)
  pub begun : result ≡ Err write_failed → IfSome input (λ text. (written rest : List ℕ) × is_answer text (written ++ rest)
      × Appends before after written)

-- a call that was to write a text to a writer ended this way; the writer held the first bytes before and the second
-- after. After a failed write it has got a beginning of the text.
abbrev pub WritesOut : {F : Type 0} → List ℕ → F → Option (List ℕ) → Option (List ℕ) → Result (Unit {0}) F → Type 0
WritesOut text write_failed before after (Ok done) = Appends before after text
WritesOut text write_failed before after (Err fault) =
    (fault ≡ write_failed) × ((written rest : List ℕ) × (text ≡ written ++ rest) × Appends before after written)
