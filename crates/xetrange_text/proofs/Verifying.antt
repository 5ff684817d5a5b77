-- What a line and the data after it verify, from the part of an input that was read.
use Rattle.std.proofs.Common.{◌≡◌, ◌≢◌, ◌<◌, ◌⊎◌, ℕ, List, ◌++◌, length, replicate, refl, sym, ap, subst, ◌∙◌, inl, inr, arith, length-append, Option, Some, None, IfSome, Result, Ok, Err}
use Rattle.std.specs.Io.KnownBytes.{Appends, IsAtEnd}
use Rattle.std.proofs.KnownBytes.{Keeps-refl}
use Rattle.serde_json.specs.Data.{Data}
use Rattle.xet_merkle.specs.Roots.{total_size}
use Rattle.line_io.specs.Answers.{AnswersInput}
use Rattle.line_io.specs.Faults.{IfLine}
use Rattle.line_io.specs.Lines.{byte_limit}
use Rattle.line_io.specs.LineAndData.{first_line, after_line, HasRead}
use Rattle.line_io.proofs.LineAndData.{HasRead-all}
use Rattle.line_io.specs.declared.fault.InputFault.{InputFault}
use Rattle.line_io.specs.declared.fault.InputFault.TheVariants.{Line, Memory as input_memory, Read as read_failed}
use Rattle.line_io.specs.declared.line_and_data.LongLine.{LongLine}
use Rattle.range_proof.specs.RangeProof.{Proof, Shows}
use Rattle.range_proof.specs.ProofJson.{Reads}
use Rattle.range_proof.specs.Reading.{IsRead}
use Rattle.range_proof.proofs.ReadingOf.{length-chunks}
use Rattle.xetrange_text.specs.declared.fault.RangeFault.{RangeFault}
use Rattle.xetrange_text.specs.declared.fault.RangeFault.TheVariants.{BadLine, Sizes, Memory, Read, Write, BadRange, NoChunks, Mismatch}
use Rattle.xetrange_text.specs.Status.{line_fault_of}
use Rattle.xetrange_text.specs.Proofs.{SaysProof}
use Rattle.xetrange_text.specs.Verifying.{IsOpenFaultOf, IsVerifiedOf, IsVerifyFaultOf}

-- ---- calls

-- a call that failed before it wrote anything
pub refused : {is_answer : List ℕ → List ℕ → Type 0} {is_fault : List ℕ → RangeFault → Type 0} (input left before : Option (List ℕ)) (fault : RangeFault)
    → IfSome input (λ text. is_fault text fault) → fault ≢ Write → AnswersInput is_answer is_fault Write input left before before (Err fault)
refused input left before fault faulty other = record {
  answer = tt;
  read = tt;
  fault = faulty;
  unwritten = λ _. Keeps-refl before;
  begun = λ is. let same : fault ≡ Write = cc is in absurd (other same);
}

-- a call gives answers of one relation if it gives those of a narrower one
pub answers-more : {narrow wide : List ℕ → List ℕ → Type 0} {is_fault : List ℕ → RangeFault → Type 0} (input left before after : Option (List ℕ))
    (result : Result (Unit {0}) RangeFault) → ((text output : List ℕ) → narrow text output → wide text output)
    → AnswersInput narrow is_fault Write input left before after result → AnswersInput wide is_fault Write input left before after result
answers-more None left before after (Ok done) more h = record { answer = tt; read = h.read; fault = h.fault; unwritten = h.unwritten; begun = λ _. tt }
answers-more None left before after (Err fault) more h = record { answer = tt; read = h.read; fault = h.fault; unwritten = h.unwritten; begun = λ _. tt }
answers-more (Some text) left before after (Ok done) more h = record {
  answer = (h.answer.0, more text h.answer.0 h.answer.1, h.answer.2);
  read = h.read;
  fault = h.fault;
  unwritten = h.unwritten;
  begun = λ is. let begun = h.begun is in (begun.0, begun.1, more text _ begun.2, begun.3);
}
answers-more (Some text) left before after (Err fault) more h = record {
  answer = tt;
  read = h.read;
  fault = h.fault;
  unwritten = h.unwritten;
  begun = λ is. let begun = h.begun is in (begun.0, begun.1, more text _ begun.2, begun.3);
}

size-of : (proof : Proof) (from to : ℕ) (bytes output : List ℕ) → IsRead proof from to bytes output → length bytes ≡ total_size proof.chunks
size-of proof from to bytes output is = length-chunks proof.chunks bytes is.chunks is.are_chunks

-- ---- faults

pub line-fault : (file_hash : List ℕ) (from to : ℕ) (input : Option (List ℕ)) (of : InputFault LongLine)
    → IfSome input (λ text. IfLine of (λ number _. (number ≡ 1) × (byte_limit < length (first_line text))))
    → IfSome input (λ text. IsVerifyFaultOf file_hash from to text (line_fault_of of))
line-fault file_hash from to None of faulty = tt
line-fault file_hash from to (Some text) (Line number long) faulty = faulty
line-fault file_hash from to (Some text) input_memory faulty = tt
line-fault file_hash from to (Some text) read_failed faulty = tt

pub data-fault : (file_hash : List ℕ) (from to : ℕ) (input : Option (List ℕ)) (of : InputFault LongLine) → IfLine of (λ _ _. ⊥)
    → IfSome input (λ text. IsVerifyFaultOf file_hash from to text (line_fault_of of))
data-fault file_hash from to None of faulty = tt
data-fault file_hash from to (Some text) (Line number long) faulty = absurd faulty
data-fault file_hash from to (Some text) input_memory faulty = tt
data-fault file_hash from to (Some text) read_failed faulty = tt

pub not-write : (of : InputFault LongLine) → line_fault_of of ≢ Write
not-write (Line number long) is = cc is
not-write input_memory is = cc is
not-write read_failed is = cc is

pub open-not-write : (file_hash line : List ℕ) (fault : RangeFault) → IsOpenFaultOf file_hash line fault → fault ≢ Write
open-not-write file_hash line (BadRange number rule) faulty is = cc is
open-not-write file_hash line Mismatch faulty is = cc is
open-not-write file_hash line Memory faulty is = cc is
open-not-write file_hash line (BadLine number) faulty is = absurd faulty
open-not-write file_hash line (Sizes number) faulty is = absurd faulty
open-not-write file_hash line NoChunks faulty is = absurd faulty
open-not-write file_hash line Read faulty is = absurd faulty
open-not-write file_hash line Write faulty is = absurd faulty

module _ (one_range_proof : (json : Data) (a b : Proof) → Reads json a → Reads json b → a ≡ b) where
  one_proof : (text : List ℕ) (a b : Proof) → SaysProof text a → SaysProof text b → a ≡ b
  one_proof text a b (json, first, reads) (other, second, also) =
      let same : json ≡ other = cc (sym first.value_is ∙ second.value_is) in one_range_proof other a b (subst (λ j. Reads j a) same reads) also

  -- a line that opens no range
  pub open-fault : (file_hash : List ℕ) (from to : ℕ) (input left : Option (List ℕ)) (line bytes : List ℕ) (fault : RangeFault) → HasRead line bytes input left
      → IsOpenFaultOf file_hash line fault → IfSome input (λ text. IsVerifyFaultOf file_hash from to text fault)
  open-fault file_hash from to None left line bytes fault held faulty = tt
  open-fault file_hash from to (Some text) left line bytes (BadRange number rule) (rest, is, first, after) faulty =
      (faulty.0, rw first faulty.1)
  open-fault file_hash from to (Some text) left line bytes Mismatch (rest, is, first, after) (proof, says, other) = (
    proof,
    rw first says,
    λ output verified. other (subst (λ (p : Proof). Shows p file_hash (replicate 32 0)) (one_proof (first_line text) verified.proof proof verified.says (rw first says)) verified.shows),
  )
  open-fault file_hash from to (Some text) left line bytes Memory held faulty = tt
  open-fault file_hash from to (Some text) left line bytes (BadLine number) held faulty = absurd faulty
  open-fault file_hash from to (Some text) left line bytes (Sizes number) held faulty = absurd faulty
  open-fault file_hash from to (Some text) left line bytes NoChunks held faulty = absurd faulty
  open-fault file_hash from to (Some text) left line bytes Read held faulty = absurd faulty
  open-fault file_hash from to (Some text) left line bytes Write held faulty = absurd faulty

  -- data that isn't that of the chunks, or too much of it, or places outside the range
  pub read-fault : (file_hash : List ℕ) (from to : ℕ) (input left : Option (List ℕ)) (line bytes : List ℕ) (proof : Proof) → HasRead line bytes input left
      → SaysProof line proof → IsAtEnd left ⊎ (total_size proof.chunks < length bytes) → ((output : List ℕ) → ¬ (IsRead proof from to bytes output))
      → IfSome input (λ text. IsVerifyFaultOf file_hash from to text Mismatch)
  read-fault file_hash from to None left line bytes proof held says enough none = tt
  read-fault file_hash from to (Some text) left line bytes proof (rest, is, first, after) says enough none = (
    proof,
    rw first says,
    λ output verified.
        let same = one_proof (first_line text) verified.proof proof verified.says (rw first says) in
        let found : IsRead proof from to (after_line text) output = subst (λ (p : Proof). IsRead p from to (after_line text) output) same verified.is_read in
        refuted enough output found,
  )
    where
      refuted : IsAtEnd left ⊎ (total_size proof.chunks < length bytes) → (output : List ℕ) → IsRead proof from to (after_line text) output → ⊥
      refuted (inl ended) output found =
          let all = HasRead-all (Some text) left line bytes (rest, is, first, after) ended in
          none output (subst (λ (b : List ℕ). IsRead proof from to b output) all.1 found)
      refuted (inr more) output found =
          omega (arith, more, size-of proof from to (after_line text) output found, ap length after, length-append bytes rest)

-- ---- answers

-- the input is at its end where its data was read
ended : (left : Option (List ℕ)) (from to : ℕ) (bytes output : List ℕ) (proof : Proof) → IsAtEnd left ⊎ (total_size proof.chunks < length bytes)
    → IsRead proof from to bytes output → IsAtEnd left
ended left from to bytes output proof (inl is) read = is
ended left from to bytes output proof (inr more) read = absurd (omega (arith, more, size-of proof from to bytes output read))

verified : (file_hash : List ℕ) (from to : ℕ) (input left : Option (List ℕ)) (line bytes output : List ℕ) (proof : Proof) → HasRead line bytes input left
    → SaysProof line proof → Shows proof file_hash (replicate 32 0) → IsAtEnd left → IsRead proof from to bytes output
    → IfSome input (λ text. IsVerifiedOf file_hash from to text output)
verified file_hash from to None left line bytes output proof held says shows end read = tt
verified file_hash from to (Some text) left line bytes output proof held says shows end read =
    let all = HasRead-all (Some text) left line bytes held end in record {
      proof = proof;
      says = rw all.0 says;
      shows = shows;
      is_read = rw all.1 read;
    }

-- with a fact, what holds of a text holds beside it
pub beside : {P Q : List ℕ → Type 0} (input : Option (List ℕ)) → IfSome input P → ((text : List ℕ) → P text → Q text) → IfSome input Q
beside None p h = tt
beside (Some text) p h = h text p

-- reading on leaves the first line as it was
pub same_line : (input mid left : Option (List ℕ)) (line same bytes more : List ℕ) → HasRead line bytes input mid → HasRead same more input left
    → HasRead line more input left
same_line None mid left line same bytes more held also = tt
same_line (Some text) mid left line same bytes more (before, was, first, begun) (rest, is, other, after) = (rest, is, first, after)

-- all data that follows the line, of which the calls speak by other names: `said` is the line, `given` the data, and `size` what the chunks have
pub verified-to-the-end : (file_hash : List ℕ) (from to : ℕ) (input mid left : Option (List ℕ)) (line same begun bytes output said given : List ℕ) (size : ℕ)
    (proof : Proof) → HasRead line begun input mid → HasRead same bytes input left → said ≡ line → SaysProof said proof
    → Shows proof file_hash (replicate 32 0) → given ≡ bytes → IsRead proof from to given output → size ≡ total_size proof.chunks
    → IsAtEnd left ⊎ (size < length bytes) → IfSome input (λ text. IsVerifiedOf file_hash from to text output) × IsAtEnd left
verified-to-the-end file_hash from to input mid left line same begun bytes output said given size proof held more is_line says shows is_data read is_size enough =
    let found : IsRead proof from to bytes output = subst (λ (b : List ℕ). IsRead proof from to b output) is_data read in
    let end = ended left from to bytes output proof (subst (λ (n : ℕ). IsAtEnd left ⊎ (n < length bytes)) is_size enough) found in
    let text : SaysProof line proof = subst (λ (l : List ℕ). SaysProof l proof) is_line says in
    let all = same_line input mid left line same begun bytes held more in
    (verified file_hash from to input left line bytes output proof all text shows end found, end)

module _ (file_hash : List ℕ) (from to : ℕ) (input left before after : Option (List ℕ)) where
  pub answered : (output : List ℕ) → IfSome input (λ text. IsVerifiedOf file_hash from to text output) → IsAtEnd left → Appends before after output
      → AnswersInput (IsVerifiedOf file_hash from to) (IsVerifyFaultOf file_hash from to) Write input left before after (Ok tt)
  answered output is end appended = record {
    answer = beside input is (λ text verified. (output, verified, appended));
    read = end;
    fault = tt;
    unwritten = tt;
    begun = λ clash. let no : ⊥ = cc clash in absurd no;
  }

  pub cut_short : (output written rest : List ℕ) → IfSome input (λ text. IsVerifiedOf file_hash from to text output) → output ≡ written ++ rest
      → Appends before after written
      → AnswersInput (IsVerifiedOf file_hash from to) (IsVerifyFaultOf file_hash from to) Write input left before after (Err Write)
  cut_short output written rest is parts appended = record {
    answer = tt;
    read = tt;
    fault = beside input is (λ text verified. tt);
    unwritten = λ other. absurd (other refl);
    begun = λ _. beside input is (λ text verified. (
      written,
      rest,
      subst (λ (bytes : List ℕ). IsVerifiedOf file_hash from to text bytes) parts verified,
      appended,
    ));
  }
