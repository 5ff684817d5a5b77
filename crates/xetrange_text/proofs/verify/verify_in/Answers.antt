use Rattle.std.proofs.Common.{◌<◌, ◌⊎◌, ℕ, List, length, subst}
use Rattle.std.specs.Io.KnownBytes.{IsAtEnd}
use Rattle.std.proofs.lemmas.Result.{err_from_is_err_and}
use Rattle.xet_merkle.specs.Roots.{total_size}
use Rattle.range_proof.specs.Reading.{IsRead}
use Rattle.xetrange_text.specs.Proofs.{SaysProof}
use Rattle.xetrange_text.specs.Verifying.{IsOpenFaultOf}
use Rattle.xetrange_text.proofs.Verifying.{refused, open-fault, open-not-write, read-fault, data-fault, not-write, verified-to-the-end, same_line, answered, cut_short}
use Rattle.xetrange_text.proofs.verify.verify_in.Goals as goal

pub returns-in_err-range : goal.returns-in_err-range
returns-in_err-range g c =
    let p = err_from_is_err_and c.from_residual-in_err-range.result c.from_residual-in_err-range.ensures.1 in
    let input = c.in_ok-input.input in
    let hash = c.args.file_hash.now in
    let fault = c.in_err-range.field-0.0 in
    let faulty : IsOpenFaultOf hash input.line.items fault = subst (λ (line : List ℕ). IsOpenFaultOf hash line fault) c.deref.ensures.value c.in_err-range.ensures.fault in
    rw (p.1, p.2) (refused _ _ _ fault
    (open-fault c.json_says_one_range_proof.ensures hash c.args.from c.args.to _ _ input.line.items input.data.items fault c.in_ok-input.ensures.read faulty)
    (open-not-write hash input.line.items fault faulty))

pub returns-in_err-read_data : goal.returns-in_err-read_data
returns-in_err-read_data g c =
    let p = err_from_is_err_and c.from_residual-in_err-read_data.result c.from_residual-in_err-read_data.ensures.1 in
    let of = c.in_err-read_data.field-0.0 in
    rw (p.1, p.2) (refused _ _ _ _ (data-fault c.args.file_hash.now c.args.from c.args.to _ of c.in_err-read_data.ensures.fault) (not-write of))

pub returns-in_err-write_all-in-Some : goal.returns-in_err-write_all-in-Some
returns-in_err-write_all-in-Some g c =
    let p = err_from_is_err_and c.from_residual-in_err-write_all-in-Some.result c.from_residual-in_err-write_all-in-Some.ensures.1 in
    let hash = c.args.file_hash.now in
    let output = c.in-Some.bytes.now in
    let read = verified-to-the-end hash c.args.from c.args.to _ _ _ _ _ _ _ output _ _ _ _ c.in_ok-input.ensures.read
    (c.in_ok-read_data.ensures.read _ c.in_ok-input.ensures.read) c.deref.ensures.value c.in_ok-range.ensures.says c.in_ok-range.ensures.shows
    c.deref-2.ensures.value c.in-Some.ensures.read c.size_of_chunks.ensures c.in_ok-read_data.ensures.enough in
    let begun = c.in_err-write_all-in-Some.ensures.begun in
    rw (p.1, p.2) (cut_short hash c.args.from c.args.to _ _ _ _ output begun.0 begun.1 read.0 begun.2 begun.3)

pub returns-in-Some : goal.returns-in-Some
returns-in-Some g c =
    let hash = c.args.file_hash.now in
    let output = c.in-Some.bytes.now in
    let read = verified-to-the-end hash c.args.from c.args.to _ _ _ _ _ _ _ output _ _ _ _ c.in_ok-input.ensures.read
    (c.in_ok-read_data.ensures.read _ c.in_ok-input.ensures.read) c.deref.ensures.value c.in_ok-range.ensures.says c.in_ok-range.ensures.shows
    c.deref-2.ensures.value c.in-Some.ensures.read c.size_of_chunks.ensures c.in_ok-read_data.ensures.enough in
    answered hash c.args.from c.args.to _ _ _ _ output read.0 read.1 c.in_ok-write_all-in-Some.ensures.written

pub returns : goal.returns
returns g c =
    let line = c.in_ok-input.input.line.items in
    let bytes = c.read_data.new.self.data.items in
    let proof = c.in_ok-range.range in
    let held = same_line _ _ _ line _ _ bytes c.in_ok-input.ensures.read (c.in_ok-read_data.ensures.read _ c.in_ok-input.ensures.read) in
    let says : SaysProof line proof = subst (λ (l : List ℕ). SaysProof l proof) c.deref.ensures.value c.in_ok-range.ensures.says in
    let none : (output : List ℕ) → ¬ (IsRead proof c.args.from c.args.to bytes output) =
    subst (λ (given : List ℕ). (output : List ℕ) → ¬ (IsRead proof c.args.from c.args.to given output)) c.deref-2.ensures.value c.in-None.ensures.none in
    let enough : IsAtEnd (g.R.Read.remaining c.read_data.new.r) ⊎ (total_size proof.chunks < length bytes) =
    subst (λ (n : ℕ). IsAtEnd (g.R.Read.remaining c.read_data.new.r) ⊎ (n < length bytes)) c.size_of_chunks.ensures c.in_ok-read_data.ensures.enough in
    refused _ _ _ _
    (read-fault c.json_says_one_range_proof.ensures c.args.file_hash.now c.args.from c.args.to _ _ line bytes proof held says enough none) (λ is. cc is)
