use Rattle.std.proofs.Common.{◌≡◌, length, refl, sym, ap, ◌∙◌}
use Rattle.std.proofs.lemmas.Result.{err_from_is_err_and}
use Rattle.xet_hash.specs.HashForms.{base64_text}
use Rattle.xet_hash.proofs.Hash.Base64.{IsHashBytes-from_bytes, base64_text-hash_of, decoded_is_hash, strict, undecoded_is_no_hash}
use Rattle.xet_hash.proofs.Hash.Laws.{IsHash-hash_of, IsHashBytes-bytes_of}
use Rattle.xet_hash.proofs.data_hash.DataHash.from_base64_characters.Goals as goal

pub returns-in_err-from_slice-in-Ok-clause-refused : goal.returns-in_err-from_slice-in-Ok-clause-refused
returns-in_err-from_slice-in-Ok-clause-refused g c =
    let p = err_from_is_err_and c.from_residual.result c.from_residual.ensures.1 in
    rw p.1 (λ kind words h e.
    let bytes = decoded_is_hash c.args.text.now c.in-Ok.bytes.items words c.in-Ok.ensures.ok h e in
    let slice : c.deref.result.now ≡ c.in-Ok.bytes.items = c.deref.ensures.value in
    let len : length c.deref.result.now ≡ 32 = ap length (slice ∙ bytes) ∙ (IsHashBytes-bytes_of words h).0 in
    let ok = c.in_err-from_slice-in-Ok.ensures.accepted.1 len in
    cc ok)

pub returns-in_ok-from_slice-in-Ok-clause-is_hash : goal.returns-in_ok-from_slice-in-Ok-clause-is_hash
returns-in_ok-from_slice-in-Ok-clause-is_hash g c =
    let slice : c.deref.result.now ≡ c.in-Ok.bytes.items = c.deref.ensures.value in
    let len : length c.in-Ok.bytes.items ≡ 32 = ap length (sym slice) ∙ c.in_ok-from_slice-in-Ok.ensures.accepted.0 refl in
    rw (c.in_ok-from_slice-in-Ok.ensures.value, slice) (IsHash-hash_of c.in-Ok.bytes.items (IsHashBytes-from_bytes c.in-Ok.bytes.items len c.in-Ok.ensures.bytes))

pub returns-in_ok-from_slice-in-Ok-clause-value : goal.returns-in_ok-from_slice-in-Ok-clause-value
returns-in_ok-from_slice-in-Ok-clause-value g c =
    let slice : c.deref.result.now ≡ c.in-Ok.bytes.items = c.deref.ensures.value in
    let len : length c.in-Ok.bytes.items ≡ 32 = ap length (sym slice) ∙ c.in_ok-from_slice-in-Ok.ensures.accepted.0 refl in
    ap base64_text (c.in_ok-from_slice-in-Ok.ensures.value) ∙ rw slice (base64_text-hash_of c.in-Ok.bytes.items (IsHashBytes-from_bytes c.in-Ok.bytes.items len c.in-Ok.ensures.bytes)
    ∙ sym (c.in-Ok.ensures.exact strict))

pub returns-in-Err-DecodeError-clause-refused : goal.returns-in-Err-DecodeError-clause-refused
returns-in-Err-DecodeError-clause-refused g c = λ kind words h e.
    undecoded_is_no_hash c.args.text.now words c.in-Err-DecodeError.field-0-0 (rw c.in-Err-DecodeError.field-0-is at c.in-Err-DecodeError.ensures.err) h e
