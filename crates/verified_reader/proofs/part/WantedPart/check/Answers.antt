use Rattle.std.proofs.Common.{arith, ◌≡◌, drop, length, ap, subst}
use Rattle.std.proofs.lemmas.List.{length-drop}
use Rattle.range_proof.specs.RangeProof.{HasHashes, IsWellFormed}
use Rattle.verified_reader.specs.Reader.{Part}
use Rattle.verified_reader.proofs.Parts.{all_right, wanted_read}
use Rattle.verified_reader.proofs.part.WantedPart.check.Goals as goal

pub returns-clause-read : goal.returns-clause-read
returns-clause-read g c =
    let part = c.check_chunks-done.new.self in
    let bytes = c.args.data.now in
    let done = c.check_chunks-done.result in
    let within = c.check_chunks-done.ensures.within in
    let all = c.if-self-num_chunks.false in
    let long = c.if-done-data.false in
    let right : c.self-2.inside.right ≡ part.right = ap (λ (p : Part). p.right) c.self-2.view_is in
    let count : length c.self-2.inside.range.chunks ≡ length part.proof.chunks = ap (λ (p : Part). length p.proof.chunks) c.self-2.view_is in
    let number : c.num_chunks.result ≡ length c.self-2.inside.range.chunks = c.num_chunks.ensures.chunks in
    let (chunks, are) = all_right part.proof part.right bytes (drop done bytes) (omega (arith, all, right, count, number)) (omega (arith, length-drop done bytes, within, long))
    c.check_chunks-done.ensures.right in
    wanted_read part bytes c.wanted-bytes.result.now chunks are c.wanted-bytes.ensures.begin c.wanted-bytes.ensures.in_order c.wanted-bytes.ensures.end c.wanted-bytes.ensures.wanted

pub returns-clause-sound : goal.returns-clause-sound
returns-clause-sound g c =
    let part = c.check_chunks-done.new.self in
    c.bytes_that_are_read_are_those_of_the_file.ensures.file_hash part.proof part.from part.to c.args.data.now c.wanted-bytes.result.now
    (subst (λ (p : Part). HasHashes p.proof) c.self-2.view_is c.num_chunks.ensures.hashes)
    (subst (λ (p : Part). IsWellFormed p.proof) c.self-2.view_is c.num_chunks.ensures.well_formed) (returns-clause-read g c)
