use Rattle.std.proofs.Common.{◌≡◌, ◌+◌, ◌-◌, List, length, take, drop, refl, sym, ap, subst, ◌∙◌, arith}
use Rattle.std.proofs.lemmas.List.{take_all}
use Rattle.xet_roots.specs.Groups.{Node}
use Rattle.xet_roots.specs.Roots.{total_size}
use Rattle.range_proof.specs.RangeProof.{Proof, begin_of, offset_of}
use Rattle.range_proof.specs.Reading.{AreChunksOf, IsRead}
use Rattle.range_proof.proofs.ReadingOf.{length-chunks, IsRead-from}
use Rattle.range_proof.proofs.opened_range.OpenedRange.read.Goals as goal

pub slice_bounds-result-end : goal.slice_bounds-result-end
slice_bounds-result-end g c =
    let proof = c.self.inside.proof in
    let begin : c.begin-begin.result ≡ offset_of proof + 0 = c.begin-begin.ensures ∙ ap (λ (p : Proof). begin_of p 0) (sym c.self.view_is) in
    let end : c.end-end.result ≡ offset_of proof + total_size (take (length proof.chunks) proof.chunks) =
    c.end-end.ensures ∙ ap (λ (p : Proof). begin_of p (length p.chunks)) (sym c.self.view_is) in
    let all = ap total_size (take_all (length proof.chunks) proof.chunks (omega arith)) in
    let found = c.if-not-are_chunks.ensures.0 refl in
    let size = length-chunks _ _ found.0 found.1 ∙ ap total_size c.chunks.ensures.nodes in
    omega arith

pub returns-clause-read : goal.returns-clause-read
returns-clause-read g c =
    let proof = c.self.inside.proof in
    let begin : c.begin-begin.result ≡ offset_of proof + 0 = c.begin-begin.ensures ∙ ap (λ (p : Proof). begin_of p 0) (sym c.self.view_is) in
    let end : c.end-end.result ≡ offset_of proof + total_size (take (length proof.chunks) proof.chunks) =
    c.end-end.ensures ∙ ap (λ (p : Proof). begin_of p (length p.chunks)) (sym c.self.view_is) in
    let all = ap total_size (take_all (length proof.chunks) proof.chunks (omega arith)) in
    let found = c.if-not-are_chunks.ensures.0 refl in
    subst (λ (p : Proof). IsRead p c.args.from c.args.to c.args.data.now
    (take ((c.args.to - c.begin-begin.result) - (c.args.from - c.begin-begin.result)) (drop (c.args.from - c.begin-begin.result) c.args.data.now)))
    c.self.view_is
    (IsRead-from proof c.args.from c.args.to c.begin-begin.result c.end-end.result c.args.data.now found.0 (omega arith) (omega arith)
    (omega arith) (omega arith) (omega arith)
    (subst (λ (l : List Node). AreChunksOf l c.args.data.now found.0) c.chunks.ensures.nodes found.1))

pub returns-clause-sound : goal.returns-clause-sound
returns-clause-sound g c =
    c.bytes_that_are_read_are_those_of_the_file.ensures.file_hash c.args.self.now c.args.from c.args.to c.args.data.now _
    c.num_chunks-count.ensures.hashes c.num_chunks-count.ensures.well_formed (returns-clause-read g c)

pub returns-clause-sound_for_root : goal.returns-clause-sound_for_root
returns-clause-sound_for_root g c =
    c.bytes_that_are_read_are_those_of_the_file.ensures.root c.args.self.now c.args.from c.args.to c.args.data.now _
    c.num_chunks-count.ensures.hashes c.num_chunks-count.ensures.well_formed (returns-clause-read g c)
