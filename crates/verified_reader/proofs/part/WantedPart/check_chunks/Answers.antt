use Rattle.std.proofs.Common.{arith, ◌≡◌, ◌+◌, ◌≤◌, ◌⊎◌, [], ◌∷◌, ◌++◌, ℕ, List, length, take, drop, refl, sym, ap, subst, ◌∙◌}
use Rattle.std.specs.Prelude.{Some, slice_get}
use Rattle.std.proofs.lemmas.List.{drop-drop, length-drop, take_rest}
use Rattle.commitment.specs.Commitment.{chunk_node}
use Rattle.range_proof.specs.RangeProof.{Proof, begin_of}
use Rattle.range_proof.proofs.ReadingOf.{IsReadSoFar, IsReadSoFar-none, nothing_left}
use Rattle.range_proof.specs.Reading.{AreChunksOf}
use Rattle.verified_reader.specs.Kept.{Chunk}
use Rattle.verified_reader.specs.Reader.{AreCopied, AreRight, BeginsWith, Part}
use Rattle.verified_reader.proofs.Parts.{AreCopiedSoFar, copied_more, copied_none, no_chunk, none_if_stopped, read_more, right_so_far}
use Rattle.verified_reader.proofs.part.WantedPart.check_chunks.Goals as goal

pub chunks-init : goal.chunks-init
chunks-init g c = record {
  same = refl;
  right = c.requires;
  within = omega arith;
  so_far = IsReadSoFar-none c.args.self.now.proof.chunks c.args.data.now (drop 0 c.args.data.now) refl;
  copied = copied_none c.args.self.now.proof c.args.data.now (drop 0 c.args.data.now) c.args.self.now.checked refl;
  uncopied = λ not. refl;
}

pub chunks-preserved : goal.chunks-preserved
chunks-preserved g c =
    let so_far = c.chunks.invariant in
    let part = c.chunks.self in
    let new = c.check_chunk.new.self in
    let bytes = c.args.data.now in
    let done = c.chunks.done in
    let size = c.in-Some.size in
    let rest = take_rest bytes done in
    let same : new ≡ record part { right = new.right; checked = new.checked } = c.in-Some.ensures.same in
    let proof : new.proof ≡ part.proof = ap (λ (p : Part). p.proof) same in
    let fits : size ≤ length (drop done bytes) = subst (λ (l : List ℕ). size ≤ length l) rest c.in-Some.ensures.within in
    let here : slice_get part.proof.chunks c.chunks.k ≡ Some (chunk_node (take size (drop done bytes))) =
    subst (λ (l : List ℕ). slice_get part.proof.chunks c.chunks.k ≡ Some (chunk_node (take size l))) rest c.in-Some.ensures.right in
    let copied : (new.checked ≡ part.checked) ⊎ (new.checked ≡ part.checked ++ record { begin = begin_of part.proof c.chunks.k; bytes = take size (drop done bytes) } ∷ []) =
    subst (λ (l : List ℕ). (new.checked ≡ part.checked) ⊎ (new.checked ≡ part.checked ++ record { begin = begin_of part.proof c.chunks.k; bytes = take size l } ∷ [])) rest c.in-Some.ensures.copied in
    let within = so_far.within in
    record {
      same = same ∙ ap (λ (p : Part). record p { right = new.right; checked = new.checked }) so_far.same;
      right = c.in-Some.ensures.counted refl;
      within = omega (arith, fits, length-drop done bytes, within);
      so_far = subst (λ (p : Proof). IsReadSoFar p.chunks bytes (c.chunks.k + 1) (drop (done + size) bytes)) (sym proof)
          (subst (λ (l : List ℕ). IsReadSoFar part.proof.chunks bytes (c.chunks.k + 1) l) (drop-drop size done bytes)
          (read_more part.proof.chunks bytes (drop done bytes) c.chunks.k size so_far.so_far fits here));
      copied = subst (λ (p : Proof). AreCopiedSoFar p (c.chunks.k + 1) bytes (drop (done + size) bytes) c.args.self.now.checked new.checked) (sym proof)
          (subst (λ (l : List ℕ). AreCopiedSoFar part.proof (c.chunks.k + 1) bytes l c.args.self.now.checked new.checked) (drop-drop size done bytes)
          (copied_more part.proof bytes (drop done bytes) c.chunks.k size c.args.self.now.checked part.checked new.checked so_far.copied here copied));
      uncopied = λ not. c.in-Some.ensures.uncopied not ∙ so_far.uncopied not;
    }

pub returns-in_default-clause-right : goal.returns-in_default-clause-right
returns-in_default-clause-right g c =
    let so_far = c.chunks.invariant in
    let part = c.chunks.self in
    let bytes = c.args.data.now in
    let rest = drop c.chunks.done bytes in
    subst (λ (p : Part). AreRight p.proof p.right bytes rest) (sym c.in_default.ensures.unchanged)
    (subst (λ (n : ℕ). AreRight part.proof n bytes rest) (sym so_far.right) (right_so_far part.proof bytes rest c.chunks.k so_far.so_far))

pub returns-in_default-clause-stops : goal.returns-in_default-clause-stops
returns-in_default-clause-stops g c =
    let so_far = c.chunks.invariant in
    let part = c.chunks.self in
    let bytes = c.args.data.now in
    let rest = drop c.chunks.done bytes in
    subst (λ (p : Part). ¬ (BeginsWith p.proof p.right rest)) (sym c.in_default.ensures.unchanged)
    (subst (λ (n : ℕ). ¬ (BeginsWith part.proof n rest)) (sym so_far.right)
    (subst (λ (l : List ℕ). ¬ (BeginsWith part.proof c.chunks.k l)) (take_rest bytes c.chunks.done) c.in_default.ensures.none))

pub returns-in_default-clause-some : goal.returns-in_default-clause-some
returns-in_default-clause-some g c = λ less chunks are.
    let so_far = c.chunks.invariant in
    let part = c.chunks.self in
    let bytes = c.args.data.now in
    let rest = drop c.chunks.done bytes in
    let same = c.in_default.ensures.unchanged in
    let right = ap (λ (p : Part). p.right) same ∙ so_far.right in
    let count = ap (λ (p : Part). length p.proof.chunks) same in
    let stops = subst (λ (l : List ℕ). ¬ (BeginsWith part.proof c.chunks.k l)) (take_rest bytes c.chunks.done) c.in_default.ensures.none in
    none_if_stopped part.proof bytes rest c.chunks.k (chunk_node []) (omega (arith, less, right, count)) so_far.so_far stops chunks
    (subst (λ (p : Part). AreChunksOf p.proof.chunks bytes chunks) same are)

pub returns-in_default-clause-all : goal.returns-in_default-clause-all
returns-in_default-clause-all g c = λ left chunks are.
    let so_far = c.chunks.invariant in
    let part = c.chunks.self in
    let bytes = c.args.data.now in
    let rest = drop c.chunks.done bytes in
    let same = c.in_default.ensures.unchanged in
    let begun = c.chunks-test.true in
    let count : c.num_chunks-k-end.result ≡ length part.proof.chunks =
    c.num_chunks-k-end.ensures.chunks ∙ ap (λ (p : Part). length p.proof.chunks) (c.self.view_is) ∙ sym (ap (λ (p : Part). length p.proof.chunks) so_far.same) in
    let stops = subst (λ (l : List ℕ). ¬ (BeginsWith part.proof c.chunks.k l)) (take_rest bytes c.chunks.done) c.in_default.ensures.none in
    none_if_stopped part.proof bytes rest c.chunks.k (chunk_node []) (omega (arith, begun, count)) so_far.so_far stops chunks
    (subst (λ (p : Part). AreChunksOf p.proof.chunks bytes chunks) same are)

pub returns-clause-right : goal.returns-clause-right
returns-clause-right g c =
    let so_far = c.chunks.invariant in
    let part = c.chunks.self in
    let bytes = c.args.data.now in
    let rest = drop c.chunks.done bytes in
    subst (λ (n : ℕ). AreRight part.proof n bytes rest) (sym so_far.right) (right_so_far part.proof bytes rest c.chunks.k so_far.so_far)

pub returns-clause-stops : goal.returns-clause-stops
returns-clause-stops g c =
    let so_far = c.chunks.invariant in
    let part = c.chunks.self in
    let right = so_far.right in
    let ended = c.chunks-test.false in
    let count : c.num_chunks-k-end.result ≡ length part.proof.chunks =
    c.num_chunks-k-end.ensures.chunks ∙ ap (λ (p : Part). length p.proof.chunks) (c.self.view_is) ∙ sym (ap (λ (p : Part). length p.proof.chunks) so_far.same) in
    no_chunk part.proof part.right (drop c.chunks.done c.args.data.now) (λ within. omega (arith, within, right, ended, count))

pub returns-clause-some : goal.returns-clause-some
returns-clause-some g c = λ less.
    let so_far = c.chunks.invariant in
    let part = c.chunks.self in
    let right = so_far.right in
    let ended = c.chunks-test.false in
    let count : c.num_chunks-k-end.result ≡ length part.proof.chunks =
    c.num_chunks-k-end.ensures.chunks ∙ ap (λ (p : Part). length p.proof.chunks) (c.self.view_is) ∙ sym (ap (λ (p : Part). length p.proof.chunks) so_far.same) in
    absurd (omega (arith, less, right, ended, count))

pub returns-clause-all : goal.returns-clause-all
returns-clause-all g c = λ left chunks are.
    let so_far = c.chunks.invariant in
    let part = c.chunks.self in
    let bytes = c.args.data.now in
    let rest = drop c.chunks.done bytes in
    let within = so_far.within in
    let ended = c.chunks-test.false in
    let count : c.num_chunks-k-end.result ≡ length part.proof.chunks =
    c.num_chunks-k-end.ensures.chunks ∙ ap (λ (p : Part). length p.proof.chunks) (c.self.view_is) ∙ sym (ap (λ (p : Part). length p.proof.chunks) so_far.same) in
    let none = nothing_left part.proof.chunks bytes rest c.chunks.k (omega (arith, ended, count)) so_far.so_far chunks are in
    omega (arith, none, length-drop c.chunks.done bytes, within, left)

pub returns-in_default-clause-copied : goal.returns-in_default-clause-copied
returns-in_default-clause-copied g c =
    let so_far = c.chunks.invariant in
    let part = c.chunks.self in
    let bytes = c.args.data.now in
    let rest = drop c.chunks.done bytes in
    let copied = so_far.copied in
    subst (λ (p : Part). (copies : List Chunk) × (p.checked ≡ c.args.self.now.checked ++ copies) × AreCopied p.proof p.right bytes copies) (sym c.in_default.ensures.unchanged) (
      copied.copies,
      copied.new_is,
      subst (λ (n : ℕ). AreCopied part.proof n bytes copied.copies) (sym so_far.right) (record { rest = rest; right = copied.right; are = copied.are }),
    )

pub returns-clause-copied : goal.returns-clause-copied
returns-clause-copied g c =
    let so_far = c.chunks.invariant in
    let part = c.chunks.self in
    let bytes = c.args.data.now in
    let rest = drop c.chunks.done bytes in
    let copied = so_far.copied in (
      copied.copies,
      copied.new_is,
      subst (λ (n : ℕ). AreCopied part.proof n bytes copied.copies) (sym so_far.right) (record { rest = rest; right = copied.right; are = copied.are }),
    )
