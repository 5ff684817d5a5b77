use Rattle.std.proofs.Common.{arith, ◌≡◌, ◌+◌, ◌++◌, ◌∷◌, [], List, ℕ, sym, ap, subst, ◌∙◌, append_assoc, inl}
use Rattle.std.specs.Prelude.{Contains}
use Rattle.std.proofs.lemmas.Option.{none-some, same_Some}
use Rattle.verified_reader.specs.Kept.{Chunk, HasPlace}
use Rattle.verified_reader.specs.declared.kept_chunks.KeptChunk.{KeptChunk}
use Rattle.verified_reader.specs.Steps.KeptChunks.{AreInOrder, IsAt, chunk_of, chunks_of}
use Rattle.verified_reader.proofs.Entries.{stands}
use Rattle.verified_reader.proofs.InOrder.{Puts, all_listed, below_of, found_there, moved, moves, pushed_chunks, puts, stands_last, takes}
use Rattle.verified_reader.proofs.kept_chunks.KeptChunks.move_last.Goals as goal

-- ---- Its entry is there, and the new one too

pub invariant_of-self-in_default-remove : goal.invariant_of-self-in_default-remove
invariant_of-self-in_default-remove g c =
    let inside = c.self.inside in
    let by_use = inside.by_use.entries in
    let last = c.in-Some-get.last.now in
    let empty : KeptChunk g.row.A.Denot = record { begin = 0; bytes = c.new-bytes.result } in
    let kept = found_there by_use inside.uses.entries inside.next_use inside.size c.self.invariant (chunk_of c.in-Some.chunk.now) last
    (subst (λ (l : List Chunk). Contains l (chunk_of c.in-Some.chunk.now)) (sym c.self.view_is) c.in-Some.ensures.some.0) (sym c.in-Some-get.ensures.value) in
    let lower = below_of inside.next_use last by_use kept.0 c.self.invariant.below kept.1 in
    let p = puts inside.next_use empty by_use c.insert.new.self.entries c.in_ok-insert.ensures.updates.0 in
    absurd (none-some kept.0 (sym c.in_default-remove.is ∙ c.remove.ensures.value ∙ p.others last kept.0 (λ same. omega (arith, lower, same)) kept.1))

pub returns-in_default-remove : goal.returns-in_default-remove
returns-in_default-remove g c =
    let inside = c.self.inside in
    let by_use = inside.by_use.entries in
    let last = c.in-Some-get.last.now in
    let empty : KeptChunk g.row.A.Denot = record { begin = 0; bytes = c.new-bytes.result } in
    let kept = found_there by_use inside.uses.entries inside.next_use inside.size c.self.invariant (chunk_of c.in-Some.chunk.now) last
    (subst (λ (l : List Chunk). Contains l (chunk_of c.in-Some.chunk.now)) (sym c.self.view_is) c.in-Some.ensures.some.0) (sym c.in-Some-get.ensures.value) in
    let lower = below_of inside.next_use last by_use kept.0 c.self.invariant.below kept.1 in
    let p = puts inside.next_use empty by_use c.insert.new.self.entries c.in_ok-insert.ensures.updates.0 in
    absurd (none-some kept.0 (sym c.in_default-remove.is ∙ c.remove.ensures.value ∙ p.others last kept.0 (λ same. omega (arith, lower, same)) kept.1))

pub invariant_of-self-in_err-insert-2 : goal.invariant_of-self-in_err-insert-2
invariant_of-self-in_err-insert-2 g c =
    let inside = c.self.inside in
    let by_use = inside.by_use.entries in
    let last = c.in-Some-get.last.now in
    let empty : KeptChunk g.row.A.Denot = record { begin = 0; bytes = c.new-bytes.result } in
    let kept = found_there by_use inside.uses.entries inside.next_use inside.size c.self.invariant (chunk_of c.in-Some.chunk.now) last
    (subst (λ (l : List Chunk). Contains l (chunk_of c.in-Some.chunk.now)) (sym c.self.view_is) c.in-Some.ensures.some.0) (sym c.in-Some-get.ensures.value) in
    let lower = below_of inside.next_use last by_use kept.0 c.self.invariant.below kept.1 in
    let p = puts inside.next_use empty by_use c.insert.new.self.entries c.in_ok-insert.ensures.updates.0 in
    let t = takes last c.insert.new.self.entries c.remove.new.self.entries c.remove.ensures.updates.0 in
    absurd (none-some empty (sym c.in_err-insert-2.ensures.absent ∙ t.others inside.next_use empty (λ same. omega (arith, lower, same)) p.here))

pub returns-in_err-insert-2 : goal.returns-in_err-insert-2
returns-in_err-insert-2 g c =
    let inside = c.self.inside in
    let by_use = inside.by_use.entries in
    let last = c.in-Some-get.last.now in
    let empty : KeptChunk g.row.A.Denot = record { begin = 0; bytes = c.new-bytes.result } in
    let kept = found_there by_use inside.uses.entries inside.next_use inside.size c.self.invariant (chunk_of c.in-Some.chunk.now) last
    (subst (λ (l : List Chunk). Contains l (chunk_of c.in-Some.chunk.now)) (sym c.self.view_is) c.in-Some.ensures.some.0) (sym c.in-Some-get.ensures.value) in
    let lower = below_of inside.next_use last by_use kept.0 c.self.invariant.below kept.1 in
    let p = puts inside.next_use empty by_use c.insert.new.self.entries c.in_ok-insert.ensures.updates.0 in
    let t = takes last c.insert.new.self.entries c.remove.new.self.entries c.remove.ensures.updates.0 in
    absurd (none-some empty (sym c.in_err-insert-2.ensures.absent ∙ t.others inside.next_use empty (λ same. omega (arith, lower, same)) p.here))

-- ---- It is moved

pub invariant_of-self-2 : goal.invariant_of-self-2
invariant_of-self-2 g c =
    let is_next : c.in-Some-checked_add.next ≡ c.self.inside.next_use + 1 = grind (arith, c.in-Some-checked_add.ensures) in
    let inside = c.self.inside in
    let by_use = inside.by_use.entries in
    let uses = inside.uses.entries in
    let next = inside.next_use in
    let size = inside.size in
    let h = c.self.invariant in
    let last = c.in-Some-get.last.now in
    let chunk = c.in-Some-remove.chunk in
    let empty : KeptChunk g.row.A.Denot = record { begin = 0; bytes = c.new-bytes.result } in
    let kept = found_there by_use uses next size h (chunk_of c.in-Some.chunk.now) last
    (subst (λ (l : List Chunk). Contains l (chunk_of c.in-Some.chunk.now)) (sym c.self.view_is) c.in-Some.ensures.some.0) (sym c.in-Some-get.ensures.value) in
    let lower = below_of next last by_use kept.0 h.below kept.1 in
    let more = c.insert.new.self.entries in
    let less = c.remove.new.self.entries in
    let new = c.insert-2.new.self in
    let again = c.insert-3.new.self.entries in
    let p = puts next empty by_use more c.in_ok-insert.ensures.updates.0 in
    let t = takes last more less c.remove.ensures.updates.0 in
    let there : IsAt last more chunk = sym c.remove.ensures.value ∙ c.in-Some-remove.is in
    let at_last : IsAt last by_use chunk = p.back last chunk (λ same. omega (arith, lower, same)) there in
    let is_kept : chunk ≡ kept.0 = same_Some chunk kept.0 (sym at_last ∙ kept.1) in
    let begins = ap (λ (c : KeptChunk g.row.A.Denot). c.begin) is_kept ∙ ap (λ (c : Chunk). c.begin) kept.2 in
    let s = stands last by_use chunk at_last in
    let is = stands_last by_use uses next size h chunk new.entries again last empty more less s c.in_ok-insert.ensures.entries c.remove.ensures.entries c.in_ok-insert-2.ensures.entries in
    let m = moves by_use uses next size h chunk new.entries again last empty more less at_last p t (puts next chunk less new.entries c.in_ok-insert-2.ensures.updates.0) in
    let u = subst (λ (b : ℕ). Puts b next uses again) (sym begins) (puts c.in-Some.chunk.now.begin next uses again c.in_ok-insert-3.ensures.updates.0) in
    let done = moved by_use uses next size h chunk new.entries again last s.front s.back s.is is at_last (all_listed new c.in_ok-insert-2.ensures.ordered) m u in
    subst (λ (n : ℕ). AreInOrder new.entries again n size) (sym is_next) done

pub returns : goal.returns
returns g c =
    let inside = c.self.inside in
    let by_use = inside.by_use.entries in
    let uses = inside.uses.entries in
    let next = inside.next_use in
    let size = inside.size in
    let h = c.self.invariant in
    let last = c.in-Some-get.last.now in
    let chunk = c.in-Some-remove.chunk in
    let empty : KeptChunk g.row.A.Denot = record { begin = 0; bytes = c.new-bytes.result } in
    let kept = found_there by_use uses next size h (chunk_of c.in-Some.chunk.now) last
    (subst (λ (l : List Chunk). Contains l (chunk_of c.in-Some.chunk.now)) (sym c.self.view_is) c.in-Some.ensures.some.0) (sym c.in-Some-get.ensures.value) in
    let lower = below_of next last by_use kept.0 h.below kept.1 in
    let more = c.insert.new.self.entries in
    let less = c.remove.new.self.entries in
    let new = c.insert-2.new.self in
    let p = puts next empty by_use more c.in_ok-insert.ensures.updates.0 in
    let there : IsAt last more chunk = sym c.remove.ensures.value ∙ c.in-Some-remove.is in
    let at_last : IsAt last by_use chunk = p.back last chunk (λ same. omega (arith, lower, same)) there in
    let is_kept : chunk ≡ kept.0 = same_Some chunk kept.0 (sym at_last ∙ kept.1) in
    let s = stands last by_use chunk at_last in
    let is = stands_last by_use uses next size h chunk new.entries c.insert-3.new.self.entries last empty more less s c.in_ok-insert.ensures.entries c.remove.ensures.entries c.in_ok-insert-2.ensures.entries in
    inl (record {
      front = chunks_of s.front;
      chunk = chunk_of chunk;
      back = chunks_of s.back;
      old_is = sym c.self.view_is ∙ ap chunks_of s.is ∙ pushed_chunks s.front ((last, chunk) ∷ s.back);
      has_place = subst (λ (c' : Chunk). HasPlace c' c.args.place) (sym (ap chunk_of is_kept ∙ kept.2)) c.in-Some.ensures.some.1;
      new_is = ap chunks_of is ∙ pushed_chunks s.front (s.back ++ (next, chunk) ∷ [])
          ∙ ap (λ (l : List Chunk). chunks_of s.front ++ l) (pushed_chunks s.back ((next, chunk) ∷ []))
          ∙ sym (append_assoc (chunks_of s.front) (chunks_of s.back) (chunk_of chunk ∷ []));
    })
