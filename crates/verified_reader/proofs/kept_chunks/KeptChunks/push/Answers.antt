use Rattle.std.proofs.Common.{arith, ◌≡◌, ◌+◌, ◌++◌, ◌∷◌, [], length, ℕ, List, sym, ap, subst, ◌∙◌}
use Rattle.verified_reader.specs.Kept.{Chunk, IsFree}
use Rattle.verified_reader.specs.declared.kept_chunks.KeptChunk.{KeptChunk}
use Rattle.verified_reader.specs.Steps.KeptChunks.{AreInOrder, chunk_of, chunks_of}
use Rattle.verified_reader.proofs.Entries.{insert-last}
use Rattle.verified_reader.proofs.InOrder.{all_listed, pushed, pushed_chunks, puts, takes, undone}
use Rattle.verified_reader.proofs.kept_chunks.KeptChunks.push.Goals as goal

pub invariant_of-self-in-Ok : goal.invariant_of-self-in-Ok
invariant_of-self-in-Ok g c =
    let is_next : c.in-Some-Some.next ≡ c.self.inside.next_use + 1 = grind (arith, c.in-Some-Some.ensures) in
    let is_size : c.in-Some-Some.size ≡ c.self.inside.size + (length c.args.bytes.items + 128) = grind (arith, c.in-Some-Some.ensures', c.len.ensures) in
    let inside = c.self.inside in
    let by_use = inside.by_use.entries in
    let uses = inside.uses.entries in
    let next = inside.next_use in
    let chunk : KeptChunk g.row.A.Denot = record { begin = c.args.begin; bytes = c.args.bytes } in
    let end = c.args.begin + length c.args.bytes.items in
    let new = c.insert-2.new.self in
    let again = c.insert.new.self.entries in
    let free = subst (λ (l : List Chunk). IsFree l c.args.begin end) (sym c.self.view_is) c.requires.free in
    let done = pushed by_use uses next inside.size c.self.invariant chunk new.entries again (all_listed new c.in-Ok.ensures.ordered) c.requires.some c.requires.fits free
    (c.in-Ok.ensures.entries ∙ insert-last next by_use chunk c.self.invariant.below)
    (puts next chunk by_use new.entries c.in-Ok.ensures.updates.0) (puts c.args.begin next uses again c.in_ok-insert.ensures.updates.0) in
    subst (λ (n : ℕ). AreInOrder new.entries again n c.in-Some-Some.size) (sym is_next)
    (subst (λ (n : ℕ). AreInOrder new.entries again (next + 1) n) (sym is_size) done)

pub returns-in-Ok-clause-pushed : goal.returns-in-Ok-clause-pushed
returns-in-Ok-clause-pushed g c =
    let inside = c.self.inside in
    let by_use = inside.by_use.entries in
    let next = inside.next_use in
    let chunk : KeptChunk g.row.A.Denot = record { begin = c.args.begin; bytes = c.args.bytes } in
    ap chunks_of (c.in-Ok.ensures.entries ∙ insert-last next by_use chunk c.self.invariant.below)
    ∙ pushed_chunks by_use ((next, chunk) ∷ []) ∙ ap (λ (l : List Chunk). l ++ chunk_of chunk ∷ []) c.self.view_is

pub invariant_of-self-in-Err : goal.invariant_of-self-in-Err
invariant_of-self-in-Err g c =
    let inside = c.self.inside in
    let by_use = inside.by_use.entries in
    let uses = inside.uses.entries in
    let begin = c.args.begin in
    let end = begin + length c.args.bytes.items in
    let again = c.remove.new.self.entries in
    let free = subst (λ (l : List Chunk). IsFree l begin end) (sym c.self.view_is) c.requires.free in
    let some = c.requires.some in
    subst (λ l. AreInOrder l again inside.next_use inside.size) (sym c.in-Err.ensures.err)
    (undone by_use uses inside.next_use inside.size c.self.invariant begin end inside.next_use c.insert.new.self.entries again (omega (arith, some)) free
    (puts begin inside.next_use uses c.insert.new.self.entries c.in_ok-insert.ensures.updates.0)
    (takes begin c.insert.new.self.entries again c.remove.ensures.updates.0))
