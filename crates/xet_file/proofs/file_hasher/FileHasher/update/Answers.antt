use Rattle.std.proofs.Common.{arith, ◌≡◌, ℕ, ◌+◌, ◌^◌, ◌<◌, List, ◌++◌, length, sym, ap, subst, ◌∙◌}
use Rattle.std.proofs.lemmas.Grind.{common_steps}
use Rattle.xet_roots.specs.Groups.{Node}
use Rattle.xet_roots.specs.Roots.{total_size}
use Rattle.xet_file.specs.FileHasher.{Holds}
use Rattle.xet_file.proofs.Growing.{ended-fit, grown}
use Rattle.xet_file.proofs.file_hasher.FileHasher.update.Given as given
use Rattle.xet_file.proofs.file_hasher.FileHasher.update.Goals as goal

pub join_waiting-requires-clause-fits : goal.join_waiting-requires-clause-fits
join_waiting-requires-clause-fits g c =
    let (file, held) = c.self.invariant in
    subst (λ (l : List Node). g.C.ChunkRange.total c.self.inside.range + total_size l < 2 ^ 64) (sym c.in_ok-reserve.ensures.items)
    (ended-fit g.C.ChunkRange _ file held)

-- the hasher holds the piece, too
more : (g : given.Over) (c : goal.After-self-1 g) (file : List ℕ) →
    Holds g.C.ChunkRange (record {
      chunker = c.self.inside.chunker;
      hasher = c.self.inside.hasher;
      range = c.self.inside.range;
      waiting = c.self.inside.waiting.items;
      size = c.self.inside.size;
    }) file →
    Holds g.C.ChunkRange (record {
      chunker = c.take.new.chunker;
      hasher = c.take.new.hasher;
      range = c.join_waiting.new.range;
      waiting = c.take.new.ended.items;
      size = c.in_ok-size.size;
    }) (file ++ c.args.piece.now)
more g c file h =
    let (nodes, items, t) = c.take.ensures h.open_chunk h.cut h.hashed in
    let (ranged, stands, total, same) = c.in_ok-join_waiting.ensures.joined h.ranged h.stands h.total in
    let size : c.in_ok-size.size ≡ c.self.inside.size + length c.args.piece.now = grind (arith, common_steps) in
    let fits : c.in_ok-size.size < 2 ^ 64 = grind (arith, common_steps) in
    subst (λ (w : List Node). Holds g.C.ChunkRange (record {
      chunker = c.take.new.chunker;
      hasher = c.take.new.hasher;
      range = c.join_waiting.new.range;
      waiting = w;
      size = c.in_ok-size.size;
    }) (file ++ c.args.piece.now)) (sym items)
    (grown g.C.ChunkRange _ file c.args.piece.now h c.join_waiting.new.range c.join_waiting.new.waiting.items nodes
    c.take.new.chunker c.take.new.hasher c.in_ok-size.size
    (ranged, stands, total, ap (λ (l : List Node). h.ranged ++ l) (sym c.in_ok-reserve.ensures.items) ∙ same)
    c.in_ok-join_waiting.ensures.start c.in_ok-join_waiting.ensures.end t size fits)

pub invariant_of-self-2 : goal.invariant_of-self-2
invariant_of-self-2 g c =
    let (file, held) = c.self.invariant in
    (file ++ c.args.piece.now, more g c file held)

pub returns-clause-taken : goal.returns-clause-taken
returns-clause-taken g c = λ file held.
    more g c file (subst (λ s. Holds g.C.ChunkRange s file) (sym c.self.view_is) held)
