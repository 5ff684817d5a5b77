use Rattle.std.proofs.Common.{◌≡◌, ◌∷◌, [], ℕ, List, map, sym, subst}
use Rattle.std.specs.Prelude.{All}
use Rattle.std.proofs.lemmas.List.{map-append}
use Rattle.std.proofs.lemmas.List.Elements.{All-push}
use Rattle.verified_reader.specs.Kept.{Chunk}
use Rattle.verified_reader.specs.Reader.{IsCheckedBy, Part}
use Rattle.verified_reader.specs.declared.kept_chunks.KeptChunk.{KeptChunk}
use Rattle.verified_reader.specs.Steps.KeptChunks.{chunk_of}
use Rattle.verified_reader.proofs.part.WantedPart.keep.Goals as goal

pub invariant_of-self-2 : goal.invariant_of-self-2
invariant_of-self-2 g c =
    let inside = c.self.inside in
    let h = c.self.invariant in
    let P : Chunk → Type 0 = IsCheckedBy inside.range inside.hash inside.salt in
    let kept : KeptChunk g.row.A.Denot = record { begin = c.args.begin; bytes = c.in_ok-bytes.bytes } in
    let same : c.in_ok-bytes.bytes.items ≡ c.args.chunk.now = c.in_ok-bytes.ensures.items in
    let given = subst (λ (p : Part). IsCheckedBy p.proof p.hash p.salt (record { begin = c.args.begin; bytes = c.args.chunk.now })) (sym c.self.view_is) c.requires in
    let checked : P (chunk_of kept) = subst (λ (l : List ℕ). P (record { begin = c.args.begin; bytes = l })) (sym same) given in
    let all = All-push P (map chunk_of inside.chunks.items) (chunk_of kept) h.all checked in
    record {
      begin = h.begin;
      in_order = h.in_order;
      end = h.end;
      shows = h.shows;
      within = h.within;
      shown = h.shown;
      all = subst (λ items. All P (map chunk_of items)) (sym c.in_ok-push.ensures.items)
          (subst (λ (l : List Chunk). All P l) (sym (map-append chunk_of inside.chunks.items (kept ∷ []))) all);
    }
