-- The size of a session, and those of the chunks that it stands for.
use Rattle.std.specs.Prelude.{◌≡◌, ℕ, List, length}
use Rattle.xet_roots.specs.Groups.{Node}
use Rattle.xet_roots.specs.Roots.{total_size}
use Rattle.chunk_ranges.specs.declared.chunk_range.ChunkRange as chunk_range
use Rattle.upload_session.specs.Session.{Parts, Placed, chunks_of, place, HoldsOfPlaced}

-- the size of a session is the sum of the sizes of placed chunks
abbrev pub HasSizeOf : {C H : Type 0} → Parts C H → List Placed → Type 0
HasSizeOf session placed = session.size ≡ total_size (chunks_of placed)

module _ {C A : Type 0} (kind : chunk_range.Ghosts C A) where
  -- each range of a kind has the size of the chunks that it stands for
  abbrev pub HaveChunkSizes : Type 0
  HaveChunkSizes = (range : C) (chunks : List Node) → kind.stands range chunks → kind.total range ≡ total_size chunks

  -- if the size of a session was that of the chunks that it stood for, it is so after more chunks are placed
  abbrev pub PlacesSizes : {H : Type 0} → Parts C H → ℕ → List Node → Parts C H → Type 0
  PlacesSizes old first chunks new =
      HoldsOfPlaced kind old (λ placed. HasSizeOf old placed → HasSizeOf new (place placed first chunks))

  -- the same for a range
  abbrev pub PlacesRangeSizes : {H : Type 0} → Parts C H → ℕ → ℕ → C → Parts C H → Type 0
  PlacesRangeSizes old first count range new =
      (chunks : List Node) → length chunks ≡ count → kind.stands range chunks → PlacesSizes old first chunks new
