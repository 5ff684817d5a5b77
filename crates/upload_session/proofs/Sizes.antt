-- The sizes of ranges, and those of their chunks.
use Rattle.std.proofs.Common.{arith, ◌≡◌, ◌+◌, ℕ, List, [], ◌∷◌, ◌++◌, sym, ap, ◌∙◌}
use Rattle.std.proofs.lemmas.List.{map-append}
use Rattle.std.proofs.lemmas.List.Sums.{sum_by-append, sum_by-cons}
use Rattle.xet_roots.specs.Groups.{Node}
use Rattle.xet_roots.specs.Roots.{total_size}
use Rattle.chunk_ranges.specs.declared.chunk_range.ChunkRange as chunk_range
use Rattle.upload_session.specs.Session.{Placed, PlacedRun, placed_from, place, chunks_of, size_of_runs, StandFor}
use Rattle.upload_session.specs.Sizes.{HaveChunkSizes}
use Rattle.upload_session.proofs.Placing.{chunks-placed, place-size}

-- the sizes of the ranges of runs add up to the sizes of their chunks
pub sizes-chunks : {C A : Type 0} (kind : chunk_range.Ghosts C A) → HaveChunkSizes kind → (runs : List (PlacedRun C)) (placed : List Placed)
    → StandFor kind runs placed → size_of_runs kind runs ≡ total_size (chunks_of placed)
sizes-chunks kind fits [] placed none = sym (ap (λ l. total_size (chunks_of l)) none)
sizes-chunks {C} kind fits (run ∷ runs) placed (chunks, others, is, of_run, apart, rest) =
    let here = fits run.1.range chunks of_run.2 in
    let more = sizes-chunks kind fits runs others rest in
    let all : chunks_of placed ≡ chunks ++ chunks_of others =
    ap chunks_of is ∙ map-append (λ (p : Placed). p.1) (placed_from run.0 chunks) others
    ∙ ap (λ l. l ++ chunks_of others) (chunks-placed run.0 chunks) in
    omega (
      arith,
      here,
      more,
      ap total_size all,
      sum_by-cons (λ (run : PlacedRun C). kind.total run.1.range) run runs,
      sum_by-append (λ (node : Node). node.1) chunks (chunks_of others),
    )

-- after more chunks are placed, their sizes are added
pub placed-more : (size : ℕ) (placed : List Placed) (first : ℕ) (chunks : List Node) → size ≡ total_size (chunks_of placed)
    → size + total_size chunks ≡ total_size (chunks_of (place placed first chunks))
placed-more size placed first chunks is = ap (λ n. n + total_size chunks) is ∙ sym (place-size placed first chunks)
