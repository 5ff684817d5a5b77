use Rattle.std.proofs.Common.{◌++◌, ◌∷◌, [], List, map, sym, subst, inl, inr}
use Rattle.std.proofs.lemmas.List.{map-append}
use Rattle.verified_reader.specs.Kept.{Chunk, KeepsAll}
use Rattle.verified_reader.specs.Steps.KeptChunks.{chunk_of}
use Rattle.verified_reader.proofs.Checks.{ok_or_err}
use Rattle.verified_reader.proofs.kept_chunks.KeptChunks.keep_all.Goals as goal

pub chunks-init : goal.chunks-init
chunks-init g c = KeepsAll.none

pub chunks-preserved : goal.chunks-preserved
chunks-preserved g c =
    let most = c.args.most in
    let old = c.args.self.now in
    let before = map chunk_of c.chunks.yielded in
    let chunk = chunk_of c.in-Some.chunk in
    let new = c.keep-kept.new.self in
    let done : KeepsAll most old (before ++ chunk ∷ []) new = elim (ok_or_err c.keep-kept.result c.keep-kept.ensures.kept c.keep-kept.ensures.unchanged) [
      | inl keeps ↦ KeepsAll.more before chunk c.chunks.invariant keeps
      | inr same ↦ subst (λ (l : List Chunk). KeepsAll most old (before ++ chunk ∷ []) l) (sym same) (KeepsAll.lost before chunk c.chunks.invariant)
    ] in
    subst (λ (l : List Chunk). KeepsAll most old l new) (sym (map-append chunk_of c.chunks.yielded (c.in-Some.chunk ∷ []))) done
