use Rattle.std.proofs.Common.{arith, ◌≡◌, ℕ, ◌+◌, ◌^◌, ◌<◌, ◌==◌, if◌then◌else◌, List, [], ◌∷◌, ◌++◌, length, take, sym, ap, subst, ◌∙◌}
use Rattle.std.specs.Prelude.{Option, IfSome}
use Rattle.std.proofs.lemmas.List.{map-append}
use Rattle.std.proofs.lemmas.Grind.{common_steps}
use Rattle.keyed_blake3.specs.Blake3.{keyed_hash}
use Rattle.xet_hash.specs.Hash.{data_key, hash_of}
use Rattle.xet_chunker.specs.Cuts.{cuts_at}
use Rattle.xet_roots.specs.Groups.{Node}
use Rattle.xet_roots.specs.Roots.{total_size, IsRoot}
use Rattle.commitment.specs.Commitment.{chunk_node, chunk_nodes}
use Rattle.xet_file.specs.Chunks.{chunks_of}
use Rattle.xet_file.specs.FileHasher.{Holds}
use Rattle.xet_file.proofs.Growing.{chunks-held, ended-fit, last-nodes, last_of, whole-size}
use Rattle.xet_file.proofs.file_hasher.FileHasher.root.Goals as goal

pub returns-in_err-waiting-clause-errors : goal.returns-in_err-waiting-clause-errors
returns-in_err-waiting-clause-errors g c =
    let (file, held) = c.self.invariant in
    let fits = ended-fit g.C.ChunkRange _ file held in
    let value = ap total_size c.deref.ensures.value in
    grind (arith, common_steps, fits, value, c.in_err-waiting.ensures.errors, c.in_err-waiting.ensures.overflow)

pub returns-in_err-join-clause-errors : goal.returns-in_err-join-clause-errors
returns-in_err-join-clause-errors g c =
    let (file, held) = c.self.invariant in
    let fits = ended-fit g.C.ChunkRange _ file held in
    let value = ap total_size c.deref.ensures.value in
    let front = ap g.C.ChunkRange.total c.in_ok-all.ensures.copy in
    let back = c.in_ok-waiting.ensures.total in
    let low : g.C.ChunkRange.total c.in_ok-all.all + g.C.ChunkRange.total c.in_ok-waiting.waiting < 2 ^ 64 = omega arith in
    let end = ap g.C.ChunkRange.end c.in_ok-all.ensures.copy ∙ held.end in
    let refusals = c.in_err-join.ensures.refusals in
    grind (arith, common_steps, low, end, c.in_ok-waiting.ensures.start, refusals.arguments, refusals.overflow, refusals.errors)

pub returns-in_err-join-2-clause-errors : goal.returns-in_err-join-2-clause-errors
returns-in_err-join-2-clause-errors g c =
    let (file, h) = c.self.invariant in
    let kind = g.C.ChunkRange in
    let chunk : List ℕ = h.open_chunk in
    let count = c.taken-count.ensures.count chunk h.cut in
    let hash = c.from.ensures.0 ∙ ap hash_of (c.finalize.ensures data_key chunk h.hashed) in
    let last = ap total_size (last-nodes chunk c.from.result c.taken-count.result c.min.result hash count
    (λ z. grind (arith, common_steps, z)) (λ p. grind (arith, common_steps, p))) in
    let front = ap kind.total c.in_ok-all.ensures.copy in
    let middle = c.in_ok-waiting.ensures.total in
    let value = ap total_size c.deref.ensures.value in
    let joined = c.in_ok-join.ensures.total in
    let back = c.in_ok-last.ensures.total in
    let whole = whole-size kind _ file h in
    let low : kind.total c.join.new.self + kind.total c.in_ok-last.last < 2 ^ 64 = omega arith in
    let end = c.in_ok-join.ensures.end ∙ c.in_ok-waiting.ensures.end in
    let refusals = c.in_err-join-2.ensures.refusals in
    grind (arith, common_steps, low, end, c.in_ok-last.ensures.start, refusals.arguments, refusals.overflow, refusals.errors)

pub returns-clause-root : goal.returns-clause-root
returns-clause-root g c = λ file held.
    let kind = g.C.ChunkRange in
    let h = subst (λ s. Holds kind s file) (sym c.self.view_is) held in
    let chunk : List ℕ = h.open_chunk in
    let waiting : List Node = c.self.inside.waiting.items in
    let count = c.taken-count.ensures.count chunk h.cut in
    let hash = c.from.ensures.0 ∙ ap hash_of (c.finalize.ensures data_key chunk h.hashed) in
    let last : take c.min.result ((c.from.result, c.taken-count.result) ∷ []) ≡ chunk_nodes (last_of chunk) =
    last-nodes chunk c.from.result c.taken-count.result c.min.result hash count
    (λ z. grind (arith, common_steps, z)) (λ p. grind (arith, common_steps, p)) in
    let chunks : chunks_of file ≡ h.ended ++ last_of chunk =
    ap chunks_of h.file_is
    ∙ chunks-held h.ended chunk h.cuts_are
    (λ at z. subst (λ (n : ℕ). cuts_at at chunk ≡ (if n == 0 then [] else (at + n) ∷ [])) (count ∙ z) (c.taken-count.ensures.last at chunk h.cut))
    (λ at p. grind (arith, common_steps, p, count, c.taken-count.ensures.last at chunk h.cut)) in
    let whole : (h.ranged ++ c.deref.result.now) ++ take c.min.result ((c.from.result, c.taken-count.result) ∷ []) ≡ chunk_nodes (chunks_of file) =
    ap (λ (l : List Node). (h.ranged ++ l) ++ take c.min.result ((c.from.result, c.taken-count.result) ∷ [])) c.deref.ensures.value
    ∙ ap (λ (l : List Node). (h.ranged ++ waiting) ++ l) last
    ∙ ap (λ (l : List Node). l ++ chunk_nodes (last_of chunk)) (sym h.nodes)
    ∙ sym (map-append chunk_node h.ended (last_of chunk))
    ∙ ap chunk_nodes (sym chunks) in
    let all = c.in_ok-join-2.ensures.stands (h.ranged ++ c.deref.result.now) (take c.min.result ((c.from.result, c.taken-count.result) ∷ []))
    (c.in_ok-join.ensures.stands h.ranged c.deref.result.now (subst (λ r. kind.stands r h.ranged) (sym c.in_ok-all.ensures.copy) h.stands) c.in_ok-waiting.ensures.stands)
    c.in_ok-last.ensures.stands in
    subst (λ (nodes : List Node). IsRoot nodes c.unwrap.result) whole
    (subst (λ (root : Option (List ℕ)). IfSome root (IsRoot ((h.ranged ++ c.deref.result.now) ++ take c.min.result ((c.from.result, c.taken-count.result) ∷ []))))
    c.unwrap.ensures (c.in_ok-root.ensures.root _ all))
