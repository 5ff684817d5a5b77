use Rattle.std.proofs.Common.{arith, ◌≡◌, ℕ, List, length, sym, ap, subst, ◌∙◌}
use Rattle.std.proofs.lemmas.Grind.{common_steps}
use Rattle.commitment.specs.Commitment.{chunk_nodes}
use Rattle.xet_file.specs.Chunks.{chunks_of}
use Rattle.xet_file.specs.FileHasher.{Holds}
use Rattle.xet_file.proofs.Growing.{no-bytes, no-chunks}
use Rattle.xet_file.proofs.file_hasher.FileHasher.file_hash_with_salt.Goals as goal

pub returns-clause-hash : goal.returns-clause-hash
returns-clause-hash g c = λ file held.
    let h = subst (λ s. Holds g.C.ChunkRange s file) (sym c.self.view_is) held in
    let size = h.size_is in
    c.file_hash_of_root.ensures.chunks (chunk_nodes (chunks_of file)) (c.in_ok-root.ensures.root file held) (
      (λ t. no-chunks file (grind (arith, common_steps, t, size))),
      (λ z. let none = no-bytes file (c.chunks_are_sized.ensures file) z in grind (arith, common_steps, none, size)),
    )
