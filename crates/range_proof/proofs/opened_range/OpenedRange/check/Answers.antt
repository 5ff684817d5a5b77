use Rattle.std.proofs.Common.{[], ◌∷◌, refl, arith}
use Rattle.range_proof.proofs.ReadingOf.{AreChunksAt-one}
use Rattle.range_proof.proofs.opened_range.OpenedRange.check.Goals as goal

pub returns-clause-sound : goal.returns-clause-sound
returns-clause-sound g c = λ checked hash salt file shows is_hash.
    let here = c.if-not-is_chunk_at.ensures.same.0 refl in
    c.range_proofs_of_file_hashes_are_sound.ensures c.args.self.now hash salt c.args.k (c.args.data.now ∷ []) file c.if-not-is_chunk_at.ensures.hashes
    c.if-not-is_chunk_at.ensures.well_formed.fits shows (omega arith) (AreChunksAt-one c.args.self.now c.args.k c.args.data.now here) is_hash

pub returns-clause-sound_for_root : goal.returns-clause-sound_for_root
returns-clause-sound_for_root g c = λ checked root file shows is_root.
    let here = c.if-not-is_chunk_at.ensures.same.0 refl in
    c.range_proofs_of_roots_are_sound.ensures c.args.self.now root c.args.k (c.args.data.now ∷ []) file c.if-not-is_chunk_at.ensures.hashes
    c.if-not-is_chunk_at.ensures.well_formed.fits shows (omega arith) (AreChunksAt-one c.args.self.now c.args.k c.args.data.now here) is_root
