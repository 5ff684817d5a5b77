use Rattle.xet_hash.proofs.Hash.Lemmas.{bytes_of-four}
use Rattle.xet_hash.proofs.data_hash.DataHash.as_bytes.Goals as goal

pub returns : goal.returns
returns c =
    rw (
      c.copy_from_slice-4.ensures.after,
      c.copy_from_slice-3.ensures.after,
      c.copy_from_slice-2.ensures.after,
      c.copy_from_slice.ensures.after,
      c.to_le_bytes-4.ensures,
      c.to_le_bytes-3.ensures,
      c.to_le_bytes-2.ensures,
      c.to_le_bytes.ensures,
      ← c.self.view_is,
      bytes_of-four c.self.inside.words c.self.told,
    )
