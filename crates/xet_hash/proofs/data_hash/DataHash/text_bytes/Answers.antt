use Rattle.std.proofs.Common.{sym, ap, ◌∙◌}
use Rattle.hex.specs.Hex.{encode_lower}
use Rattle.xet_hash.proofs.Hash.HexText.{encode_lower-text_bytes, text_bytes-four}
use Rattle.xet_hash.proofs.data_hash.DataHash.text_bytes.Goals as goal

pub returns-clause-text : goal.returns-clause-text
returns-clause-text c =
    let text = encode_lower-text_bytes c.self.inside.words c.self.told in
    let four = text_bytes-four c.self.inside.words c.self.told in
    rw (
      c.copy_from_slice-4.ensures.after,
      c.copy_from_slice-3.ensures.after,
      c.copy_from_slice-2.ensures.after,
      c.copy_from_slice.ensures.after,
      c.to_be_bytes-4.ensures,
      c.to_be_bytes-3.ensures,
      c.to_be_bytes-2.ensures,
      c.to_be_bytes.ensures,
      ← c.self.view_is,
    ) (ap encode_lower (sym four) ∙ text)
