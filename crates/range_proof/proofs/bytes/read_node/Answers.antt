use Rattle.std.proofs.Common.{rules, ◌≡◌, ◌++◌, sym, ◌∙◌}
use Rattle.std.specs.Int.{w64, to_le_bytes}
use Rattle.std.proofs.lemmas.Nat.{le_bytes_8}
use Rattle.xet_hash.specs.Hash.{bytes_of}
use Rattle.range_proof.proofs.bytes.read_node.Goals as goal

pub returns-clause-bytes : goal.returns-clause-bytes
returns-clause-bytes c =
    let front : bytes_of c.from-hash.result ≡ c.split_at.result.0.now = c.from-hash.ensures.1 ∙ c.copy_from_slice.ensures.after in
    let size : to_le_bytes w64 c.from_le_bytes.result ≡ c.copy_from_slice-2.new.self =
    le_bytes_8 c.copy_from_slice-2.new.self c.from_le_bytes.result (search rules) (search rules) c.from_le_bytes.ensures in
    let back = size ∙ c.copy_from_slice-2.ensures.after in
    (λ i. front i ++ back i) ∙ sym c.split_at.ensures.by_index.0
