use Rattle.std.proofs.Common.{◌<◌, length, List, ℕ, inl, inr, sym, ap, ◌∙◌, arith}
use Rattle.std.proofs.lemmas.Bool.{cases_lt, false≢true}
use Rattle.xet_hash.specs.Blake3.{keyed_hash}
use Rattle.xet_hash.specs.Hash.{bytes_of, hash_of}
use Rattle.xet_roots.proofs.Roots.Making.{IsFileHash-none, IsFileHash-some}
use Rattle.xet_roots.proofs.aggregated_hashes.file_hash_of_root.Goals as goal

pub returns-then-is_empty-clause-chunks : goal.returns-then-is_empty-clause-chunks
returns-then-is_empty-clause-chunks c = λ chunks root empty. IsFileHash-none chunks _ _ (empty.0 c.if-is_empty.true) root

pub returns-clause-chunks : goal.returns-clause-chunks
returns-clause-chunks c = λ chunks root empty.
    let some : 0 < length chunks = elim (cases_lt 0 (length chunks)) [ inl some ↦ some | inr few ↦ absurd (false≢true (sym c.if-is_empty.false ∙ empty.1 (omega arith))) ] in
    IsFileHash-some chunks _ _ _ some root
    (c.hmac.ensures ∙ ap (λ (key : List ℕ). hash_of (keyed_hash key (bytes_of c.args.root))) c.from.ensures.1)
