use Rattle.std.proofs.Common.{◌≡◌, ◌<◌, List, [], ◌∷◌, length, replicate, Option, Some, None, IfSome, IfNone, sym, subst, arith}
use Rattle.xet_merkle.specs.Groups.{Node}
use Rattle.xet_merkle.specs.Roots.{IsRoot, IsFileHash}
use Rattle.xet_merkle.specs.Subtree.{Subtree, IsCanonical}
use Rattle.xetrange_text.proofs.join.close.Goals as goal

-- what holds of no chunk, where there is no range with chunks, and of its chunks where there is one, holds of a range's chunks
of_chunks : {R : Type 0} (found : Option R) (now : R → Subtree) (merged : Subtree) (P : List Node → Type 0)
    → IfNone found ((chunks : List Node) → IsCanonical merged chunks → length chunks ≡ 0)
    → IfSome found (λ same. (now same ≡ merged) × ((chunks : List Node) → IsCanonical merged chunks → 0 < length chunks))
    → IfNone found (P []) → IfSome found (λ same. (chunks : List Node) → IsCanonical (now same) chunks → 0 < length chunks → P chunks)
    → (chunks : List Node) → IsCanonical merged chunks → P chunks
of_chunks None now merged P none some here there [] canonical = here
of_chunks None now merged P none some here there (chunk ∷ chunks) canonical = absurd (let empty = none (chunk ∷ chunks) canonical in omega arith)
of_chunks (Some same) now merged P none some here there chunks canonical =
    there chunks (subst (λ (s : Subtree). IsCanonical s chunks) (sym some.0) canonical) (some.1 chunks canonical)

-- what holds of any chunks holds of some
of_some : {R : Type 0} (found : Option R) (now : R → Subtree) (P : List Node → Type 0)
    → IfSome found (λ same. (chunks : List Node) → IsCanonical (now same) chunks → P chunks)
    → IfSome found (λ same. (chunks : List Node) → IsCanonical (now same) chunks → 0 < length chunks → P chunks)
of_some None now P holds = tt
of_some (Some same) now P holds = λ chunks canonical some. holds chunks canonical

first_of_none : {R : Type 0} (found : Option R) (P Q : Type 0) → IfNone found (P × Q) → IfNone found P
first_of_none None P Q both = both.0
first_of_none (Some same) P Q both = tt

second_of_none : {R : Type 0} (found : Option R) (P Q : Type 0) → IfNone found (P × Q) → IfNone found Q
second_of_none None P Q both = both.1
second_of_none (Some same) P Q both = tt

pub returns-clause-root : goal.returns-clause-root
returns-clause-root g c =
    let found = c.with_chunks.result in
    of_chunks found (λ range. range.now) c.args.merged.now (λ chunks. IsRoot chunks c.in-Ok.hashes.0) c.with_chunks.ensures.none c.with_chunks.ensures.some
    (first_of_none found (IsRoot [] c.in-Ok.hashes.0) _ c.in-Ok.ensures.none)
    (of_some found (λ range. range.now) (λ chunks. IsRoot chunks c.in-Ok.hashes.0) c.in-Ok.ensures.root)

pub returns-clause-file : goal.returns-clause-file
returns-clause-file g c =
    let found = c.with_chunks.result in
    of_chunks found (λ range. range.now) c.args.merged.now (λ chunks. IsFileHash chunks (replicate 32 0) c.in-Ok.hashes.1) c.with_chunks.ensures.none c.with_chunks.ensures.some
    (second_of_none found _ (IsFileHash [] (replicate 32 0) c.in-Ok.hashes.1) c.in-Ok.ensures.none) c.in-Ok.ensures.file
