-- What a restored session has of the saved one.
use Rattle.std.proofs.Common.{List, [], sym, ◌∙◌}
use Rattle.xet_roots.specs.Roots.{parent_hash}
use Rattle.subtree_levels.proofs.Canonical.Collapsing.{levels_size-canonical}
use Rattle.upload_session.specs.declared.kept_hashes.SeenHashes.{SeenHashes}
use Rattle.upload_session.specs.Hashes.{Hash, AreBoth, Knows}
use Rattle.upload_session.specs.Sizes.{HaveChunkSizes}
use Rattle.upload_session.specs.Subtrees.{subtrees}

pub sizes-subtrees : (A : Type 0) → HaveChunkSizes {A = A} subtrees
sizes-subtrees A range chunks canonical = levels_size-canonical parent_hash canonical.1

-- two lists of what is known have the same hashes
pub known-both : {A : Type 0} (seen : SeenHashes A) (hashes known : List Hash) → Knows seen hashes → Knows seen known → AreBoth [] hashes known
known-both seen hashes known knows also hash = sym (also hash) ∙ knows hash
