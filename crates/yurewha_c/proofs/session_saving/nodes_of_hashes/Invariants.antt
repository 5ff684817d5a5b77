use Rattle.std.proofs.Common.{◌≡◌, take}
use Rattle.upload_session.specs.Hashes.{hashes_of}
use Rattle.yurewha_c.specs.Pieces.{words_of}
use Rattle.yurewha_c.proofs.session_saving.nodes_of_hashes.Given as goal

abbrev pub invariant-hashes : goal.invariant-hashes
invariant-hashes l = hashes_of l.nodes.items ≡ words_of (take l.hash-index l.hashes)
