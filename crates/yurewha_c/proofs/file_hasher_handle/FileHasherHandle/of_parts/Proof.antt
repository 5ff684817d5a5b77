use Rattle.yurewha_c.proofs.HandleTypes.{file_hashers}
use Rattle.yurewha_c.proofs.HandleWalks.{of_parts_met}
use Rattle.yurewha_c.specs.contracts.file_hasher_handle.FileHasherHandle.of_parts.Key.{name as #self}
use Rattle.yurewha_c.proofs.file_hasher_handle.FileHasherHandle.of_parts.Statement as stated
use Rattle.yurewha_c.proofs.file_hasher_handle.FileHasherHandle.of_parts.Code as code

pub of_parts_spec : {M : Type 1} → stated.statement M
of_parts_spec 𝓤 𝓛 𝓜 𝓡 wired = of_parts_met file_hashers 𝓛 𝓜 𝓡 #self (code.unfolded 𝓤 𝓛.H 𝓜 𝓡 wired)
