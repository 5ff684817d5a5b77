use Rattle.yurewha_c.proofs.HandleTypes.{file_hashers}
use Rattle.yurewha_c.proofs.HandleWalks.{into_parts_met}
use Rattle.yurewha_c.specs.contracts.file_hasher_handle.FileHasherHandle.into_parts.Key.{name as #self}
use Rattle.yurewha_c.proofs.file_hasher_handle.FileHasherHandle.into_parts.Statement as stated
use Rattle.yurewha_c.proofs.file_hasher_handle.FileHasherHandle.into_parts.Code as code

pub into_parts_spec : {M : Type 1} → stated.statement M
into_parts_spec 𝓤 𝓛 𝓜 𝓡 wired = into_parts_met file_hashers 𝓛 𝓜 𝓡 #self (code.unfolded 𝓤 𝓛.H 𝓜 𝓡 wired)
