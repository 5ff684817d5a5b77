use Rattle.yurewha_c.proofs.HandleTypes.{file_hashers}
use Rattle.yurewha_c.proofs.HandleWalks.{empty_met}
use Rattle.yurewha_c.specs.contracts.file_hasher_handle.FileHasherHandle.empty.Key.{name as #self}
use Rattle.yurewha_c.proofs.file_hasher_handle.FileHasherHandle.empty.Statement as stated
use Rattle.yurewha_c.proofs.file_hasher_handle.FileHasherHandle.empty.Code as code

pub empty_spec : {M : Type 1} → stated.statement M
empty_spec 𝓤 𝓛 𝓜 𝓡 wired = empty_met file_hashers 𝓛 𝓜 𝓡 #self (code.unfolded 𝓤 𝓛.H 𝓜 𝓡 wired)
