use Rattle.yurewha_c.proofs.HandleTypes.{hash_indexes}
use Rattle.yurewha_c.proofs.HandleWalks.{empty_met}
use Rattle.yurewha_c.specs.contracts.hash_index_handle.HashIndexHandle.empty.Key.{name as #self}
use Rattle.yurewha_c.proofs.hash_index_handle.HashIndexHandle.empty.Statement as stated
use Rattle.yurewha_c.proofs.hash_index_handle.HashIndexHandle.empty.Code as code

pub empty_spec : {M : Type 1} → stated.statement M
empty_spec 𝓤 𝓛 𝓜 𝓡 wired = empty_met hash_indexes 𝓛 𝓜 𝓡 #self (code.unfolded 𝓤 𝓛.H 𝓜 𝓡 wired)
