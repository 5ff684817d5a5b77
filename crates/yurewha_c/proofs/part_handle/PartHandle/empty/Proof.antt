use Rattle.yurewha_c.proofs.HandleTypes.{parts}
use Rattle.yurewha_c.proofs.HandleWalks.{empty_met}
use Rattle.yurewha_c.specs.contracts.part_handle.PartHandle.empty.Key.{name as #self}
use Rattle.yurewha_c.proofs.part_handle.PartHandle.empty.Statement as stated
use Rattle.yurewha_c.proofs.part_handle.PartHandle.empty.Code as code

pub empty_spec : {M : Type 1} → stated.statement M
empty_spec 𝓤 𝓛 𝓜 𝓡 wired = empty_met parts 𝓛 𝓜 𝓡 #self (code.unfolded 𝓤 𝓛.H 𝓜 𝓡 wired)
