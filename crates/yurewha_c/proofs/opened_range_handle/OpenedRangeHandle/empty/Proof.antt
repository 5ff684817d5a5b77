use Rattle.yurewha_c.proofs.HandleTypes.{opened_ranges}
use Rattle.yurewha_c.proofs.HandleWalks.{empty_met}
use Rattle.yurewha_c.specs.contracts.opened_range_handle.OpenedRangeHandle.empty.Key.{name as #self}
use Rattle.yurewha_c.proofs.opened_range_handle.OpenedRangeHandle.empty.Statement as stated
use Rattle.yurewha_c.proofs.opened_range_handle.OpenedRangeHandle.empty.Code as code

pub empty_spec : {M : Type 1} → stated.statement M
empty_spec 𝓤 𝓛 𝓜 𝓡 wired = empty_met opened_ranges 𝓛 𝓜 𝓡 #self (code.unfolded 𝓤 𝓛.H 𝓜 𝓡 wired)
