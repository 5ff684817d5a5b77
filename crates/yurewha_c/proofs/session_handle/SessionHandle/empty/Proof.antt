use Rattle.yurewha_c.proofs.HandleTypes.{sessions}
use Rattle.yurewha_c.proofs.HandleWalks.{empty_met}
use Rattle.yurewha_c.specs.contracts.session_handle.SessionHandle.empty.Key.{name as #self}
use Rattle.yurewha_c.proofs.session_handle.SessionHandle.empty.Statement as stated
use Rattle.yurewha_c.proofs.session_handle.SessionHandle.empty.Code as code

pub empty_spec : {M : Type 1} → stated.statement M
empty_spec 𝓤 𝓛 𝓜 𝓡 wired = empty_met sessions 𝓛 𝓜 𝓡 #self (code.unfolded 𝓤 𝓛.H 𝓜 𝓡 wired)
