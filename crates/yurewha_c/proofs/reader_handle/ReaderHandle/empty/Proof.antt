use Rattle.yurewha_c.proofs.HandleTypes.{readers}
use Rattle.yurewha_c.proofs.HandleWalks.{empty_met}
use Rattle.yurewha_c.specs.contracts.reader_handle.ReaderHandle.empty.Key.{name as #self}
use Rattle.yurewha_c.proofs.reader_handle.ReaderHandle.empty.Statement as stated
use Rattle.yurewha_c.proofs.reader_handle.ReaderHandle.empty.Code as code

pub empty_spec : {M : Type 1} → stated.statement M
empty_spec 𝓤 𝓛 𝓜 𝓡 wired = empty_met readers 𝓛 𝓜 𝓡 #self (code.unfolded 𝓤 𝓛.H 𝓜 𝓡 wired)
