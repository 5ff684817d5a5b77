use Rattle.std.proofs.Common.{◌≡◌, ◌≤◌, drop, length}
use Rattle.std.specs.Bool.{IsTrue}
use Rattle.range_proof.proofs.ReadingOf.{IsReadSoFar}
use Rattle.verified_reader.proofs.Parts.{AreCopiedSoFar}
use Rattle.verified_reader.proofs.part.WantedPart.check_chunks.Given as goal

abbrev pub invariant-chunks : goal.invariant-chunks
invariant-chunks g l = record {
  same : l.self ≡ record l.fn.self { right = l.self.right; checked = l.self.checked };
  right : l.self.right ≡ l.k;
  within : l.done ≤ length l.data;
  so_far : IsReadSoFar l.self.proof.chunks l.data l.k (drop l.done l.data);
  copied : AreCopiedSoFar l.self.proof l.k l.data (drop l.done l.data) l.fn.self.checked l.self.checked;
  uncopied : ¬ (IsTrue l.keep) → l.self.checked ≡ l.fn.self.checked;
}
