use Rattle.std.proofs.Common.{◌≡◌, ◌==◌, ◌≤◌, ℕ, List, if◌then◌else◌, take}
use Rattle.keyed_blake3.specs.Blake3.{root_flag}
use Rattle.keyed_blake3.specs.Steps.Tree.{joined}
use Rattle.keyed_blake3.proofs.tree.Tree.joined.Given as goal

abbrev pub invariant-joins : goal.invariant-joins
invariant-joins l = record {
  used : l.used ≤ 54;
  joined : (x : ℕ → List ℕ) → l.fn.value ≡ x (if l.fn.used == 0 then root_flag else 0) → (y : ℕ → List ℕ) × (l.value ≡ y (if l.used == 0 then root_flag else 0))
      × (joined l.self.key (take l.used l.self.cv_stack) y root_flag ≡ joined l.self.key (take l.fn.used l.self.cv_stack) x root_flag);
}

abbrev pub decreases-joins : goal.decreases-joins
decreases-joins l = l.used
