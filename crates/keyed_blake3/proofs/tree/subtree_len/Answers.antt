use Rattle.std.proofs.Common.{◌≡◌, ℕ, suc, ◌*◌, ◌/◌, ◌≤◌, arith, refl}
use Rattle.std.proofs.Math.Nat.{div-mul-le_self, mul-le-mul_left, mul_comm, pow-succ'}
use Rattle.keyed_blake3.proofs.tree.subtree_len.Goals as goal

pub doubled-init : goal.doubled-init
doubled-init g c = record {
  power = (0, refl, λ more. absurd (omega arith));
  first = omega arith;
  some = omega arith;
  room = omega arith;
}

pub doubled-preserved : goal.doubled-preserved
doubled-preserved g c =
    let p = c.doubled.invariant.power in
    let same : c.doubled.len * 2 ≡ 2 * c.doubled.len = omega arith in
    record {
      power = (suc p.0, omega (arith, pow-succ' 2 p.0, p.1), λ more. omega arith);
      first = rw same c.if-first-len-eq0.true;
      some = omega arith;
      room = omega arith;
    }

-- as many chunks as the lanes' subtrees have
fits : (l len chunks : ℕ) → len ≤ chunks / l → l * len ≤ chunks
fits l len chunks h = omega (arith, mul-le-mul_left l h, mul_comm l (chunks / l), div-mul-le_self chunks l)

pub returns-else-first-len-eq0 : goal.returns-else-first-len-eq0
returns-else-first-len-eq0 g c =
    let i = c.doubled.invariant in
    record {
      len = (i.power.0, i.power.1, i.first, λ more. fits _ _ _ (i.power.2 more));
      narrow = λ less. absurd (omega (arith, less, c.if-this-lt-WIDEST.false));
    }

pub returns-after-doubled : goal.returns-after-doubled
returns-after-doubled g c =
    let i = c.doubled.invariant in
    record {
      len = (i.power.0, i.power.1, i.first, λ more. fits _ _ _ (i.power.2 more));
      narrow = λ less. absurd (omega (arith, less, c.if-this-lt-WIDEST.false));
    }
