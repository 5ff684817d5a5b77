use Rattle.std.proofs.Common.{◌+◌, ◌≤◌, ℕ, take, sym, ap, subst}
use Rattle.verified_reader.specs.Kept.{AreKeptAt, AreUsed}
use Rattle.verified_reader.specs.Reader.{IsChecked, Reader}
use Rattle.verified_reader.proofs.Checks.{used_checked, used_shown, used_sizes}
use Rattle.verified_reader.proofs.Pieces.{of_kept}
use Rattle.verified_reader.proofs.reader.VerifiedReader.read.Goals as goal

pub invariant_of-self : goal.invariant_of-self
invariant_of-self g c =
    let inside = c.self.inside in
    let from = c.args.from in
    let to = from + c.read.result in
    let used = c.read.ensures.used in
    let (within, checks, shown) = c.self.invariant in (
      subst (λ (n : ℕ). n ≤ inside.most) (sym (used_sizes inside.chunks from to c.read.new.self used)) within,
      checks,
      record { kept = used_checked (IsChecked checks inside.hash inside.salt) inside.chunks from to c.read.new.self used shown.kept; size = shown.size },
    )

pub returns-clause-copied : goal.returns-clause-copied
returns-clause-copied g c = subst (λ (r : Reader). AreKeptAt r.kept c.args.from (take c.read.result c.read.new.room)) c.self.view_is c.read.ensures.copied

pub returns-clause-sound : goal.returns-clause-sound
returns-clause-sound g c = λ checks shown.
    let reader = c.args.self.now in
    of_kept checks reader.hash reader.salt reader.kept c.args.from (take c.read.result c.read.new.room) shown.kept
    (subst (λ (r : Reader). AreKeptAt r.kept c.args.from (take c.read.result c.read.new.room)) c.self.view_is c.read.ensures.copied)

pub returns-clause-stays : goal.returns-clause-stays
returns-clause-stays g c = λ checks shown.
    let inside = c.self.inside in
    let from = c.args.from in
    let to = from + c.read.result in
    let used = subst (λ (r : Reader). AreUsed r.kept from to c.read.new.self) c.self.view_is c.read.ensures.used in
    used_shown checks c.args.self.now (record { hash = inside.hash; salt = inside.salt; most = inside.most; kept = c.read.new.self; size = inside.size }) from to
    (ap (λ (r : Reader). record r { kept = c.read.new.self }) c.self.view_is) used shown
