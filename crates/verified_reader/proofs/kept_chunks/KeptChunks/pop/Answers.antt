use Rattle.std.proofs.Common.{arith, ◌≡◌, ◌+◌, ◌-◌, ℕ, length, subst}
use Rattle.verified_reader.specs.Steps.KeptChunks.{AreInOrder}
use Rattle.verified_reader.proofs.InOrder.{all_listed, popped, takes}
use Rattle.verified_reader.proofs.kept_chunks.KeptChunks.pop.Goals as goal

pub invariant_of-self : goal.invariant_of-self
invariant_of-self g c =
    let inside = c.self.inside in
    let by_use = inside.by_use.entries in
    let uses = inside.uses.entries in
    let chunk = c.in-Some.chunk in
    let first = c.in-Some.field-0-0 in
    let new = c.pop_first.new.self in
    let again = c.remove.new.self.entries in
    let done = popped by_use uses inside.next_use inside.size c.self.invariant chunk new.entries again (all_listed new c.in-Some.ensures.ordered)
    first c.in-Some.ensures.removal c.in-Some.ensures.value (takes first by_use new.entries c.in-Some.ensures.updates.0)
    (takes chunk.begin uses again c.remove.ensures.updates.0) in
    let len : length chunk.bytes.items ≡ c.len.result = omega (arith, c.len.ensures) in
    subst (λ (n : ℕ). AreInOrder new.entries again inside.next_use (inside.size - (n + 128))) len done
