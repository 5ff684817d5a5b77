use Rattle.std.proofs.Common.{arith, ◌≡◌, ◌+◌, ◌^◌, ◌<◌, [], ◌∷◌, refl, sym, ap, subst, ◌∙◌}
use Rattle.std.proofs.lemmas.Bool.{false≢true, false_from_ne_true}
use Rattle.std.proofs.lemmas.Grind.{common_steps}
use Rattle.upload_session.specs.Session.{is_taken, place}
use Rattle.xetroot_text.specs.Steps.PlacedPairs.{StandForPlaced, StandForPairs}
use Rattle.xetroot_text.proofs.Placing.{taken-held, StandForPairs-push}
use Rattle.xetroot_text.proofs.placed_pairs.PlacedPairs.push.Goals as goal

pub returns-then-taken-clause-fault : goal.returns-then-taken-clause-fault
returns-then-taken-clause-fault g c = λ pairs next held.
    let (hold, at) = subst (λ s. StandForPairs g.C.ChunkRange s pairs next) (sym c.self.view_is) held in
    let low : c.self.inside.next + 1 < 2 ^ 64 = grind (arith, common_steps) in
    let taken = taken-held g.C.ChunkRange _ _ _ _ _ pairs hold in (
      omega (arith, low, at),
      taken ∙ ap (is_taken hold.before) (sym at) ∙ sym (c.taken.ensures.placed hold.before hold.ended.0) ∙ c.if-taken.true,
    )

pub returns-in_default-checked_add-clause-fault : goal.returns-in_default-checked_add-clause-fault
returns-in_default-checked_add-clause-fault g c = λ pairs next held.
    let (hold, at) = subst (λ s. StandForPairs g.C.ChunkRange s pairs next) (sym c.self.view_is) held in
    let low : c.self.inside.next + 1 < 2 ^ 64 = grind (arith, common_steps) in
    let taken = taken-held g.C.ChunkRange _ _ _ _ _ pairs hold in (
      omega (arith, low, at),
      (λ t. false≢true (sym c.if-taken.false ∙ c.taken.ensures.placed hold.before hold.ended.0 ∙ ap (is_taken hold.before) at ∙ sym taken ∙ t)),
      let total = hold.total_is in grind (arith, common_steps, total),
    )

pub returns-clause-free : goal.returns-clause-free
returns-clause-free g c = λ pairs next held.
    let (hold, at) = subst (λ s. StandForPairs g.C.ChunkRange s pairs next) (sym c.self.view_is) held in
    let low : c.self.inside.next + 1 < 2 ^ 64 = grind (arith, common_steps) in
    let taken = taken-held g.C.ChunkRange _ _ _ _ _ pairs hold in (
      omega (arith, low, at),
      λ is. false≢true (sym c.if-taken.false ∙ c.taken.ensures.placed hold.before hold.ended.0 ∙ ap (is_taken hold.before) at ∙ sym taken ∙ is),
    )

pub returns-clause-pushed : goal.returns-clause-pushed
returns-clause-pushed g c = λ pairs next held.
    let inside = c.self-2.inside in
    let room = subst (λ s. StandForPairs g.C.ChunkRange s pairs next) (sym c.self-2.view_is)
    (c.in_ok-make_room.ensures.same pairs next held) in
    let free = false_from_ne_true (is_taken pairs next) (returns-clause-free g c pairs next held).1 in
    let old = c.self.view_is in
    let new = c.self-2.view_is in
    let after : c.in-Some.next ≡ inside.next + 1 = grind (arith, common_steps) in
    let total : c.in-Some-checked_add.total ≡ inside.total + c.args.pair.1 = grind (arith, common_steps) in
    StandForPairs-push g.C.ChunkRange
    (record { session = inside.session; range = inside.range.items; first = inside.first; next = inside.next; count = inside.count; total = inside.total })
    pairs next room free c.args.pair c.push.new.self.items
    c.in-Some.next c.in-Some-checked_add.total c.in_ok-push.ensures.items after total (grind (arith, common_steps)) (grind (arith, common_steps))

pub invariant_of-self-2 : goal.invariant_of-self-2
invariant_of-self-2 g c =
    let inside = c.self-2.inside in
    let next = c.self.inside.next in
    let (pairs, hold) = c.self.invariant in
    let old = c.self.view_is in
    let new = c.self-2.view_is in
    let held = subst (λ s. StandForPairs g.C.ChunkRange s pairs next) old (hold, refl) in
    let room = subst (λ s. StandForPairs g.C.ChunkRange s pairs next) (sym new)
    (c.in_ok-make_room.ensures.same pairs next held) in
    let taken = taken-held g.C.ChunkRange _ _ _ _ _ pairs hold in
    let free = taken ∙ sym (c.taken.ensures.placed hold.before hold.ended.0) ∙ c.if-taken.false in
    let after : c.in-Some.next ≡ inside.next + 1 = grind (arith, common_steps) in
    let total : c.in-Some-checked_add.total ≡ inside.total + c.args.pair.1 = grind (arith, common_steps) in
    let (made, is) = StandForPairs-push g.C.ChunkRange
    (record { session = inside.session; range = inside.range.items; first = inside.first; next = inside.next; count = inside.count; total = inside.total })
    pairs next room free c.args.pair c.push.new.self.items
    c.in-Some.next c.in-Some-checked_add.total c.in_ok-push.ensures.items after total (grind (arith, common_steps)) (grind (arith, common_steps)) in (
      place pairs next (c.args.pair ∷ []),
      subst (λ n. StandForPlaced g.C.ChunkRange inside.session c.push.new.self.items inside.first n c.in-Some-checked_add.total (place pairs next (c.args.pair ∷ []))) (sym is) made,
    )
