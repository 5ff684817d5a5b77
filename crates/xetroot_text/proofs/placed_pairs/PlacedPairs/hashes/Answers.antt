use Rattle.std.proofs.Common.{arith, eqb-true, eq-eqb, Err, sym, ap, subst, ◌∙◌}
use Rattle.upload_session.specs.Session.{Placed, IsWhole}
use Rattle.std.proofs.lemmas.List.{length-map}
use Rattle.xetroot_text.specs.Steps.PlacedPairs.{Gathered, StandForPairs}
use Rattle.xetroot_text.proofs.Placing.{stands-all}
use Rattle.xetroot_text.proofs.placed_pairs.PlacedPairs.hashes.Goals as goal

pub returns-in-Err-Gap-clause-gap : goal.returns-in-Err-Gap-clause-gap
returns-in-Err-Gap-clause-gap g c = λ pairs next held whole.
    let all = subst (λ s. StandForPairs g.C.ChunkRange s pairs next) (sym c.self.view_is) (c.in_ok-end_range.ensures.same pairs next held) in
    let none = ap (λ (s : Gathered _). s.range) c.self.view_is ∙ c.in_ok-end_range.ensures.none in
    let count = ap (λ (s : Gathered _). s.count) c.self.view_is ∙ c.end_range.ensures.kept.1 in
    let stands = stands-all g.C.ChunkRange _ _ _ _ _ pairs all.0 none in
    c.hashes.ensures.gap (c.in-Err-Gap.is ∙ ap Err c.in-Err-Gap.field-0-is)
    ((c.hashes.ensures.whole pairs stands.0).0 (subst (λ n. IsWhole n pairs) (sym count) whole))

pub returns-in-Ok-clause-whole : goal.returns-in-Ok-clause-whole
returns-in-Ok-clause-whole g c = λ pairs next held.
    let all = subst (λ s. StandForPairs g.C.ChunkRange s pairs next) (sym c.self.view_is)
    (c.in_ok-end_range.ensures.same pairs next held) in
    let none = ap (λ (s : Gathered _). s.range) c.self.view_is ∙ c.in_ok-end_range.ensures.none in
    let count = ap (λ (s : Gathered _). s.count) c.self.view_is ∙ c.end_range.ensures.kept.1 in
    let stands = stands-all g.C.ChunkRange _ _ _ _ _ pairs all.0 none in
    subst (λ n. IsWhole n pairs) count ((c.hashes.ensures.whole pairs stands.0).1 (c.hashes.ensures.cover (λ gap. cc (sym gap ∙ c.in-Ok.is))))

pub returns-in-Ok-clause-root : goal.returns-in-Ok-clause-root
returns-in-Ok-clause-root g c = λ pairs next held.
    let all = subst (λ s. StandForPairs g.C.ChunkRange s pairs next) (sym c.self.view_is)
    (c.in_ok-end_range.ensures.same pairs next held) in
    let none = ap (λ (s : Gathered _). s.range) c.self.view_is ∙ c.in_ok-end_range.ensures.none in
    let stands = stands-all g.C.ChunkRange _ _ _ _ _ pairs all.0 none in
    c.in-Ok.ensures.placed_root pairs stands.0

pub returns-in-Ok-clause-file : goal.returns-in-Ok-clause-file
returns-in-Ok-clause-file g c = λ pairs next held.
    let all = subst (λ s. StandForPairs g.C.ChunkRange s pairs next) (sym c.self.view_is)
    (c.in_ok-end_range.ensures.same pairs next held) in
    let none = ap (λ (s : Gathered _). s.range) c.self.view_is ∙ c.in_ok-end_range.ensures.none in
    let stands = stands-all g.C.ChunkRange _ _ _ _ _ pairs all.0 none in
    c.in-Ok.ensures.placed_file pairs stands.0
