use Rattle.std.proofs.Common.{◌++◌, List, sym, ap, subst, ◌∙◌, append-nil}
use Rattle.xet_merkle.specs.Groups.{Node}
use Rattle.xetrange_text.proofs.chunks.Chunks.into_range.Goals as goal

pub returns-clause-stands : goal.returns-clause-stands
returns-clause-stands g c = λ chunks h.
    let held = c.in_ok-end_range.ensures.same chunks h in
    let whole = held.parts ∙ ap (λ (l : List Node). held.before ++ l) c.in_ok-end_range.ensures.none ∙ append-nil held.before in
    subst (g.C.ChunkRange.stands c.end_range.new.self.ended) (sym whole) held.ended
