use Rattle.std.proofs.Common.{inr, ◌++◌, ◌∷◌, [], subst}
use Rattle.std.proofs.lemmas.Result.{on_ok_weaker, IfErr-weaker}
use Rattle.line_io.specs.Lines.{content}
use Rattle.pair_text.specs.declared.line.Line.TheVariants.{Separator, Position, Pair}
use Rattle.pair_text.specs.LineSays.{Says}
use Rattle.pair_text.proofs.LineMeaning.{Says-unique}
use Rattle.pair_text.proofs.GoodPairs.{AreGood-separator, AreGood-pair}
use Rattle.xetrange_text.proofs.Faults.{IsLineFault-sizes}
use Rattle.xetrange_text.proofs.chunks.ChunksTakeSaid.take.Goals as goal

pub returns-in-Separator-clause-taken : goal.returns-in-Separator-clause-taken
returns-in-Separator-clause-taken g c = λ before line within says (chunks, held, good).
    (chunks, held, AreGood-separator before chunks line good within (subst (Says (content line)) c.in-Separator.is says))

pub returns-in-Position-clause-fault : goal.returns-in-Position-clause-fault
returns-in-Position-clause-fault g c = λ before line within says (chunks, held, good).
    let position = c.in-Position.field-0 in
    let named = subst (Says (content line)) c.in-Position.is says in (
      chunks,
      good,
      inr (
        (λ separator. let clash : ⊥ = cc (Says-unique (content line) (Position position) Separator named separator) in clash),
        λ node pair. let clash : ⊥ = cc (Says-unique (content line) (Position position) (Pair node) named pair) in clash,
      ),
    )

pub returns-in-Pair-clause-fault : goal.returns-in-Pair-clause-fault
returns-in-Pair-clause-fault g c =
    IfErr-weaker c.push.result _ _ (λ refusal refused before line within says (chunks, held, good).
    IsLineFault-sizes before chunks line c.in-Pair.chunk refusal within good (subst (Says (content line)) c.in-Pair.is says) (refused chunks held))
    c.push.ensures.fault

pub returns-in-Pair-clause-taken : goal.returns-in-Pair-clause-taken
returns-in-Pair-clause-taken g c =
    on_ok_weaker c.push.result (λ pushed before line within says (chunks, held, good).
    let (fits, more) = pushed chunks held in
    let chunk = c.in-Pair.chunk in (
      chunks ++ chunk ∷ [],
      more,
      AreGood-pair before chunks line good within chunk (subst (Says (content line)) c.in-Pair.is says) fits,
    ))
    c.push.ensures.pushed
