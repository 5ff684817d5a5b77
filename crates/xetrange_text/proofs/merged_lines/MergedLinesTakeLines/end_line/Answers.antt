use Rattle.std.proofs.Common.{ℕ, List, [], ◌∷◌, ◌++◌, ◌∙◌, subst}
use Rattle.xetrange_text.specs.Ranges.{SaysRange}
use Rattle.std.proofs.lemmas.Result.{err_from_is_err_and}
use Rattle.line_io.specs.Faults.{IfFaulty}
use Rattle.xetrange_text.specs.Steps.MergedLines.{IsNoRange}
use Rattle.xetrange_text.proofs.Faults.{IsLineFault-no_range}
use Rattle.xetrange_text.proofs.MergedRanges.{AreRanges-push, AreMerged-push, sizes_fit}
use Rattle.xetrange_text.proofs.merged_lines.MergedLinesTakeLines.end_line.Goals as goal

pub returns-clause-taken : goal.returns-clause-taken
returns-clause-taken g c = λ before line within (ranges, good, so_far, is, is_open).
    let range = c.in_ok-range.range in
    let says = subst (λ (l : List ℕ). SaysRange l range) (c.deref.ensures.value ∙ is) c.in_ok-range.ensures.says in
    let merged = c.in-Ok.ensures.merged in
    let (json, text, reads, open_ends) = says in
    let fits = sizes_fit ranges _ range c.merge_into.result _ so_far merged c.in-Ok.is c.merge_into.ensures.refusals in (
      ranges ++ range ∷ [],
      AreRanges-push before ranges _ range _ line good so_far merged says fits within,
      AreMerged-push before ranges _ range _ line good so_far merged open_ends.1,
      c.clear.ensures.items,
      tt,
    )

pub returns-in_err-range-clause-fault : goal.returns-in_err-range-clause-fault
returns-in_err-range-clause-fault g c =
    let p = err_from_is_err_and c.from_residual-in_err-range.result c.from_residual-in_err-range.ensures.1 in
    rw (p.1, p.2) (λ before line within (ranges, good, so_far, is, is_open).
    IsLineFault-no_range before ranges line c.in_err-range.field-0.0 within good
    (subst (λ (l : List ℕ). IfFaulty c.in_err-range.field-0.0 (IsNoRange l)) (c.deref.ensures.value ∙ is) c.in_err-range.ensures.fault))
