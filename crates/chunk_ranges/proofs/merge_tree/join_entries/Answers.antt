use Rattle.std.proofs.Common.{◌≡◌, ◌+◌, ◌-◌, ◌^◌, ◌<◌, [], ◌∷◌, ◌++◌, length, map, reverse, length-append, sym, ap, subst, ◌∙◌, append-nil, arith, rules}
use Rattle.std.proofs.lemmas.List.{reverse-append}
use Rattle.chunk_ranges.specs.Steps.Bracketing.{depth, AreBegun}
use Rattle.chunk_ranges.specs.Steps.RangeMerging.{JoinsTo}
use Rattle.xet_roots.proofs.Results.{passed_on}
use Rattle.chunk_ranges.proofs.Ranges.Adjacent.{for_memory}
use Rattle.chunk_ranges.proofs.Ranges.Bracketing.{depth-append, AreBegun-append}
use Rattle.chunk_ranges.proofs.Ranges.Joining.{JoinsTo-all, JoinsTo-join, unmarked_at, total_at}
use Rattle.chunk_ranges.proofs.merge_tree.join_entries.Goals as goal

pub entries-init : goal.entries-init
entries-init g c =
    let ranges = map (λ entry. entry.1) c.args.entries.items in
    rw c.new-values.ensures.items (record {
      begun = c.requires.begun;
      one = c.requires.one;
      joins = subst (JoinsTo g.R.ChunkRange.stands g.R.ChunkRange.start g.R.ChunkRange.end g.R.ChunkRange.total ranges) (sym (append-nil ranges))
          (JoinsTo-all g.R.ChunkRange.stands g.R.ChunkRange.start g.R.ChunkRange.end g.R.ChunkRange.total ranges c.requires.marks);
    })

pub unwrap-back-requires : goal.unwrap-back-requires
unwrap-back-requires g c =
    let parts = (AreBegun-append c.pop.new.self.items ((c.in-Some.begun, c.in-Some.range) ∷ []) (length c.entries.values.items)).0
    (subst (λ l. AreBegun l (length c.entries.values.items)) c.in-Some.ensures.items c.entries.invariant.begun) in
    let few = parts.1.0 in
    let left = c.begun.invariant.left in
    let more : c.begun.counter < c.in-Some.begun = search rules in
    let some : 0 < length c.begun.values.items = omega arith in
    search rules

pub returns-in_err-join-clause-errors : goal.returns-in_err-join-clause-errors
returns-in_err-join-clause-errors g c =
    let ranges = map (λ entry. entry.1) c.args.entries.items in
    let before = map (λ entry. entry.1) c.pop.new.self.items in
    let back = c.unwrap-back.result in
    let values = c.pop-in-begun.new.self.items in
    let taken : c.begun.values.items ≡ values ++ back ∷ [] = search rules in
    let turned = ap reverse taken ∙ reverse-append values (back ∷ []) in
    let joins : JoinsTo g.R.ChunkRange.stands g.R.ChunkRange.start g.R.ChunkRange.end g.R.ChunkRange.total ranges (before ++ c.begun.range ∷ back ∷ reverse values) =
    subst (λ l. JoinsTo g.R.ChunkRange.stands g.R.ChunkRange.start g.R.ChunkRange.end g.R.ChunkRange.total ranges (before ++ c.begun.range ∷ l)) turned c.begun.invariant.joins in
    let marks = unmarked_at g.R.ChunkRange.stands g.R.ChunkRange.start g.R.ChunkRange.end g.R.ChunkRange.total before (reverse values) c.begun.range back joins.marks in
    let most = total_at g.R.ChunkRange.stands g.R.ChunkRange.start g.R.ChunkRange.end g.R.ChunkRange.total before (reverse values) c.begun.range back in
    let sum = joins.sum in
    let fits = c.requires.fits in
    let small : g.R.ChunkRange.total c.begun.range + g.R.ChunkRange.total back < 2 ^ 64 = omega arith in
    passed_on _ c.from_residual.result c.in_err-join.field-0.0 c.from_residual.ensures.1
    (for_memory marks small c.in_err-join.field-0.0 c.in_err-join.ensures.refusals)

pub begun-preserved : goal.begun-preserved
begun-preserved g c =
    let ranges = map (λ entry. entry.1) c.args.entries.items in
    let before = map (λ entry. entry.1) c.pop.new.self.items in
    let back = c.unwrap-back.result in
    let values = c.pop-in-begun.new.self.items in
    let taken : c.begun.values.items ≡ values ++ back ∷ [] = search rules in
    let turned = ap reverse taken ∙ reverse-append values (back ∷ []) in
    let joins : JoinsTo g.R.ChunkRange.stands g.R.ChunkRange.start g.R.ChunkRange.end g.R.ChunkRange.total ranges (before ++ c.begun.range ∷ back ∷ reverse values) =
    subst (λ l. JoinsTo g.R.ChunkRange.stands g.R.ChunkRange.start g.R.ChunkRange.end g.R.ChunkRange.total ranges (before ++ c.begun.range ∷ l)) turned c.begun.invariant.joins in
    let left = c.begun.invariant.left in
    let len = ap length taken in
    record {
      left = omega (arith, length-append values (back ∷ []));
      joins = JoinsTo-join g.R.ChunkRange.stands g.R.ChunkRange.start g.R.ChunkRange.end g.R.ChunkRange.total c.begun.range back c.join.new.self c.in_ok-join.ensures.start c.in_ok-join.ensures.end c.in_ok-join.ensures.total
          c.in_ok-join.ensures.stands ranges before (reverse values) joins;
    }

pub entries-preserved : goal.entries-preserved
entries-preserved g c =
    let parts = (AreBegun-append c.pop.new.self.items ((c.in-Some.begun, c.in-Some.range) ∷ []) (length c.entries.values.items)).0
    (subst (λ l. AreBegun l (length c.entries.values.items)) c.in-Some.ensures.items c.entries.invariant.begun) in
    let few = parts.1.0 in
    let left = c.begun.invariant.left in
    let ranges = map (λ entry. entry.1) c.args.entries.items in
    let before = map (λ entry. entry.1) c.pop.new.self.items in
    let m = length c.entries.values.items in
    let end : c.begun.counter ≡ c.in-Some.begun = search rules in
    let pushed : c.push.new.self.items ≡ c.begun.values.items ++ c.begun.range ∷ [] = search rules in
    let len = ap length pushed in
    let now : m - c.in-Some.begun + 1 ≡ length c.push.new.self.items = omega (arith, length-append c.begun.values.items (c.begun.range ∷ [])) in
    record {
      begun = subst (AreBegun c.pop.new.self.items) now parts.0;
      one = ap (depth c.pop.new.self.items) (sym now) ∙ sym (depth-append c.pop.new.self.items ((c.in-Some.begun, c.in-Some.range) ∷ []) m) ∙ ap (λ l. depth l m) (sym c.in-Some.ensures.items) ∙ c.entries.invariant.one;
      joins = subst (λ l. JoinsTo g.R.ChunkRange.stands g.R.ChunkRange.start g.R.ChunkRange.end g.R.ChunkRange.total ranges (before ++ l)) (sym (reverse-append c.begun.values.items (c.begun.range ∷ [])) ∙ ap reverse (sym pushed)) c.begun.invariant.joins;
    }
