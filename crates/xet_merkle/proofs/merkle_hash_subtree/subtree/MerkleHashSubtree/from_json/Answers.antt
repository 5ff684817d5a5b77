use Rattle.std.proofs.Common.{ℕ, Bool, List, Result, IfOk, IfErr, inl, inr, refl, sym, subst}
use Rattle.serde_json.specs.View.{view}
use Rattle.xet_roots.specs.Groups.{Node}
use Rattle.subtree_levels.specs.Subtree.{Subtree}
use Rattle.xet_merkle.specs.JsonParts.{ReadsParts}
use Rattle.xet_merkle.specs.JsonRules.{BreaksValueRule}
use Rattle.xet_merkle.specs.JsonRules.BreaksRule.{of_parts, of_value}
use Rattle.xet_merkle.specs.Steps.FlatMaking.{IsMadeOf}
use Rattle.xet_roots.proofs.Results.{passed_on}
use Rattle.xet_merkle.proofs.Json.OneMeaning.{Reads-parts}
use Rattle.xet_merkle.proofs.merkle_hash_subtree.subtree.MerkleHashSubtree.from_json.Goals as goal

pub returns-in_err-parts-clause-errors : goal.returns-in_err-parts-clause-errors
returns-in_err-parts-clause-errors g c = passed_on _ c.from_residual-in_err-parts.result c.in_err-parts.field-0.0 c.from_residual-in_err-parts.ensures.1
    (elim c.in_err-parts.ensures.errors [
      | inl memory ↦ inl memory
      | inr broken ↦ inr (broken.0, broken.1, of_parts broken.2)
    ])

pub returns-clause-errors : goal.returns-clause-errors
returns-clause-errors g c =
    let said = c.in_ok-parts.parts in
    let rule = c.in-Err.rule in
    let of_slices = subst (λ (made : Result Subtree ℕ). IfErr made (BreaksValueRule said.at_start said.at_end c.deref.result.now c.deref-2.result.now)) c.in-Err.is c.in_ok-subtree.ensures.broken in
    let of_nodes = subst (λ (counts : List (ℕ × ℕ)). BreaksValueRule said.at_start said.at_end counts c.deref-2.result.now rule) c.deref.ensures.value of_slices in
    let broken = subst (λ (nodes : List Node). BreaksValueRule said.at_start said.at_end said.counts.items nodes rule) c.deref-2.ensures.value of_nodes in
    inr (rule, refl, of_value c.in_ok-parts.ensures.parts broken)

pub returns-in-Ok-clause-reads : goal.returns-in-Ok-clause-reads
returns-in-Ok-clause-reads g c =
    let json = view c.args.value.now in
    let said = c.in_ok-parts.parts in
    let subtree = c.in-Ok.subtree in
    let of_slices = subst (λ (made : Result Subtree ℕ). IfOk made (IsMadeOf said.at_start said.at_end c.deref.result.now c.deref-2.result.now)) c.in-Ok.is c.in_ok-subtree.ensures.made in
    let of_nodes = subst (λ (counts : List (ℕ × ℕ)). IsMadeOf said.at_start said.at_end counts c.deref-2.result.now subtree) c.deref.ensures.value of_slices in
    let made = subst (λ (nodes : List Node). IsMadeOf said.at_start said.at_end said.counts.items nodes subtree) c.deref-2.ensures.value of_nodes in
    let from_start = subst (λ (b : Bool). ReadsParts json b said.at_end said.counts.items said.nodes.items) (sym made.start) c.in_ok-parts.ensures.parts in
    let parts = subst (λ (b : Bool). ReadsParts json subtree.at_start b said.counts.items said.nodes.items) (sym made.end) from_start in
    Reads-parts c.hex_text_tells_hashes_apart.ensures json subtree _ _ parts made.flat made.well_formed made.fits
