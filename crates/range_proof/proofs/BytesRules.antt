-- The lowest rule that bytes break: there is one at most.
use Rattle.std.proofs.Common.{◌≡◌, ℕ, ◌≤◌, List, length, refl, sym, ap, subst, ◌∙◌, arith}
use Rattle.xet_roots.specs.Groups.{Node}
use Rattle.level_nodes.specs.FlatLevels.{count_sum, IsFlat}
use Rattle.level_nodes.proofs.FlatOf.{IsFlat-length}
use Rattle.range_proof.specs.RangeProof.{Proof}
use Rattle.range_proof.specs.ProofJson.{BreaksValueRule}
use Rattle.range_proof.specs.ProofJson.BreaksValueRule.{no_chunk, many_levels, many_beside, sizes_pass}
use Rattle.range_proof.specs.FlatProof.{BreaksFlatRule}
use Rattle.range_proof.specs.FlatProof.BreaksFlatRule.{no_chunk as none_left, of_proof}
use Rattle.range_proof.specs.ProofBytes.{AreNodes, BreakRule, list_bytes}
use Rattle.range_proof.specs.ProofBytes.BreakRule.{no_byte, few_counts, no_nodes, of_lists}
use Rattle.range_proof.proofs.BytesOf.{lists_whole, one_lists}
use Rattle.range_proof.proofs.FlatOf.{one_flat_proof}

-- ---- of a proof's parts

one_value_rule : (proof : Proof) (rule other : ℕ) → BreaksValueRule proof rule → BreaksValueRule proof other → rule ≡ other
one_value_rule proof rule other (no_chunk none) (no_chunk none') = refl
one_value_rule proof rule other (no_chunk none) (many_levels some many) = absurd (omega arith)
one_value_rule proof rule other (no_chunk none) (many_beside some few many) = absurd (omega arith)
one_value_rule proof rule other (no_chunk none) (sizes_pass some few beside past) = absurd (omega arith)
one_value_rule proof rule other (many_levels some many) (no_chunk none) = absurd (omega arith)
one_value_rule proof rule other (many_levels some many) (many_levels some' many') = refl
one_value_rule proof rule other (many_levels some many) (many_beside some' few many') = absurd (omega arith)
one_value_rule proof rule other (many_levels some many) (sizes_pass some' few beside past) = absurd (omega arith)
one_value_rule proof rule other (many_beside some few many) (no_chunk none) = absurd (omega arith)
one_value_rule proof rule other (many_beside some few many) (many_levels some' many') = absurd (omega arith)
one_value_rule proof rule other (many_beside some few many) (many_beside some' few' many') = refl
one_value_rule proof rule other (many_beside some few many) (sizes_pass some' few' beside past) = absurd (many beside)
one_value_rule proof rule other (sizes_pass some few beside past) (no_chunk none) = absurd (omega arith)
one_value_rule proof rule other (sizes_pass some few beside past) (many_levels some' many) = absurd (omega arith)
one_value_rule proof rule other (sizes_pass some few beside past) (many_beside some' few' many) = absurd (many beside)
one_value_rule proof rule other (sizes_pass some few beside past) (sizes_pass some' few' beside' past') = refl

-- ---- of flat lists

-- counts that leave no node for the chunks leave a proof none
no_chunk_of : (counts : List (ℕ × ℕ)) (nodes : List Node) (proof : Proof) → length nodes ≤ count_sum counts →
    IsFlat counts nodes proof.levels proof.chunks → length proof.chunks ≡ 0
no_chunk_of counts nodes proof none flat =
    let len = IsFlat-length counts nodes proof.levels proof.chunks flat in
    omega arith

one_flat_rule : (counts : List (ℕ × ℕ)) (nodes : List Node) (rule other : ℕ) → BreaksFlatRule counts nodes rule → BreaksFlatRule counts nodes other →
    rule ≡ other
one_flat_rule counts nodes rule other (none_left none) (none_left none') = refl
one_flat_rule counts nodes rule _ (none_left none) (of_proof {rule = other} {proof} flat broken) =
    one_value_rule proof 5 other (no_chunk (no_chunk_of counts nodes proof none flat)) broken
one_flat_rule counts nodes _ other (of_proof {rule} {proof} flat broken) (none_left none) =
    one_value_rule proof rule 5 broken (no_chunk (no_chunk_of counts nodes proof none flat))
one_flat_rule counts nodes _ _ (of_proof {rule} {proof} flat broken) (of_proof {rule = other} {proof = second} flat' broken') =
    one_value_rule proof rule other broken
    (subst (λ (p : Proof). BreaksValueRule p other) (one_flat_proof counts nodes second proof flat' flat) broken')

-- ---- of bytes

-- bytes that are those of flat lists break no rule of the form
lists_kept : (bytes : List ℕ) (counts : List (ℕ × ℕ)) (nodes : List Node) (rule other : ℕ) → bytes ≡ list_bytes counts nodes → AreNodes nodes →
    BreaksFlatRule counts nodes rule → BreakRule bytes other → rule ≡ other
lists_kept bytes counts nodes rule other e are broken (no_byte f) = absurd (omega (arith, ap length (sym e ∙ f)))
lists_kept bytes counts nodes rule other e are broken (few_counts {levels} {rest} f short) =
    let whole = lists_whole counts nodes levels rest are (sym e ∙ f) in
    absurd (omega arith)
lists_kept bytes counts nodes rule other e are broken (no_nodes {levels} {rest} f long part) =
    let whole = lists_whole counts nodes levels rest are (sym e ∙ f) in
    absurd (part (omega arith))
lists_kept bytes counts nodes rule _ e are broken (of_lists {rule = other} {counts = others} {nodes = more} f are' broken') =
    let same = one_lists others counts more nodes are' are (sym f ∙ e) in
    one_flat_rule counts nodes rule other broken
    (subst (λ (l : List Node). BreaksFlatRule counts l other) same.1 (subst (λ (c : List (ℕ × ℕ)). BreaksFlatRule c more other) same.0 broken'))

pub one_rule : (bytes : List ℕ) (rule other : ℕ) → BreakRule bytes rule → BreakRule bytes other → rule ≡ other
one_rule bytes rule other (no_byte e) (no_byte f) = refl
one_rule bytes rule other (no_byte e) (few_counts f short) = absurd (omega (arith, ap length (sym e ∙ f)))
one_rule bytes rule other (no_byte e) (no_nodes f long part) = absurd (omega (arith, ap length (sym e ∙ f)))
one_rule bytes rule other (few_counts e short) (no_byte f) = absurd (omega (arith, ap length (sym e ∙ f)))
one_rule bytes rule other (few_counts e short) (few_counts f short') = refl
one_rule bytes rule other (few_counts {levels} {rest} e short) (no_nodes {levels = others} {rest = more} f long part) =
    let whole = sym e ∙ f in
    let heads : levels ≡ others = cc in
    absurd (omega (arith, ap length whole))
one_rule bytes rule other (no_nodes e long part) (no_byte f) = absurd (omega (arith, ap length (sym e ∙ f)))
one_rule bytes rule other (no_nodes {levels} {rest} e long part) (few_counts {levels = others} {rest = more} f short) =
    let whole = sym e ∙ f in
    let heads : levels ≡ others = cc in
    absurd (omega (arith, ap length whole))
one_rule bytes rule other (no_nodes e long part) (no_nodes f long' part') = refl
one_rule bytes _ other (of_lists {rule} {counts} {nodes} e are broken) broken' = lists_kept bytes counts nodes rule other e are broken broken'
one_rule bytes rule _ broken (of_lists {rule = other} {counts} {nodes} e are broken') =
    sym (lists_kept bytes counts nodes other rule e are broken' broken)
