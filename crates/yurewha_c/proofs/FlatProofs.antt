-- Flat lists are those of a range proof if they keep the rules 5 to 8.
use Rattle.std.proofs.Common.{◌≡◌, ℕ, ◌+◌, ◌^◌, ◌<◌, ◌≤◌, List, [], ◌∷◌, length, map, refl, sym, ap, subst, ◌∙◌, arith}
use Rattle.std.specs.Prelude.{sum_by}
use Rattle.std.proofs.lemmas.List.Sums.{sum_by-cons}
use Rattle.std.proofs.lemmas.List.{length-map}
use Rattle.std.proofs.lemmas.List.Elements.{All-nil, All-cons, All-head, All-tail}
use Rattle.xet_roots.specs.Roots.{total_size}
use Rattle.level_nodes.specs.Level.{Level as Sides}
use Rattle.level_nodes.specs.FlatLevels.{count_of, count_sum, IsFlat}
use Rattle.level_nodes.proofs.FlatOf.{some_flat, IsFlat-length}
use Rattle.range_proof.specs.RangeProof.{Proof}
use Rattle.range_proof.specs.ProofJson.{HasFewBeside}
use Rattle.range_proof.specs.ProofJson.BreaksValueRule.{many_levels, many_beside, sizes_pass}
use Rattle.range_proof.specs.FlatProof.{BreaksFlatRule}
use Rattle.range_proof.specs.FlatProof.BreaksFlatRule.{no_chunk, of_proof}
use Rattle.range_proof.proofs.FlatOf.{IsFlat-size}
use Rattle.yurewha_c.specs.Chunks.{node_of, nodes_of}
use Rattle.yurewha_c.specs.FlatLists.{counts_of}
use Rattle.yurewha_c.specs.ProofLists.{AreOfProof, HaveFewBeside}
use Rattle.yurewha_c.specs.declared.chunks.Chunk.{Chunk}
use Rattle.yurewha_c.specs.declared.subtree_flat.Level.{Level}

-- ---- the counts of levels

pub count_sum_of_levels : (levels : List Level) → count_sum (counts_of levels) ≡ sum_by (λ level. level.left + level.right) levels
count_sum_of_levels [] = refl
count_sum_of_levels (level ∷ levels) =
    let all = sum_by-cons (λ (l : Level). l.left + l.right) level levels in
    let counts = sum_by-cons (λ (c : ℕ × ℕ). c.0 + c.1) (level.left, level.right) (counts_of levels) in
    let rest = count_sum_of_levels levels in
    omega arith

few_sides : (levels : List Level) (sides : List Sides) → counts_of levels ≡ map count_of sides → HaveFewBeside levels → HasFewBeside sides
few_sides [] [] e h = record {
  left = All-nil (λ (s : Sides). length s.left ≤ 8);
  right = All-nil (λ (s : Sides). length s.right ≤ 8);
}
few_sides [] (side ∷ sides) e h = cc e
few_sides (level ∷ levels) [] e h = cc e
few_sides (level ∷ levels) (side ∷ sides) e h =
    let head : (level.left, level.right) ≡ count_of side = cc in
    let tail : counts_of levels ≡ map count_of sides = cc in
    let few_left = All-head (λ (l : Level). l.left ≤ 8) level levels h.left in
    let few_right = All-head (λ (l : Level). l.right ≤ 8) level levels h.right in
    let rest = few_sides levels sides tail (record {
      left = All-tail (λ (l : Level). l.left ≤ 8) level levels h.left;
      right = All-tail (λ (l : Level). l.right ≤ 8) level levels h.right;
    }) in
    record {
      left = All-cons (λ (s : Sides). length s.left ≤ 8) side sides (subst (λ (c : ℕ × ℕ). c.0 ≤ 8) head few_left) rest.left;
      right = All-cons (λ (s : Sides). length s.right ≤ 8) side sides (subst (λ (c : ℕ × ℕ). c.1 ≤ 8) head few_right) rest.right;
    }

few_counts : (levels : List Level) (sides : List Sides) → counts_of levels ≡ map count_of sides → HasFewBeside sides → HaveFewBeside levels
few_counts [] [] e h = record {
  left = All-nil (λ (l : Level). l.left ≤ 8);
  right = All-nil (λ (l : Level). l.right ≤ 8);
}
few_counts [] (side ∷ sides) e h = cc e
few_counts (level ∷ levels) [] e h = cc e
few_counts (level ∷ levels) (side ∷ sides) e h =
    let head : (level.left, level.right) ≡ count_of side = cc in
    let tail : counts_of levels ≡ map count_of sides = cc in
    let few_left = All-head (λ (s : Sides). length s.left ≤ 8) side sides h.left in
    let few_right = All-head (λ (s : Sides). length s.right ≤ 8) side sides h.right in
    let rest = few_counts levels sides tail (record {
      left = All-tail (λ (s : Sides). length s.left ≤ 8) side sides h.left;
      right = All-tail (λ (s : Sides). length s.right ≤ 8) side sides h.right;
    }) in
    record {
      left = All-cons (λ (l : Level). l.left ≤ 8) level levels (subst (λ (c : ℕ × ℕ). c.0 ≤ 8) (sym head) few_left) rest.left;
      right = All-cons (λ (l : Level). l.right ≤ 8) level levels (subst (λ (c : ℕ × ℕ). c.1 ≤ 8) (sym head) few_right) rest.right;
    }

-- ---- the rules, one after another

module _ (levels : List Level) (nodes : List Chunk) where
  nodes_len : length (nodes_of nodes) ≡ length nodes
  nodes_len = length-map nodes node_of

  pub breaks_rule_5 : (count_sum (counts_of levels) < length nodes → ⊥) → BreaksFlatRule (counts_of levels) (nodes_of nodes) 5
  breaks_rule_5 none = no_chunk (let len = nodes_len in omega arith)

  module _ (some : count_sum (counts_of levels) < length nodes) where
    cut : (proof : Proof) × IsFlat (counts_of levels) (nodes_of nodes) proof.levels proof.chunks
    cut =
        let parts = some_flat (counts_of levels) (nodes_of nodes) (let len = nodes_len in omega arith) in
        (record { chunks = parts.between; levels = parts.levels }, parts.flat)

    cut_chunks : 0 < length cut.0.chunks
    cut_chunks =
        let len = nodes_len in
        let all = IsFlat-length (counts_of levels) (nodes_of nodes) cut.0.levels cut.0.chunks cut.1 in
        omega arith

    cut_levels : length cut.0.levels ≡ length levels
    cut_levels = sym (length-map cut.0.levels count_of) ∙ ap length (sym cut.1.counts_are) ∙ length-map levels (λ (l : Level). (l.left, l.right))

    pub breaks_rule_6 : 64 < length levels → BreaksFlatRule (counts_of levels) (nodes_of nodes) 6
    breaks_rule_6 many = of_proof cut.1 (many_levels cut_chunks (let same = cut_levels in omega arith))

    pub breaks_rule_7 : length levels ≤ 64 → (HaveFewBeside levels → ⊥) → BreaksFlatRule (counts_of levels) (nodes_of nodes) 7
    breaks_rule_7 few many =
        of_proof cut.1 (many_beside cut_chunks (let same = cut_levels in omega arith) (λ h. many (few_counts levels cut.0.levels cut.1.counts_are h)))

    pub breaks_rule_8 : length levels ≤ 64 → HaveFewBeside levels → (total_size (nodes_of nodes) < 2 ^ 64 → ⊥) →
        BreaksFlatRule (counts_of levels) (nodes_of nodes) 8
    breaks_rule_8 few beside past =
        let size = IsFlat-size (counts_of levels) (nodes_of nodes) cut.0 cut.1 in
        of_proof cut.1 (sizes_pass cut_chunks (let same = cut_levels in omega arith) (few_sides levels cut.0.levels cut.1.counts_are beside) (omega arith))

    pub keeps_rules : length levels ≤ 64 → HaveFewBeside levels → total_size (nodes_of nodes) < 2 ^ 64 → (proof : Proof) × AreOfProof levels nodes proof
    keeps_rules few beside fits =
        let same = cut_levels in
        let size = IsFlat-size (counts_of levels) (nodes_of nodes) cut.0 cut.1 in
        let sides = few_sides levels cut.0.levels cut.1.counts_are beside in (
          cut.0,
          record {
            flat = cut.1;
            well_formed = record {
              some = cut_chunks;
              few_levels = omega arith;
              few_left = sides.left;
              few_right = sides.right;
              fits = omega arith;
            };
          },
        )
