use Rattle.std.proofs.Common.{ℕ, ◌≡◌, ◌<◌, ◌≤◌, ◌^◌, List, [], length, refl, sym, ap, subst, ◌∙◌}
use Rattle.xet_roots.specs.Groups.{Node}
use Rattle.xet_roots.specs.Roots.{total_size}
use Rattle.level_nodes.specs.FlatLevels.{count_sum, IsFlat}
use Rattle.level_nodes.proofs.FlatOf.{IsFlat-whole}
use Rattle.subtree_levels.specs.Levels.{Level, levels_size}
use Rattle.subtree_levels.specs.LevelRules.{BreaksLevelRule}
use Rattle.subtree_levels.specs.WellFormed.{IsWellFormed}
use Rattle.xet_merkle.specs.JsonRules.BreaksValueRule.{of_levels}
use Rattle.xet_merkle.specs.Steps.FlatMaking.{IsMadeOf}
use Rattle.xet_merkle.proofs.Levels.Flat.{levels_size-flat}
use Rattle.xet_merkle.proofs.merkle_hash_subtree.subtree.MerkleHashSubtree.from_lists.Goals as goal

-- levels that flat lists were cut into
module _ (counts : List (ℕ × ℕ)) (nodes : List Node) (levels : List Level) (between : List Node) (size : ℕ)
    (keeps : (0 < length counts) × (count_sum counts ≡ length nodes) × (size ≡ total_size nodes) × (size < 2 ^ 64)) (cut : IsFlat counts nodes levels between) where
  flat : IsFlat counts nodes levels []
  flat = IsFlat-whole counts nodes levels between keeps.1 cut

  small : total_size nodes < 2 ^ 64
  small = subst (λ (n : ℕ). n < 2 ^ 64) keeps.2 keeps.3

  size_is : levels_size levels ≡ size
  size_is = sym (levels_size-flat levels) ∙ ap total_size (sym flat.nodes_are) ∙ sym keeps.2

pub returns-in-Some-clause-broken : goal.returns-in-Some-clause-broken
returns-in-Some-clause-broken g c =
    let keeps = c.in-Ok.ensures.keeps in
    of_levels keeps.0 (flat _ _ _ _ _ keeps c.in_ok-levels.ensures) (small _ _ _ _ _ keeps c.in_ok-levels.ensures)
    (subst (λ (l : List Level). BreaksLevelRule c.args.at_start c.args.at_end l c.in-Some.rule) c.deref.ensures.value c.in-Some.ensures.broken)

pub from_levels-requires-clause-size : goal.from_levels-requires-clause-size
from_levels-requires-clause-size g c = size_is _ _ _ _ _ c.in-Ok.ensures.keeps c.in_ok-levels.ensures

pub returns-clause-made : goal.returns-clause-made
returns-clause-made g c =
    let keeps = c.in-Ok.ensures.keeps in
    subst (IsMadeOf c.args.at_start c.args.at_end c.args.counts.now c.args.nodes.now) (sym c.in_ok-from_levels.ensures)
    (record {
      start = refl;
      end = refl;
      flat = flat _ _ _ _ _ keeps c.in_ok-levels.ensures;
      well_formed = subst (λ (l : List Level). IsWellFormed (record { at_start = c.args.at_start; at_end = c.args.at_end; levels = l })) c.deref.ensures.value c.in_default.ensures.kept;
      fits = subst (λ (n : ℕ). n < 2 ^ 64) (sym (size_is _ _ _ _ _ keeps c.in_ok-levels.ensures)) keeps.3;
    })
