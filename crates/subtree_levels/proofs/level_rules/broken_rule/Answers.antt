use Rattle.std.proofs.Common.{refl}
use Rattle.std.proofs.lemmas.Bool.{false≢true}
use Rattle.subtree_levels.specs.LevelRules.BreaksLevelRule.{at_8, at_9, at_10, at_11, at_12, at_13}
use Rattle.subtree_levels.proofs.Rules.LevelRules.{below_9, below_10, below_11, below_12, below_13}
use Rattle.subtree_levels.proofs.level_rules.broken_rule.Goals as goal

pub returns-then-not-keep_rule_8-clause-broken : goal.returns-then-not-keep_rule_8-clause-broken
returns-then-not-keep_rule_8-clause-broken g c = at_8 (λ h. false≢true (c.if-not-keep_rule_8.ensures.1 h))

pub returns-then-not-keep_rule_9-clause-broken : goal.returns-then-not-keep_rule_9-clause-broken
returns-then-not-keep_rule_9-clause-broken g c = at_9 (below_9 _ _ _ (c.if-not-keep_rule_8.ensures.0 refl)) (λ h. false≢true (c.if-not-keep_rule_9.ensures.1 h))

pub returns-then-not-keep_rule_10-clause-broken : goal.returns-then-not-keep_rule_10-clause-broken
returns-then-not-keep_rule_10-clause-broken g c = at_10 (below_10 _ _ _ (c.if-not-keep_rule_8.ensures.0 refl) (c.if-not-keep_rule_9.ensures.0 refl)) (λ h. false≢true (c.if-not-keep_rule_10.ensures.1 h))

pub returns-then-not-keep_rule_11-clause-broken : goal.returns-then-not-keep_rule_11-clause-broken
returns-then-not-keep_rule_11-clause-broken g c = at_11 (below_11 _ _ _ (c.if-not-keep_rule_8.ensures.0 refl) (c.if-not-keep_rule_9.ensures.0 refl) (c.if-not-keep_rule_10.ensures.0 refl)) (λ h. false≢true (c.if-not-keep_rule_11.ensures.1 h))

pub returns-then-not-keep_rule_12-clause-broken : goal.returns-then-not-keep_rule_12-clause-broken
returns-then-not-keep_rule_12-clause-broken g c = at_12 (below_12 _ _ _ (c.if-not-keep_rule_8.ensures.0 refl) (c.if-not-keep_rule_9.ensures.0 refl) (c.if-not-keep_rule_10.ensures.0 refl) (c.if-not-keep_rule_11.ensures.0 refl)) (λ h. false≢true (c.if-not-keep_rule_12.ensures.1 h))

pub returns-then-not-keep_rule_13-clause-broken : goal.returns-then-not-keep_rule_13-clause-broken
returns-then-not-keep_rule_13-clause-broken g c = at_13 (below_13 _ _ _ (c.if-not-keep_rule_8.ensures.0 refl) (c.if-not-keep_rule_9.ensures.0 refl) (c.if-not-keep_rule_10.ensures.0 refl) (c.if-not-keep_rule_11.ensures.0 refl) (c.if-not-keep_rule_12.ensures.0 refl)) (λ h. false≢true (c.if-not-keep_rule_13.ensures.1 h))

pub returns-else-not-keep_rule_13-clause-kept : goal.returns-else-not-keep_rule_13-clause-kept
returns-else-not-keep_rule_13-clause-kept g c =
    record {
      some_level = c.requires;
      rule_8 = c.if-not-keep_rule_8.ensures.0 refl;
      rule_9 = c.if-not-keep_rule_9.ensures.0 refl;
      rule_10 = c.if-not-keep_rule_10.ensures.0 refl;
      rule_11 = c.if-not-keep_rule_11.ensures.0 refl;
      rule_12 = c.if-not-keep_rule_12.ensures.0 refl;
      rule_13 = c.if-not-keep_rule_13.ensures.0 refl;
    }
