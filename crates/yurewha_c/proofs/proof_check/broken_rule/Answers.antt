use Rattle.std.proofs.Common.{refl, arith}
use Rattle.std.proofs.lemmas.Bool.{false≢true}
use Rattle.yurewha_c.proofs.FlatProofs.{breaks_rule_5, breaks_rule_6, breaks_rule_7, breaks_rule_8, keeps_rules}
use Rattle.yurewha_c.proofs.proof_check.broken_rule.Goals as goal

pub returns-then-not-leave_a_chunk-clause-broken : goal.returns-then-not-leave_a_chunk-clause-broken
returns-then-not-leave_a_chunk-clause-broken c =
    breaks_rule_5 c.args.levels.now c.args.nodes.now (λ h. false≢true (c.if-not-leave_a_chunk.ensures.1 h))

pub returns-then-levels-gt-MAX_LEVELS-clause-broken : goal.returns-then-levels-gt-MAX_LEVELS-clause-broken
returns-then-levels-gt-MAX_LEVELS-clause-broken c =
    breaks_rule_6 c.args.levels.now c.args.nodes.now (c.if-not-leave_a_chunk.ensures.0 refl) (omega arith)

pub returns-then-not-have_few_beside-clause-broken : goal.returns-then-not-have_few_beside-clause-broken
returns-then-not-have_few_beside-clause-broken c =
    breaks_rule_7 c.args.levels.now c.args.nodes.now (c.if-not-leave_a_chunk.ensures.0 refl) (omega arith)
    (λ h. false≢true (c.if-not-have_few_beside.ensures.1 h))

pub returns-then-not-sizes_fit-clause-broken : goal.returns-then-not-sizes_fit-clause-broken
returns-then-not-sizes_fit-clause-broken c =
    breaks_rule_8 c.args.levels.now c.args.nodes.now (c.if-not-leave_a_chunk.ensures.0 refl) (omega arith)
    (c.if-not-have_few_beside.ensures.0 refl) (λ h. false≢true (c.if-not-sizes_fit.ensures.1 h))

pub returns-clause-kept : goal.returns-clause-kept
returns-clause-kept c =
    keeps_rules c.args.levels.now c.args.nodes.now (c.if-not-leave_a_chunk.ensures.0 refl) (omega arith)
    (c.if-not-have_few_beside.ensures.0 refl) (c.if-not-sizes_fit.ensures.0 refl)
