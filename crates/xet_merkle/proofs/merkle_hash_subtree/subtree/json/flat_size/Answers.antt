use Rattle.std.proofs.Common.{◌<◌, ◌≤◌, ◌^◌, length, refl, arith, rules}
use Rattle.std.proofs.lemmas.Bool.{false≢true}
use Rattle.std.proofs.lemmas.Bool.Decides.{nat_tests}
use Rattle.xet_roots.specs.Roots.{total_size}
use Rattle.xet_merkle.specs.JsonRules.BreaksValueRule.{no_level, wrong_counts, sizes_pass}
use Rattle.xet_merkle.proofs.merkle_hash_subtree.subtree.json.flat_size.Goals as goal

pub returns-then-is_empty-clause-breaks : goal.returns-then-is_empty-clause-breaks
returns-then-is_empty-clause-breaks c = λ at_start at_end. no_level (grind (arith, nat_tests, c.if-is_empty.ensures))

pub returns-then-not-add_up-clause-breaks : goal.returns-then-not-add_up-clause-breaks
returns-then-not-add_up-clause-breaks c =
    let some : 0 < length c.args.counts.now = grind (arith, nat_tests, c.if-is_empty.ensures) in
    λ at_start at_end. wrong_counts some (λ sum. false≢true (c.if-not-add_up.ensures.1 sum))

pub returns-in-None-clause-breaks : goal.returns-in-None-clause-breaks
returns-in-None-clause-breaks c =
    let some : 0 < length c.args.counts.now = grind (arith, nat_tests, c.if-is_empty.ensures) in
    let past : 2 ^ 64 ≤ total_size c.args.nodes.now = search rules in
    λ at_start at_end. sizes_pass some (c.if-not-add_up.ensures.0 refl) past
