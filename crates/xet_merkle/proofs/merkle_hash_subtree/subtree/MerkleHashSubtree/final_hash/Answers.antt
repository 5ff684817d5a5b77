use Rattle.std.proofs.Common.{◌≡◌, true, sym, ap, subst, ◌∙◌, rules}
use Rattle.std.proofs.lemmas.Bool.{false≢true}
use Rattle.xet_roots.specs.Roots.{IsRoot}
use Rattle.subtree_levels.specs.Levels.{Level, hash_of_first, top_of}
use Rattle.subtree_levels.specs.Subtree.{Subtree}
use Rattle.subtree_levels.proofs.OfLevels.Reading.{top_nodes-left}
use Rattle.subtree_levels.proofs.Canonical.FinalHash.{top_is_root}
use Rattle.xet_merkle.proofs.merkle_hash_subtree.subtree.MerkleHashSubtree.final_hash.Goals as goal
use Rattle.xet_merkle.proofs.merkle_hash_subtree.subtree.MerkleHashSubtree.final_hash.Goals.{then-self, else-self}

pub returns-clause-hash : goal.returns-clause-hash
returns-clause-hash g c =
    let top = c.top.ensures ∙ ap top_of c.levels.ensures.levels in
    c.first_hash.ensures
    ∙ ap hash_of_first (c.left.ensures ∙ ap (λ (level : Level). level.left) top ∙ top_nodes-left c.args.self.now.levels c.levels.ensures.well_formed.rule_8.0)

pub returns-clause-root : goal.returns-clause-root
returns-clause-root g c = λ chunks h.
    let both : c.if-self.value ≡ true = search rules in
    let start : c.self.inside.at_start ≡ true = elim c.if-self.branch [ then-self w ↦ w.if-self.true | else-self w ↦ sym w.value-is ∙ both ] in
    let end : c.self.inside.at_end ≡ true = elim c.if-self.branch [ then-self w ↦ sym w.value-is ∙ both | else-self w ↦ absurd (false≢true (sym w.if-self.false ∙ sym w.value-is ∙ both)) ] in
    let view = c.self.view_is in
    subst (IsRoot chunks) (sym (returns-clause-hash g c))
    (top_is_root c.args.self.now chunks (sym (ap (λ (s : Subtree). s.at_start) view) ∙ start) (sym (ap (λ (s : Subtree). s.at_end) view) ∙ end) h)
