use Rattle.std.proofs.Common.{◌≡◌, ℕ, ◌+◌, ◌^◌, ◌<◌, ◌≤◌, List, length, sym, ap, subst, ◌∙◌}
use Rattle.std.proofs.lemmas.List.{map-id}
use Rattle.xet_roots.specs.Groups.{Node}
use Rattle.xet_roots.specs.Roots.{total_size, parent_by}
use Rattle.subtree_levels.specs.Levels.{Level}
use Rattle.subtree_levels.specs.Canonical.{IsCanonicalBy}
use Rattle.subtree_levels.specs.Steps.Building.{AddsCanonical}
use Rattle.subtree_levels.specs.Steps.LevelMerging.{inner_nodes, seen, Sight}
use Rattle.xet_roots.specs.Steps.Room.{most_made}
use Rattle.subtree_levels.proofs.in_sight.InSight.collapse.Goals as goal

-- the nodes collapsed are those in sight
module _ (shown sight : Sight) (view : shown ≡ sight) (nodes : List Node) where
  front_seen : nodes ≡ inner_nodes shown.front → seen sight ≡ inner_nodes sight.front → nodes ≡ seen sight
  front_seen is alone = is ∙ ap (λ (s : Sight). inner_nodes s.front) view ∙ sym alone

  seen_fits : nodes ≡ seen sight → total_size (seen sight) < 2 ^ 64 → total_size nodes < 2 ^ 64
  seen_fits is fits = subst (λ (l : List Node). total_size l < 2 ^ 64) (sym is) fits

  seen_room : (made : ℕ) → nodes ≡ seen sight → made + length (seen sight) ≤ most_made → made + length nodes ≤ most_made
  seen_room made is room = subst (λ (l : List Node). made + length l ≤ most_made) (sym is) room

  seen_collapsed : (make : List Node → Node) (levels all : List Level) (old now : ℕ) → nodes ≡ seen sight →
      AddsCanonical make shown.at_start shown.at_end nodes levels old all now → AddsCanonical make sight.at_start sight.at_end (seen sight) levels old all now
  seen_collapsed make levels all old now is added = (
    added.0,
    added.1,
    subst (λ (s : Sight). IsCanonicalBy make s.at_start s.at_end (seen sight) added.0 added.1) view
        (subst (λ (l : List Node). IsCanonicalBy make shown.at_start shown.at_end l added.0 added.1) is added.2),
    added.3,
    added.4,
  )

pub collapse_slice-requires-clause-fits : goal.collapse_slice-requires-clause-fits
collapse_slice-requires-clause-fits g c =
    let is = front_seen _ c.args.self.now c.self.view_is c.inner.result.now c.inner.ensures (c.is_front_alone.ensures c.if-is_front_alone.true) in
    rw (map-id c.inner.result.now) (seen_fits _ c.args.self.now c.self.view_is c.inner.result.now is c.requires.fits)

pub collapse_slice-requires-clause-room : goal.collapse_slice-requires-clause-room
collapse_slice-requires-clause-room g c =
    let is = front_seen _ c.args.self.now c.self.view_is c.inner.result.now c.inner.ensures (c.is_front_alone.ensures c.if-is_front_alone.true) in
    seen_room _ c.args.self.now c.self.view_is c.inner.result.now (g.P.ParentMaker.count c.args.maker.now) is c.requires.room

pub returns-then-is_front_alone : goal.returns-then-is_front_alone
returns-then-is_front_alone g c =
    let is = front_seen _ c.args.self.now c.self.view_is c.inner.result.now c.inner.ensures (c.is_front_alone.ensures c.if-is_front_alone.true) in
    seen_collapsed _ c.args.self.now c.self.view_is c.inner.result.now (parent_by g.P.ParentMaker.hash_of) _ _ _ _ is
    (rw (map-id c.inner.result.now) at c.in_ok-collapse_slice.ensures)

pub collapse-requires-clause-fits : goal.collapse-requires-clause-fits
collapse-requires-clause-fits g c = seen_fits _ c.args.self.now c.self.view_is c.in_ok-nodes.field-0.items c.in_ok-nodes.ensures c.requires.fits

pub collapse-requires-clause-room : goal.collapse-requires-clause-room
collapse-requires-clause-room g c =
    seen_room _ c.args.self.now c.self.view_is c.in_ok-nodes.field-0.items (g.P.ParentMaker.count c.args.maker.now) c.in_ok-nodes.ensures c.requires.room

pub returns : goal.returns
returns g c =
    seen_collapsed _ c.args.self.now c.self.view_is c.in_ok-nodes.field-0.items (parent_by g.P.ParentMaker.hash_of) _ _ _ _ c.in_ok-nodes.ensures c.in_ok-collapse.ensures
