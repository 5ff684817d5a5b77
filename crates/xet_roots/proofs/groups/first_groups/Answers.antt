use Rattle.std.proofs.Common.{◌≡◌, ◌+◌, ◌<◌, ◌≤◌, length, take, drop, subst, sym, ap, ◌∙◌, arith, length-drop, length-set, length-take}
use Rattle.std.proofs.lemmas.List.{drop-drop}
use Rattle.std.proofs.lemmas.List.Sums.{sum_by-take-drop}
use Rattle.xet_roots.specs.Groups.{Node, IsGroup}
use Rattle.xet_roots.specs.Roots.{total_size}
use Rattle.xet_roots.proofs.Grouping.FirstGroups.{AreFirstGroups-more, StayFirstGroups-more}
use Rattle.xet_roots.proofs.Lists.Lent.{each_more, lent, lent_more}
use Rattle.xet_roots.proofs.Roots.Making.{total_size-drop-le}
use Rattle.xet_roots.proofs.groups.first_groups.Goals as goal

pub groups-preserved : goal.groups-preserved
groups-preserved c =
    let nodes = c.args.nodes.now in
    let groups = c.groups.groups in
    let count = c.groups.count in
    let read = c.groups.read in
    let rest = c.groups.rest.now in
    let inv = c.groups.invariant in
    let n = c.first_group_len-len.result in
    let group = c.split_at.result.0 in
    let after = c.split_at.result.1.now in
    let first = c.first_group_len-len.ensures.first in
    let some = first.is_group.not_empty in
    let front : group.now ≡ take n rest = c.split_at.ensures.front in
    let back : after ≡ drop n rest = c.split_at.ensures.back in
    let size : length rest + read ≡ length nodes = omega (arith, ap length inv.rest, length-drop read nodes) in
    let len = length-take n rest in
    let room : count < length groups = omega (arith, inv.room) in
    let smaller : total_size (take n rest) ≤ total_size nodes = omega (arith, sum_by-take-drop (λ (node : Node). node.1) rest n, total_size-drop-le read nodes, ap total_size inv.rest) in
    record {
      within = (omega arith, omega (arith, c.first_group_len-len.ensures.bound), omega (arith, c.first_group_len-len.ensures.bound));
      near = omega (arith, inv.near, first.is_group.at_most_nine, len, c.first_group_len-len.ensures.bound);
      none = λ e. absurd (omega arith);
      rest = back ∙ ap (drop n) inv.rest ∙ drop-drop n read nodes;
      room = length-set groups count group ∙ inv.room;
      first = rw (lent_more groups count group room, front, back) (AreFirstGroups-more nodes (take count (lent groups)) rest n first inv.first);
      stay = λ enough. rw (lent_more groups count group room, front, back)
          (StayFirstGroups-more nodes (take count (lent groups)) rest n (omega (arith, inv.near)) c.first_group_len-len.ensures.bound first (inv.stay enough));
      groups = each_more groups (λ _ g. IsGroup g) count group room inv.groups (subst IsGroup (sym front) first.is_group);
      sizes = each_more groups (λ _ g. total_size g ≤ total_size nodes) count group room inv.sizes (rw front smaller);
    }

pub returns-after-groups-clause-stay : goal.returns-after-groups-clause-stay
returns-after-groups-clause-stay c = λ enough. rw (sym c.groups.invariant.rest) (c.groups.invariant.stay enough)
