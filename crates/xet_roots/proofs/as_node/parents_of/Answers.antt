use Rattle.std.proofs.Common.{◌≡◌, ℕ, ◌≤◌, length, map, drop, sym, ap, ◌∙◌, arith, length-drop}
use Rattle.std.proofs.lemmas.List.{drop-map, take_all}
use Rattle.xet_roots.specs.Roots.{parent_by}
use Rattle.xet_roots.specs.Steps.Scan.{AreParents}
use Rattle.xet_roots.proofs.Grouping.FirstGroups.{AreFirstGroups-of_piece}
use Rattle.xet_roots.proofs.Roots.Making.{LeadsTo-more, LeadsTo-pushed, total_size-drop-le}
use Rattle.xet_roots.proofs.Roots.Pieces.{piece_fits, piece_joins, piece_size}
use Rattle.xet_roots.proofs.as_node.parents_of.Goals as goal

pub push_first_parents-requires-clause-fits : goal.push_first_parents-requires-clause-fits
push_first_parents-requires-clause-fits g c =
    let node = g.T.AsNode.node_of in
    let rest = c.pieces.rest.now in
    let piece = c.read_piece.new.piece.items in
    let joined = piece_joins node 576 rest piece c.in_ok-read_piece.ensures in
    rw c.deref.ensures.value (omega (arith, piece_fits node rest piece (map node (drop 576 rest)) joined, c.pieces.invariant.fits, c.requires.fits))

pub split_at-requires : goal.split_at-requires
split_at-requires g c =
    let piece = c.read_piece.new.piece.items in
    let size = piece_size g.T.AsNode.node_of 576 c.pieces.rest.now piece (omega arith) c.in_ok-read_piece.ensures in
    omega (arith, ap length c.deref.ensures.value, c.in_ok-read.ensures.within.1, size)

pub pieces-preserved : goal.pieces-preserved
pieces-preserved g c =
    let node = g.T.AsNode.node_of in
    let make = parent_by g.P.ParentMaker.hash_of in
    let wanted = AreParents make (map node c.args.nodes.now) in
    let made = c.pieces.made.items in
    let rest = c.pieces.rest.now in
    let piece = c.read_piece.new.piece.items in
    let inv = c.pieces.invariant in
    let e = c.in_ok-read.ensures in
    let read : ℕ = c.in_ok-read.read in
    let size = piece_size node 576 rest piece (omega arith) c.in_ok-read_piece.ensures in
    let joined = piece_joins node 576 rest piece c.in_ok-read_piece.ensures in
    let groups = e.parents.0 in
    let whole = c.deref.ensures.value in
    let within : read ≤ length piece = rw whole at e.within.1 in
    let stay = rw whole at e.parents.3 in
    let are_first = AreFirstGroups-of_piece (map node rest) piece (map node (drop 576 rest)) groups read within joined (stay (omega (arith, size))) in
    let after : c.split_at.result.1.now ≡ drop read rest = c.split_at.ensures.back in
    let mapped : map node c.split_at.result.1.now ≡ drop read (map node rest) = ap (map node) after ∙ sym (drop-map node read rest) in
    let left = length-drop read rest in
    record {
      so_far = rw (mapped, e.parents.2) (LeadsTo-more make wanted made (map node rest) groups (drop read (map node rest)) are_first inv.so_far);
      fits = rw mapped (omega (arith, total_size-drop-le read (map node rest), inv.fits));
      count = omega (arith, inv.count, e.count);
      few = rw after (omega (arith, e.few, within, size, inv.few));
    }

pub push_parents-requires-clause-fits : goal.push_parents-requires-clause-fits
push_parents-requires-clause-fits g c =
    let rest = c.pieces.rest.now in
    let all : c.deref-2.result.now ≡ map g.T.AsNode.node_of rest =
    c.deref-2.ensures.value ∙ c.in_ok-read_piece-2.ensures ∙ ap (map g.T.AsNode.node_of) (take_all 576 rest (omega arith)) in
    rw all (omega (arith, c.pieces.invariant.fits, c.requires.fits))

pub returns-clause-count : goal.returns-clause-count
returns-clause-count g c = omega (arith, c.pieces.invariant.count, c.in_ok-push_parents.ensures.count)

pub returns-clause-parents : goal.returns-clause-parents
returns-clause-parents g c =
    let node = g.T.AsNode.node_of in
    let make = parent_by g.P.ParentMaker.hash_of in
    let rest = c.pieces.rest.now in
    let all : c.deref-2.result.now ≡ map node rest = c.deref-2.ensures.value ∙ c.in_ok-read_piece-2.ensures ∙ ap (map node) (take_all 576 rest (omega arith)) in
    let pushed = rw all at c.in_ok-push_parents.ensures.parents in
    LeadsTo-pushed make (AreParents make (map node c.args.nodes.now)) c.pieces.made.items (map node rest) c.push_parents.new.made.items pushed c.pieces.invariant.so_far
