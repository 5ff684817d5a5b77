use Rattle.std.proofs.Common.{◌≡◌, ℕ, List, [], ◌∷◌, ◌++◌, ◌<◌, ◌≤◌, ◌+◌, ◌-◌, length, map, take, drop, get_or, set, append_assoc, sym, ap, ◌∙◌, arith, length-set, length-drop}
use Rattle.std.proofs.lemmas.List.{take_more, take_more_set, drop-set-lt, drop-drop, take_rest}
use Rattle.xet_roots.specs.Groups.{Node}
use Rattle.xet_roots.specs.Roots.{parent}
use Rattle.xet_roots.specs.Steps.Scan.{AreParents}
use Rattle.xet_roots.proofs.Roots.Making.{LeadsTo-more, total_size-drop-le}
use Rattle.xet_roots.proofs.aggregated_hashes.shrink_several.Goals as goal

pub parents-preserved : goal.parents-preserved
parents-preserved g c =
    let j = c.parents.j in
    let made = c.batches.made in
    let read = c.batches.read in
    let nodes = c.parents.nodes.items in
    let first = c.first_parents-parents.result in
    let e = c.first_parents-parents.ensures in
    let inv = c.parents.invariant in
    let within = c.batches.invariant.within in
    let whole : take (length c.deref.result.now - read) (drop read c.deref.result.now) ≡ drop read c.batches.nodes.items =
    take_rest c.deref.result.now read ∙ ap (drop read) c.deref.ensures.value in
    let bound : first.2 ≤ length (drop read c.batches.nodes.items) = rw whole at e.within.2 in
    let left = length-drop read c.batches.nodes.items in
    let next : Node = get_or first.0 j c.index-parents-j.result in
    let place : made + (j + 1) ≡ made + j + 1 = omega arith in
    let room : made + j < length nodes = omega (arith, inv.size, e.within.1, c.batches.invariant.written) in
    record {
      size = length-set nodes (made + j) next ∙ inv.size;
      front = ap (λ (n : ℕ). take n (set nodes (made + j) next)) place ∙ take_more_set nodes (made + j) next room ∙ ap (λ (l : List Node). l ++ next ∷ []) inv.front
          ∙ append_assoc (take made c.batches.nodes.items) (take j first.0) (next ∷ [])
          ∙ ap (λ (l : List Node). take made c.batches.nodes.items ++ l) (sym (take_more first.0 j c.index-parents-j.result (omega (arith, e.size, e.within.0))));
      back = drop-set-lt (made + first.1) nodes (made + j) next (omega arith) ∙ inv.back;
    }

pub batches-preserved : goal.batches-preserved
batches-preserved g c =
    let made = c.batches.made in
    let read = c.batches.read in
    let before = c.batches.nodes.items in
    let nodes = c.parents.nodes.items in
    let start = c.args.nodes.now.items in
    let first = c.first_parents-parents.result in
    let e = c.first_parents-parents.ensures in
    let inv = c.batches.invariant in
    let all : c.parents.j ≡ first.1 = omega arith in
    let whole : take (length c.deref.result.now - read) (drop read c.deref.result.now) ≡ drop read before =
    take_rest c.deref.result.now read ∙ ap (drop read) c.deref.ensures.value in
    let bound : first.2 ≤ length (drop read before) = rw whole at e.within.2 in
    let left = length-drop read before in
    let groups = e.parents.0 in
    let are_first = rw whole at e.parents.1 in
    let more : ℕ = read + first.2 - (made + first.1) in
    let place : made + first.1 + more ≡ read + first.2 = omega (arith, inv.written, e.within.1) in
    let same_rest : drop (read + first.2) nodes ≡ drop first.2 (drop read before) =
    sym (ap (λ (n : ℕ). drop n nodes) place) ∙ sym (drop-drop more (made + first.1) nodes) ∙ ap (drop more) c.parents.invariant.back
    ∙ drop-drop more (made + first.1) before ∙ ap (λ (n : ℕ). drop n before) place ∙ sym (drop-drop first.2 read before) in
    let longer : take (made + first.1) nodes ≡ take made before ++ map parent groups =
    ap (λ (n : ℕ). take (made + n) nodes) (sym all) ∙ c.parents.invariant.front ∙ ap (λ (n : ℕ). take made before ++ take n first.0) all
    ∙ ap (λ (l : List Node). take made before ++ l) e.parents.2 in
    record {
      written = omega (arith, inv.written, e.within.1);
      within = omega (arith, c.parents.invariant.size, inv.within);
      so_far = rw (same_rest, longer) (LeadsTo-more parent (AreParents parent start) (take made before) (drop read before) groups (drop first.2 (drop read before)) are_first inv.so_far);
      fits = rw same_rest (omega (arith, total_size-drop-le first.2 (drop read before), inv.fits));
    }
