use Rattle.std.proofs.Common.{◌≡◌, ◌+◌, ◌-◌, ℕ, List, take, drop, sym, ap, subst, ◌∙◌, arith}
use Rattle.xet_roots.specs.Groups.{Node}
use Rattle.xet_roots.specs.Roots.{total_size}
use Rattle.range_proof.specs.RangeProof.{Proof, IsProofOf}
use Rattle.range_proof.specs.Proving.{Proves}
use Rattle.range_proof.proofs.TreeOf.{IsProofOf-from}
use Rattle.range_proof.proofs.hash_tree.HashTree.proof.Goals as goal

pub new-requires : goal.new-requires
new-requires g c =
    let nodes = c.args.self.now in
    let first = c.args.first in
    let end = c.args.end in
    let within = c.if-num_chunks-end.false in
    let len = c.num_chunks.ensures in
    let chunks : c.in_ok-chunks.chunks.items ≡ take (end - first) (drop first nodes) =
    c.in_ok-chunks.ensures.items_if_clones_equal (λ x y e i. (e.0 i, e.1 i)) ∙ ap (λ (l : List Node). take (end - first) (drop first l)) c.chunks-nodes.ensures.nodes in
    c.range_proofs_are_well_formed.ensures nodes first end _
    (IsProofOf-from nodes c.in_ok-chunks.chunks.items first end c.in_ok-levels.levels.items c.if-end-first.false (omega arith) chunks c.in_ok-levels.ensures)
    c.chunks-nodes.ensures.few c.chunks-nodes.ensures.fits

pub returns-clause-proves : goal.returns-clause-proves
returns-clause-proves g c =
    let nodes = c.args.self.now in
    let first = c.args.first in
    let end = c.args.end in
    let order = c.if-end-first.false in
    let within = c.if-num_chunks-end.false in
    let len = c.num_chunks.ensures in
    let chunks : c.in_ok-chunks.chunks.items ≡ take (end - first) (drop first nodes) =
    c.in_ok-chunks.ensures.items_if_clones_equal (λ x y e i. (e.0 i, e.1 i)) ∙ ap (λ (l : List Node). take (end - first) (drop first l)) c.chunks-nodes.ensures.nodes in
    let proof : Proof = record { chunks = c.in_ok-chunks.chunks.items; levels = c.in_ok-levels.levels.items } in
    let is : IsProofOf nodes first end proof =
    IsProofOf-from nodes c.in_ok-chunks.chunks.items first end c.in_ok-levels.levels.items order (omega arith) chunks c.in_ok-levels.ensures in
    let place = c.range_proofs_name_places.ensures.begins nodes first end proof 0 is (omega arith) in
    let same : first + 0 ≡ first = omega arith in
    let size = ap (λ (k : ℕ). total_size (take k nodes)) same in
    subst (Proves nodes first end) (sym c.new.ensures) (record {
      is_proof = is;
      shows = λ hash salt is_hash some. c.range_proofs_show_the_file_hash.ensures nodes first end proof hash salt is is_hash some;
      shows_root = λ root is_root some. c.range_proofs_show_the_root.ensures nodes first end proof root is is_root some;
      offset = omega (arith, place, size);
      size = c.range_proofs_name_places.ensures.size nodes first end proof is;
    })
