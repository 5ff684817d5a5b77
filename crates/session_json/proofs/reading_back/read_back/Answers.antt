use Rattle.std.proofs.Common.{arith, ◌≡◌, ◌<◌, ◌^◌, ℕ, Bool, true, false, not, true≢false, Option, IfSome, List, [], map, refl, sym, ap, subst, ◌∙◌}
use Rattle.std.proofs.lemmas.Slice.Eq.{bytes_eq-Decides}
use Rattle.json_text.specs.JsonText.{IsJsonText}
use Rattle.serde_json.specs.Written.{compact_text}
use Rattle.level_nodes.specs.FlatLevels.{count_of, count_sum, flat_nodes}
use Rattle.xet_roots.specs.Roots.{total_size}
use Rattle.subtree_levels.specs.Levels.{levels_size, node_count}
use Rattle.subtree_levels.specs.Subtree.{Subtree}
use Rattle.subtree_levels.specs.WellFormed.{IsWellFormed}
use Rattle.xet_merkle.specs.SubtreeJson.{subtree_json}
use Rattle.xet_merkle.proofs.Json.OneMeaning.{AreHashes, Reads-object}
use Rattle.xet_merkle.proofs.Levels.Flat.{levels_size-flat}
use Rattle.session_json.proofs.ReadBack.{count_sum-levels, subtree_utf8, subtree_shallow, subtree_reads}
use Rattle.session_json.proofs.reading_back.read_back.Goals as goal

equal : (b : Bool) → false ≡ not b → b ≡ true
equal true e = refl
equal false e = absurd (true≢false (sym e))

pub returns : goal.returns
returns c =
    let subtree : Subtree = c.in-Some.subtree in
    let same : c.as_slice.result.now ≡ c.args.text.now = (bytes_eq-Decides c.as_slice.result.now c.args.text.now).0 (equal _ c.if-ne.ensures) in
    let written : c.args.text.now ≡ compact_text (subtree_json subtree) = sym same ∙ c.as_slice.ensures.value ∙ c.in_ok-again.ensures in
    let size = c.subtree-2.invariant.size_is ∙ ap (λ (s : Subtree). levels_size s.levels) c.subtree-2.view_is in
    let fits : levels_size subtree.levels < 2 ^ 64 = subst (λ (n : ℕ). n < 2 ^ 64) size c.subtree-2.invariant.fits in
    let count = ap (λ (s : Subtree). node_count s.levels) c.subtree-2.view_is in
    let few : count_sum (map count_of subtree.levels) < 2 ^ 64 = omega (arith, c.subtree-2.invariant.few, count, count_sum-levels subtree.levels) in
    let flat : total_size (flat_nodes subtree.levels []) < 2 ^ 64 = omega (arith, fits, levels_size-flat subtree.levels) in
    let well_formed = subst (λ (read : Option Subtree). IfSome read IsWellFormed) c.in-Some.is c.in_ok-subtree.ensures.well_formed in
    let hashes = subst (λ (read : Option Subtree). IfSome read (λ s. AreHashes (flat_nodes s.levels []))) c.in-Some.is c.in_ok-subtree.ensures.hashes in
    let is_json : IsJsonText (compact_text (subtree_json subtree)) (subtree_json subtree) = record {
      utf8 = subtree_utf8 subtree few flat;
      shallow = subtree_shallow subtree few flat;
      value_is = subtree_reads subtree few flat;
    } in
    let says = Reads-object c.hex_text_tells_hashes_apart.ensures c.hex_text_is_lowercase_digits.ensures.digits c.hex_text_is_lowercase_digits.ensures.lowercase
    subtree hashes well_formed fits in (
      subtree_json subtree,
      subst (λ (text : List ℕ). IsJsonText text (subtree_json subtree)) (sym written) is_json,
      says,
    )
