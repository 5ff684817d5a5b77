use Rattle.std.proofs.Common.{◌∙◌}
use Rattle.std.proofs.lemmas.Cmp.{nat_list_eq_equiv}
use Rattle.std.proofs.lemmas.List.Sorted.{list_any-IsPermutation}
use Rattle.std.proofs.lemmas.Map.Keys.{IsDistinct-IsPermutation}
use Rattle.upload_session.specs.Hashes.{hash_eq}
use Rattle.session_json.proofs.Rising.{rising}
use Rattle.session_json.proofs.writing.sorted_hashes.Goals as goal

pub returns : goal.returns
returns c = record {
  known = λ hash. c.in_ok-hashes.ensures.all hash ∙ list_any-IsPermutation (hash_eq hash) _ _ c.sort_unstable.ensures.permutation;
  rising = rising _ c.sort_unstable.ensures.sorted
      (IsDistinct-IsPermutation hash_eq nat_list_eq_equiv.symm _ _ c.sort_unstable.ensures.permutation c.in_ok-hashes.ensures.each_once);
}
