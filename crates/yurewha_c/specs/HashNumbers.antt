-- Hashes and their numbers, in lists side by side.
use Rattle.std.specs.Prelude.{◌≡◌, ℕ, List, is_some, map, unwrap_or}
use Rattle.std.specs.List.{zip}
use Rattle.hash_numbers.specs.Index.{Entry, number_of}
use Rattle.yurewha_c.specs.Pieces.{words_of}
use Rattle.yurewha_c.specs.Sessions.{one_if}
use Rattle.yurewha_c.specs.declared.hash.Hash.{Hash}

-- each hash with the number beside it
abbrev pub pairs_of : List Hash → List ℕ → List Entry
pairs_of hashes numbers = zip (words_of hashes) numbers

-- for each of some hashes: 1 and its number, or 0 and 0 if it has none
pub record AreNumbersOf (entries : List Entry) (hashes : List Hash) (found numbers : List ℕ) : Type 0 where
  pub which : found ≡ map (λ hash. one_if (is_some (number_of entries hash))) (words_of hashes)
  pub values : numbers ≡ map (λ hash. unwrap_or (number_of entries hash) 0) (words_of hashes)
