use Rattle.std.proofs.Common.{◌<◌, ℕ, List, [], ◌∷◌, ◌++◌, get_or, length, take, sym, ap, ◌∙◌, arith}
use Rattle.hash_numbers.specs.Index.{Entry}
use Rattle.yurewha_c.specs.HashNumbers.{pairs_of}
use Rattle.yurewha_c.specs.declared.hash.Hash.{Hash}
use Rattle.yurewha_c.proofs.HashPairs.{pairs-more, pairs-all}
use Rattle.yurewha_c.proofs.hash_index.pairs_of.Goals as goal

pub hashes-preserved : goal.hashes-preserved
hashes-preserved c =
    let i = c.hashes.i in
    let hashes = c.args.hashes.now in
    let numbers = c.args.numbers.now in
    let number = get_or numbers i 0 in
    let none : Hash = record { words = [] } in
    let in_numbers : i < length numbers = omega (arith, c.hashes-test.true, c.requires) in
    c.in_ok-push.ensures.items
    ∙ ap (λ (front : List Entry). front ++ (c.value.result, number) ∷ []) c.hashes.invariant
    ∙ ap (λ (words : List ℕ). take i (pairs_of hashes numbers) ++ (words, number) ∷ []) c.value.ensures.value
    ∙ sym (pairs-more hashes numbers i none 0 c.hashes-test.true in_numbers)

pub returns : goal.returns
returns c = c.hashes.invariant ∙ pairs-all c.args.hashes.now c.args.numbers.now c.hashes.i c.hashes-test.false
