use Rattle.std.proofs.Common.{length, sym, ap, arith}
use Rattle.xet_merkle.proofs.Json.Reading.{two_counts}
use Rattle.xet_merkle.proofs.merkle_hash_subtree.json_parts.read_counts.Goals as goal

pub returns-in_default-clause-none : goal.returns-in_default-clause-none
returns-in_default-clause-none c = λ count h.
    let two = two_counts _ c.in_ok-as_array.field-0.now.items count (sym c.in_ok-as_array.ensures) h in
    let same = ap length c.as_slice.ensures.value in
    omega arith

pub returns-in_default-2-clause-none : goal.returns-in_default-2-clause-none
returns-in_default-2-clause-none c = λ count h.
    let two = two_counts _ c.in_ok-as_array.field-0.now.items count (sym c.in_ok-as_array.ensures) h in
    let same = ap length c.as_slice.ensures.value in
    omega arith
