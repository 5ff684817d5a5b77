use borrow.Author.Tests.{ltb-true, ltb-false}
use Rattle.std.proofs.Common.{arith, length, sym, ap}
use Rattle.session_json.proofs.JsonValues.{four_long, reads_hash}
use Rattle.session_json.proofs.lists.read_hash.Goals as goal
use Rattle.session_json.proofs.lists.read_hash.Goals.{in_default-via-then-as_slice-lt4, in_default-via-else-as_slice-lt4+else-this-lt5}

pub returns-in_default-clause-none : goal.returns-in_default-clause-none
returns-in_default-clause-none c = λ hash h.
    let four = four_long _ c.in_ok-as_array.field-0.now.items hash (sym c.in_ok-as_array.ensures) h in
    let same = ap length c.as_slice.ensures.value in
    elim c.in_default.branch [
      | in_default-via-then-as_slice-lt4 w ↦ omega (arith, ltb-true)
      | in_default-via-else-as_slice-lt4+else-this-lt5 w ↦ omega (arith, ltb-true, ltb-false)
    ]

pub returns-clause-some : goal.returns-clause-some
returns-clause-some c =
    reads_hash c.args.value.now c.in_ok-as_array.field-0.now.items c.as_slice.result.now c.a-item.result c.b-item.result c.c-item.result c.d-item.result
    c.in_ok-as_u64.field-0 c.in_ok-as_u64-2.field-0 c.in_ok-as_u64-3.field-0 c.in_ok-as_u64-4.field-0 c.from.result
    (sym c.in_ok-as_array.ensures) c.as_slice.ensures.value c.in-len4.len_at_least c.in-len4.len_below c.a-item.is c.b-item.is c.c-item.is c.d-item.is
    (sym c.in_ok-as_u64.ensures) (sym c.in_ok-as_u64-2.ensures) (sym c.in_ok-as_u64-3.ensures) (sym c.in_ok-as_u64-4.ensures) c.from.ensures
