use Rattle.std.proofs.Common.{arith, List, length, sym, ap, subst, ◌∙◌}
use Rattle.std.specs.List.{IsDistinct}
use Rattle.upload_session.specs.Hashes.{Hash, hash_eq, Knows}
use Rattle.yurewha_c.proofs.session_saving.write_hashes.Goals as goal

pub write_known-requires : goal.write_known-requires
write_known-requires c =
    let counted = c.num_known_hashes.ensures c.in-Ok.known.items c.in-Ok.ensures.all c.in-Ok.ensures.each_once in
    omega (arith, counted, ap length c.deref.ensures.value, c.if-hashes-num_known_hashes.false)

pub returns-clause-all : goal.returns-clause-all
returns-clause-all c = λ _.
    subst (λ (hashes : List Hash). Knows c.args.kept.now.session.kept hashes) (sym (c.write_known.ensures ∙ c.deref.ensures.value)) c.in-Ok.ensures.all

pub returns-clause-each_once : goal.returns-clause-each_once
returns-clause-each_once c = λ _.
    subst (λ (hashes : List Hash). IsDistinct hash_eq hashes) (sym (c.write_known.ensures ∙ c.deref.ensures.value)) c.in-Ok.ensures.each_once
