use Rattle.std.proofs.Common.{Bool, cond, get_or, eqb, ap, ◌∙◌, arith}
use Rattle.std.proofs.lemmas.Simd.{length-sel_l}
use Rattle.std.proofs.lemmas.Bool.{eq-eqb, eqb-true, false_from_ne_true}
use Rattle.keyed_blake3.proofs.Blake3.Messages.{chosen_at}
use Rattle.keyed_blake3.proofs.messages.chosen.Goals as goal

pub returns-clause-full : goal.returns-clause-full
returns-clause-full g c = omega (arith, c.requires.full.0, c.requires.full.1, c.requires.full.2, length-sel_l)

pub returns-clause-yes : goal.returns-clause-yes
returns-clause-yes g c = λ j h e.
    let x = c.args.x.now in
    let yes = c.args.yes.now in
    let no = c.args.no.now in
    chosen_at g.row.L c.args.n j x yes no c.lanes_of.result c.requires.full.0 c.requires.full.1 c.requires.full.2
    (rw (c.vector.ensures, c.vector-2.ensures, c.vector-3.ensures) at c.lanes_of.ensures) h
    ∙ ap (λ (b : Bool). cond b (get_or yes j 0) (get_or no j 0)) (eq-eqb (get_or x j 0) c.args.n e)

pub returns-clause-no : goal.returns-clause-no
returns-clause-no g c = λ j h e.
    let x = c.args.x.now in
    let yes = c.args.yes.now in
    let no = c.args.no.now in
    chosen_at g.row.L c.args.n j x yes no c.lanes_of.result c.requires.full.0 c.requires.full.1 c.requires.full.2
    (rw (c.vector.ensures, c.vector-2.ensures, c.vector-3.ensures) at c.lanes_of.ensures) h
    ∙ ap (λ (b : Bool). cond b (get_or yes j 0) (get_or no j 0)) (false_from_ne_true (eqb (get_or x j 0) c.args.n) (λ t. e (eqb-true (get_or x j 0) c.args.n t)))
