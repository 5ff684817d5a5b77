use Rattle.std.proofs.Common.{◌≡◌, [], arith, length, subst, sym, ap, ◌∙◌, rules}
use Rattle.std.proofs.lemmas.List.{length-map, nil_from_length}
use Rattle.std.specs.declared.alloc.Global.{Global}
use Rattle.upload_session.specs.Subtrees.{subtrees}
use Rattle.upload_session.specs.Session.{place, CountsNew, LearnsHashes, StandFor}
use Rattle.yurewha_c.specs.Chunks.{node_of, nodes_of}
use Rattle.yurewha_c.specs.Sessions.{seen_hashes}
use Rattle.yurewha_c.proofs.session.put_chunks.Goals as goal

pub returns-then-is_empty-clause-placed : goal.returns-then-is_empty-clause-placed
returns-then-is_empty-clause-placed c =
    let h : length c.args.chunks.now ≡ 0 = search rules in
    let e : nodes_of c.args.chunks.now ≡ [] = ap nodes_of (nil_from_length c.args.chunks.now h) in
    rw e c.put.ensures.placed

pub returns-clause-placed : goal.returns-clause-placed
returns-clause-placed c = λ placed stands.
    let e : c.deref.result.now ≡ nodes_of c.args.chunks.now = c.deref.ensures.value ∙ c.in_ok-nodes.ensures in
    subst (λ runs. StandFor {A = Global} subtrees runs (place placed c.args.first (nodes_of c.args.chunks.now))) (sym c.forget_unkept.ensures.runs)
    (rw e at (c.in_ok-count.ensures.placed placed stands))

pub returns-clause-learned : goal.returns-clause-learned
returns-clause-learned c = λ some keeps.
    let e : c.deref.result.now ≡ nodes_of c.args.chunks.now = c.deref.ensures.value ∙ c.in_ok-nodes.ensures in
    let long = length-map c.args.chunks.now node_of in
    rw (c.forget_unkept.ensures.unchanged keeps)
    (subst (λ nodes. LearnsHashes seen_hashes c.args.kept.now.session.kept nodes c.put-2.new.self.kept) e
    (c.in_ok-count.ensures.learned (omega (arith, some, long, ap length e))))

pub returns-clause-new : goal.returns-clause-new
returns-clause-new c = λ some.
    let e : c.deref.result.now ≡ nodes_of c.args.chunks.now = c.deref.ensures.value ∙ c.in_ok-nodes.ensures in
    let long = length-map c.args.chunks.now node_of in
    subst (λ nodes. CountsNew seen_hashes c.args.kept.now.session.kept nodes c.in_ok-count.count) e
    (c.in_ok-count.ensures.new (omega (arith, some, long, ap length e)))
