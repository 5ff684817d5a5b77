use Rattle.std.proofs.Common.{sym, subst, ◌∙◌}
use Rattle.std.specs.declared.alloc.Global.{Global}
use Rattle.upload_session.specs.Session.{HaveBoth, StandForBoth}
use Rattle.upload_session.specs.Subtrees.{subtrees}
use Rattle.yurewha_c.proofs.session_joining.join_other.Goals as goal

pub returns-clause-joined : goal.returns-clause-joined
returns-clause-joined c =
    let one = c.args.kept.now in
    let other = c.args.other.now in
    let joined = c.in_ok-count.ensures in
    let same = sym c.forget_unkept.ensures.runs in
    record {
      placed = subst (λ runs. StandForBoth {A = Global} subtrees one.session.runs other.session.runs runs) same joined.placed;
      taken = subst (λ runs. HaveBoth one.session.runs other.session.runs runs) same joined.taken;
      size = c.forget_unkept.ensures.size ∙ joined.size;
      learned = λ keeps. rw (c.forget_unkept.ensures.unchanged keeps) joined.learned;
      forgotten = λ none. c.forget_unkept.ensures.forgotten none;
      same_kind = c.forget_unkept.ensures.same_kind;
    }
