use Rattle.std.proofs.Common.{◌++◌, ◌∷◌, [], refl, sym, take, List, ap, subst, Vec, ◌+◌, ◌∙◌}
use Rattle.std.specs.Prelude.{Ok, OnErr, Result, Err}
use Rattle.hash_numbers.specs.Index.{Entry, Hash}
use Rattle.hash_numbers.specs.Steps.Removing.{IsWithout}
use Rattle.hash_numbers.proofs.Numbers.{PutSoFar, puts-none, puts-old, puts-new, puts-next, back-listed}
use Rattle.hash_numbers.proofs.index.put_new.Goals as goal
use Rattle.hash_numbers.proofs.index.put_new.Goals.{then-not-contains_key+in_ok-push+in_ok-insert, else-not-contains_key}

-- what holds anyway
at_error : {T E P : Type 0} (result : Result T E) → P → OnErr result P
at_error (Ok value) holds = tt
at_error (Err error) holds = holds

pub pairs-init : goal.pairs-init
pairs-init g c = puts-none c.args.map.now c.args.added.now.items c.requires

pub returns-in_err-push-clause-refused : goal.returns-in_err-push-clause-refused
returns-in_err-push-clause-refused g c =
    at_error c.from_residual.result
    (subst (λ (added : List Hash). IsWithout c.pairs.map added c.args.map.now) (sym c.in_err-push.ensures.items) c.pairs.invariant.back)

pub returns-in_err-insert-clause-refused : goal.returns-in_err-insert-clause-refused
returns-in_err-insert-clause-refused g c =
    let first = c.args.map.now in
    let now = c.pairs.map in
    let next = c.pairs-item.result in
    let listed = back-listed first now now c.pairs.added.items next.0 c.pairs.invariant.back (sym c.contains_key.ensures ∙ c.if-not-contains_key.true) (λ hash other. refl) in
    at_error c.from_residual-in_err-insert.result
    (subst (λ (map : List Entry). IsWithout map c.push.new.self.items first) (sym c.in_err-insert.ensures.refused)
    (subst (λ (added : List Hash). IsWithout now added first) (sym c.in_ok-push.ensures.items) listed))

pub pairs-preserved : goal.pairs-preserved
pairs-preserved g c =
    let i = c.pairs.hash-index in
    let pairs = c.args.pairs.now in
    let first = c.args.map.now in
    let now = c.pairs.map in
    let added = c.pairs.added.items in
    let next = c.pairs-item.result in
    elim c.if-not-contains_key.branch [
      | then-not-contains_key+in_ok-push+in_ok-insert w ↦
          let put = puts-new first now added (take i pairs) next w.insert.new.self c.pairs.invariant (sym c.contains_key.ensures ∙ w.if-not-contains_key.true) w.in_ok-insert.ensures.sets in
          let more = puts-next first w.insert.new.self (added ++ next.0 ∷ []) pairs i next c.pairs-test.true c.pairs-item.is put in
          let items = ap (λ (listed : Vec Hash g.row.A.Denot). listed.items) w.added-is ∙ w.in_ok-push.ensures.items in
          let listed = subst (λ (l : List Hash). PutSoFar first w.insert.new.self l (take (i + 1) pairs)) (sym items) more in
          subst (λ (map : List Entry). PutSoFar first map c.if-not-contains_key.added.items (take (i + 1) pairs)) (sym w.map-is) listed
      | else-not-contains_key w ↦
          let put = puts-old first now added (take i pairs) next c.pairs.invariant (sym c.contains_key.ensures ∙ w.if-not-contains_key.false) in
          let more = puts-next first now added pairs i next c.pairs-test.true c.pairs-item.is put in
          let listed = subst (λ (l : List Hash). PutSoFar first now l (take (i + 1) pairs)) (sym (ap (λ (listed : Vec Hash g.row.A.Denot). listed.items) w.added-is)) more in
          subst (λ (map : List Entry). PutSoFar first map c.if-not-contains_key.added.items (take (i + 1) pairs)) (sym w.map-is) listed
    ]
