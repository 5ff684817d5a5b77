use Rattle.std.proofs.Common.{sym, take, not, List, ap, subst, Vec, ◌&&◌, ◌+◌, ◌∙◌}
use Rattle.std.specs.Prelude.{is_some}
use Rattle.xet_hash.specs.FiniteMap.{value_at}
use Rattle.upload_session.specs.Hashes.{Hash, hash_eq, hashes_of, is_among}
use Rattle.upload_session.proofs.Hashes.{KeepsSoFar, keeps-none, keeps-old, keeps-new, among-next, given_up, given_up-listed}
use Rattle.upload_session.proofs.Refusals.{at_error}
use Rattle.upload_session.proofs.kept_hashes.SeenHashes.keep_into.Goals as goal
use Rattle.upload_session.proofs.kept_hashes.SeenHashes.keep_into.Goals.{then-not-contains_key+in_ok-push+in_ok-insert, else-not-contains_key}

pub chunks-init : goal.chunks-init
chunks-init g c = keeps-none c.args.self.now.hashes c.args.new.now.items c.requires

pub returns-in_err-push-clause-refused : goal.returns-in_err-push-clause-refused
returns-in_err-push-clause-refused g c =
    let done = take c.chunks.hash-index (hashes_of c.args.chunks.now) in
    at_error c.from_residual.result
    (given_up c.args.self.now.hashes c.chunks.self.hashes c.push.new.self.items done
    (subst (λ (new : List Hash). KeepsSoFar c.args.self.now.hashes c.chunks.self.hashes new done) (sym c.in_err-push.ensures.items) c.chunks.invariant))

pub returns-in_err-insert-clause-refused : goal.returns-in_err-insert-clause-refused
returns-in_err-insert-clause-refused g c =
    let done = take c.chunks.hash-index (hashes_of c.args.chunks.now) in
    let first = c.args.self.now.hashes in
    let now = c.chunks.self.hashes in
    let next = c.chunks-item.result.0 in
    let listed = given_up-listed first now c.chunks.new.items done c.chunks.invariant next (sym c.contains_key.ensures ∙ c.if-not-contains_key.true) in
    at_error c.from_residual-in_err-insert.result (λ (hash : Hash).
    listed hash
    ∙ ap (λ (new : List Hash). is_some (value_at hash_eq now hash) && not (is_among new hash)) (sym c.in_ok-push.ensures.items)
    ∙ ap (λ (map : List (Hash × Unit {0})). is_some (value_at hash_eq map hash) && not (is_among c.push.new.self.items hash)) (sym c.in_err-insert.ensures.refused))

pub chunks-preserved : goal.chunks-preserved
chunks-preserved g c =
    let done = take c.chunks.hash-index (hashes_of c.args.chunks.now) in
    let more = take (c.chunks.hash-index + 1) (hashes_of c.args.chunks.now) in
    let first = c.args.self.now.hashes in
    let now = c.chunks.self.hashes in
    let new = c.chunks.new.items in
    let chunk = c.chunks-item.result in
    let is = λ (hash : Hash). among-next c.args.chunks.now c.chunks.hash-index chunk hash c.chunks-test.true c.chunks-item.is in
    elim c.if-not-contains_key.branch [
      | then-not-contains_key+in_ok-push+in_ok-insert w ↦
          let kept = keeps-new first now new done c.chunks.invariant chunk.0 (sym c.contains_key.ensures ∙ w.if-not-contains_key.true) more is tt w.insert.new.self w.in_ok-insert.ensures.sets in
          let items = ap (λ (listed : Vec Hash g.row.A.Denot). listed.items) w.new-is ∙ w.in_ok-push.ensures.items in
          let listed = subst (λ (l : List Hash). KeepsSoFar first w.insert.new.self l more) (sym items) kept in
          subst (λ (map : List (Hash × Unit {0})). KeepsSoFar first map c.if-not-contains_key.new.items more) (sym (ap (λ seen. seen.hashes) w.self-is)) listed
      | else-not-contains_key w ↦
          let kept = keeps-old first now new done c.chunks.invariant chunk.0 (sym c.contains_key.ensures ∙ w.if-not-contains_key.false) more is in
          let listed = subst (λ (l : List Hash). KeepsSoFar first now l more) (sym (ap (λ (listed : Vec Hash g.row.A.Denot). listed.items) w.new-is)) kept in
          subst (λ (map : List (Hash × Unit {0})). KeepsSoFar first map c.if-not-contains_key.new.items more) (sym (ap (λ seen. seen.hashes) w.self-is)) listed
    ]
