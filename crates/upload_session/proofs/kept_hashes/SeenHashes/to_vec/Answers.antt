use Rattle.std.proofs.Common.{List, sym, subst}
use Rattle.std.specs.List.{IsDistinct}
use Rattle.upload_session.specs.Hashes.{Hash, hash_eq, Knows}
use Rattle.upload_session.proofs.Hashes.{among-keys, listed-all, listed-next}
use Rattle.upload_session.proofs.kept_hashes.SeenHashes.to_vec.Goals as goal

pub returns-clause-all : goal.returns-clause-all
returns-clause-all g c =
    let entries = c.args.self.now.hashes in
    let listed = listed-all c.entries-hash-items.result.now entries c.entries.hashes.items c.entries.hash-index c.entries.invariant c.entries-test.false c.entries-hash-items.ensures.entries in
    subst (λ (hashes : List Hash). Knows c.args.self.now hashes) (sym listed) (among-keys entries)

pub returns-clause-each_once : goal.returns-clause-each_once
returns-clause-each_once g c =
    let entries = c.args.self.now.hashes in
    let listed = listed-all c.entries-hash-items.result.now entries c.entries.hashes.items c.entries.hash-index c.entries.invariant c.entries-test.false c.entries-hash-items.ensures.entries in
    subst (λ (hashes : List Hash). IsDistinct hash_eq hashes) (sym listed) c.entries-hash-items.ensures.map

pub entries-preserved : goal.entries-preserved
entries-preserved g c =
    listed-next c.entries-hash-items.result.now c.entries.hashes.items c.push.new.self.items c.entries.hash-index c.entries-item.result c.entries-test.true c.entries-item.is
    c.entries.invariant c.in_ok-push.ensures.items
