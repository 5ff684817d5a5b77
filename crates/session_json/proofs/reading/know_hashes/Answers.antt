use Rattle.std.proofs.Common.{Bool, [], refl, sym, subst, if◌then◌else◌}
use Rattle.upload_session.specs.Hashes.{hashes_of, Knows}
use Rattle.session_json.proofs.Strict.{weaker}
use Rattle.session_json.proofs.reading.know_hashes.Goals as goal

pub returns-then-not-keep_hashes-clause-known : goal.returns-then-not-keep_hashes-clause-known
returns-then-not-keep_hashes-clause-known c =
    subst (λ (keep : Bool). Knows c.args.session.now.kept (if keep then hashes_of c.args.hashes.now else [])) (sym c.if-not-keep_hashes.true) c.requires

pub returns-clause-known : goal.returns-clause-known
returns-clause-known c = weaker _ _ (λ _ learned.
    subst (λ (keep : Bool). Knows c.keep_hashes.new.self.kept (if keep then hashes_of c.args.hashes.now else [])) (sym c.if-not-keep_hashes.false)
    (learned [] (hashes_of c.args.hashes.now) c.requires (λ hash. refl))) _ c.keep_hashes.ensures.learned
