use Rattle.std.proofs.Common.{replicate, subst}
use Rattle.upload_session.specs.Session.{Cover, HaveFileHash, HaveRoot}
use Rattle.upload_session.proofs.Whole.{root-of, file-of, root-placed, salted-placed, whole_cover}
use Rattle.upload_session.proofs.session.SessionOf.hashes.Given.{Over}
use Rattle.upload_session.proofs.session.SessionOf.hashes.Goals as goal

pub returns-in-Ok-clause-root : goal.returns-in-Ok-clause-root
returns-in-Ok-clause-root g c =
    subst (λ session. HaveRoot g.C.ChunkRange session.runs c.in-Ok.hashes.0) c.self.view_is
    (root-of g.C.ChunkRange (λ range. range.now) c.in-Ok.hashes.0 c.in-Ok.hashes.1 c.in_ok-whole.whole c.self.inside.runs
    c.in_ok-whole.ensures.none c.in_ok-whole.ensures.range c.in-Ok.ensures.none c.in-Ok.ensures.root)

pub returns-in-Ok-clause-file : goal.returns-in-Ok-clause-file
returns-in-Ok-clause-file g c =
    subst (λ session. HaveFileHash g.C.ChunkRange session.runs c.in-Ok.hashes.1) c.self.view_is
    (file-of g.C.ChunkRange (λ range. range.now) c.in-Ok.hashes.0 c.in-Ok.hashes.1 c.in_ok-whole.whole c.self.inside.runs
    c.in_ok-whole.ensures.none c.in_ok-whole.ensures.range c.in-Ok.ensures.none c.in-Ok.ensures.root c.in-Ok.ensures.salted)

-- the runs have the positions below the total
covered : (g : Over) (c : goal.In-Ok g) → Cover c.args.total c.args.self.now.runs
covered g c = subst (λ session. Cover c.args.total session.runs) c.self.view_is c.in_ok-whole.ensures.whole

pub returns-in-Ok-clause-placed_root : goal.returns-in-Ok-clause-placed_root
returns-in-Ok-clause-placed_root g c = λ placed stand.
    root-placed g.C.ChunkRange c.args.total c.args.self.now.runs placed c.in-Ok.hashes.0 stand (covered g c) (returns-in-Ok-clause-root g c)

pub returns-in-Ok-clause-placed_file : goal.returns-in-Ok-clause-placed_file
returns-in-Ok-clause-placed_file g c = λ placed stand.
    salted-placed g.C.ChunkRange (replicate 32 0) c.args.total c.args.self.now.runs placed c.in-Ok.hashes.1 stand (covered g c) (returns-in-Ok-clause-file g c)

pub returns-in-Ok-clause-whole : goal.returns-in-Ok-clause-whole
returns-in-Ok-clause-whole g c = whole_cover g.C.ChunkRange c.args.total c.args.self.now.runs

pub returns-in-Err-clause-whole : goal.returns-in-Err-clause-whole
returns-in-Err-clause-whole g c = whole_cover g.C.ChunkRange c.args.total c.args.self.now.runs

pub returns-in_err-whole-clause-whole : goal.returns-in_err-whole-clause-whole
returns-in_err-whole-clause-whole g c = whole_cover g.C.ChunkRange c.args.total c.args.self.now.runs
