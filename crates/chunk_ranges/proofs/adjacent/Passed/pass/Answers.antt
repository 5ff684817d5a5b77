use Rattle.std.proofs.Common.{ℕ, ◌+◌, ◌<◌, ◌^◌, ◌↔◌, IsTrue, sym}
use Rattle.std.specs.Prelude.{SomeIff}
use Rattle.chunk_ranges.specs.Steps.Adjacent.{Follows}
use Rattle.chunk_ranges.proofs.Ranges.Adjacent.{IsPassed-push}
use Rattle.chunk_ranges.proofs.adjacent.Passed.pass.Goals as goal

pub returns : goal.returns
returns g c = λ ranges h.
    let start = g.R.ChunkRange.start in
    let end = g.R.ChunkRange.end in
    let total = g.R.ChunkRange.total in
    let range = c.args.range.now in
    let marks : IsTrue c.stay_unmarked.result ↔ (IsTrue c.args.self.no_mark_between × Follows c.args.self.last_end (start range)) =
    rw (sym c.at_start.ensures) c.stay_unmarked.ensures in
    let adds : (n : ℕ) → SomeIff c.args.self.total (n < 2 ^ 64) n → SomeIff c.add_size.result (n + total range < 2 ^ 64) (n + total range) =
    rw (sym c.total_size.ensures.total) c.add_size.ensures in
    rw c.at_end.ensures (IsPassed-push start end total c.args.self ranges range h c.stay_unmarked.result marks c.add_size.result adds)
