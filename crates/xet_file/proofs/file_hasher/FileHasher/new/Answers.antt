use Rattle.std.proofs.Common.{◌≡◌, ℕ, List, [], ◌++◌, refl, sym, ap, ◌∙◌, arith}
use Rattle.xet_chunker.specs.Pieces.{joined}
use Rattle.xet_file.specs.FileHasher.{ends_of, Holds}
use Rattle.xet_file.proofs.file_hasher.FileHasher.new.Goals as goal

pub returns-clause-empty : goal.returns-clause-empty
unfolding joined ends_of
returns-clause-empty g c = record {
  ended = [];
  open_chunk = [];
  file_is = refl;
  cut = c.new.ensures;
  hashed = c.new_keyed.ensures.message;
  cuts_are = λ rest. refl;
  ranged = [];
  nodes = sym c.new-2.ensures.items;
  stands = c.in_ok-from_chunks.ensures.stands;
  start = c.in_ok-from_chunks.ensures.start;
  end = c.in_ok-from_chunks.ensures.end;
  total = c.in_ok-from_chunks.ensures.total;
  size_is = refl;
  fits = omega arith;
}

pub invariant_of-result : goal.invariant_of-result
unfolding joined ends_of
invariant_of-result g c = (
  [],
  record {
    ended = [];
    open_chunk = [];
    file_is = refl;
    cut = c.new.ensures;
    hashed = c.new_keyed.ensures.message;
    cuts_are = λ rest. refl;
    ranged = [];
    nodes = sym c.new-2.ensures.items;
    stands = c.in_ok-from_chunks.ensures.stands;
    start = c.in_ok-from_chunks.ensures.start;
    end = c.in_ok-from_chunks.ensures.end;
    total = c.in_ok-from_chunks.ensures.total;
    size_is = refl;
    fits = omega arith;
  },
)
