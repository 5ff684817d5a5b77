use Rattle.std.proofs.Common.{rules, arith}
use Rattle.yurewha_c.proofs.HashPairs.{entries-all, entries-written}
use Rattle.yurewha_c.proofs.hash_index.write_entries.Goals as goal

pub pairs-preserved : goal.pairs-preserved
pairs-preserved c = record {
  written = entries-written c.args.entries.now c.pairs.hashes c.pairs.numbers c.pairs.i c.index-entries-i.result c.of.result
      c.pairs-test.true (omega (arith, c.pairs-test.true, c.pairs.invariant.hashes, c.requires.hashes))
      (omega (arith, c.pairs-test.true, c.pairs.invariant.numbers, c.requires.numbers)) c.index-entries-i.is c.of.ensures c.pairs.invariant.written;
  hashes = search (rules, c.pairs.invariant.hashes);
  numbers = search (rules, c.pairs.invariant.numbers);
}

pub returns : goal.returns
returns c = entries-all c.args.entries.now c.pairs.hashes c.pairs.numbers c.pairs.i c.pairs-test.false
    (omega (arith, c.pairs.invariant.hashes, c.requires.hashes)) (omega (arith, c.pairs.invariant.numbers, c.requires.numbers)) c.pairs.invariant.written
