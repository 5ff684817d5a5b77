use Rattle.std.proofs.Common.{replicate}
use Rattle.xetrange_text.proofs.laws.verified_bytes_are_those_of_the_file.Goals as goal

pub returns : goal.returns
returns c = λ file_hash text output from to file verified is_hash.
    let proof = verified.proof in
    let json = verified.says.0 in
    let reads = verified.says.2 in
    let formed = c.json_says_well_formed_range_proofs.ensures.well_formed json proof reads in
    let hashes = c.json_says_well_formed_range_proofs.ensures.hashes json proof reads in
    let sound = c.bytes_that_are_read_are_those_of_the_file.ensures.file_hash proof from to _ output hashes formed verified.is_read in
    let found = sound file_hash (replicate 32 0) file verified.shows is_hash in
    record {
      proof = proof;
      says = verified.says;
      chunks = found.0;
      are_chunks = found.1;
      part = found.2;
    }
