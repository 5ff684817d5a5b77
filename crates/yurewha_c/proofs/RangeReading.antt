-- The bytes that reading a range gives, as a part of the data.
use Rattle.std.proofs.Common.{arith, ◌≡◌, ℕ, ◌+◌, ◌-◌, ◌≤◌, List, ap, sym, ◌∙◌, drop, length}
use Rattle.std.specs.Prelude.{slice_range}
use Rattle.range_proof.specs.RangeProof.{Proof, begin_of, offset_of}
use Rattle.range_proof.specs.Reading.{IsRead}
use Rattle.range_proof.proofs.ReadingOf.{length-chunks}
use Rattle.std.proofs.lemmas.List.{length-drop, length-take-le}

module _ (proof : Proof) (from to begin : ℕ) (all bytes : List ℕ) (begins : begin ≡ begin_of proof 0) (read : IsRead proof from to all bytes) where
  at_offset : begin ≡ offset_of proof
  at_offset = let same : begin ≡ offset_of proof + 0 = begins in omega (arith, same)

  pub begins_before : begin ≤ from
  begins_before = omega (arith, at_offset, read.begin)

  -- the bytes are those from their start on
  pub bytes_from : bytes ≡ slice_range all (from - begin) (from - begin + (to - from))
  bytes_from =
      let first : from - offset_of proof ≡ from - begin = omega (arith, at_offset) in
      let last : to - offset_of proof ≡ from - begin + (to - from) = omega (arith, at_offset, read.begin, read.in_order) in
      read.bytes_are ∙ ap (λ n. slice_range all n (to - offset_of proof)) first ∙ ap (slice_range all (from - begin)) last

  pub ends_within : from - begin + (to - from) ≤ length all
  ends_within = omega (arith, at_offset, read.begin, read.in_order, read.end, length-chunks proof.chunks all read.chunks read.are_chunks)

  -- there are as many as are asked for
  pub size_of_read : length bytes ≡ to - from
  size_of_read =
      let rest : length (drop (from - begin) all) ≡ length all - (from - begin) = length-drop (from - begin) all in
      let size : length (slice_range all (from - begin) (from - begin + (to - from))) ≡ (from - begin + (to - from)) - (from - begin) =
      length-take-le ((from - begin + (to - from)) - (from - begin)) (drop (from - begin) all) (omega (arith, rest, ends_within)) in
      let same : (from - begin + (to - from)) - (from - begin) ≡ to - from = omega arith in
      ap length bytes_from ∙ size ∙ same

  -- the same from a number of bytes on that are skipped
  pub bytes_after : (skipped : ℕ) → skipped ≡ from - begin → bytes ≡ slice_range all skipped (skipped + length bytes)
  bytes_after skipped is =
      bytes_from ∙ ap (λ (n : ℕ). slice_range all (from - begin) (from - begin + n)) (sym size_of_read)
      ∙ ap (λ (n : ℕ). slice_range all n (n + length bytes)) (sym is)

  pub ends_after : (skipped : ℕ) → skipped ≡ from - begin → skipped + length bytes ≤ length all
  ends_after skipped is = omega (arith, is, size_of_read, ends_within)
