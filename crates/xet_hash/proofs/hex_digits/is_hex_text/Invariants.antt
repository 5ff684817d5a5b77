use Rattle.std.proofs.Common.{◌≡◌, ◌↔◌, ℕ, ◌<◌, ◌≤◌, true, slice_index}
use Rattle.std.specs.Char.{is_ascii_hexdigit}
use Rattle.xet_hash.proofs.hex_digits.is_hex_text.Given as goal

abbrev pub invariant-digits : goal.invariant-digits
invariant-digits l = record {
  most : l.count ≤ l.i;
  all : (l.count ≡ l.i) ↔ ((j : ℕ) → j < l.i → is_ascii_hexdigit (slice_index l.text j) ≡ true);
}
