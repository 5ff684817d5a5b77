-- A pair line by its parts: the first 64 bytes, and what follows them.
use Rattle.std.proofs.Common.{◌≡◌, ℕ, ◌<◌, ◌^◌, List, ◌∷◌, ◌++◌, take, drop, sym, ap, subst, ◌∙◌, append_assoc, decimal, codes}
use Rattle.std.proofs.lemmas.List.{take_at, drop_at, take-append-drop}
use Rattle.std.specs.Str.{str_to_ascii_lowercase}
use Rattle.xet_hash.specs.Hash.{IsHash, IsHexText, hex_text}
use Rattle.xet_roots.specs.Groups.{Node}
use Rattle.pair_text.specs.Lines.{IsPairLine}

module _ (line : List ℕ) (node : Node) (h : IsPairLine line node) where
  pair_parts : line ≡ h.digits ++ 32 ∷ decimal node.1
  pair_parts = h.parts ∙ append_assoc h.digits (codes " ") (decimal node.1)

  pub IsPairLine-digits : IsHexText (take 64 line)
  IsPairLine-digits = subst IsHexText (sym (ap (take 64) pair_parts ∙ take_at h.digits (32 ∷ decimal node.1) 64 h.are_digits.0)) h.are_digits

  pub IsPairLine-rest : drop 64 line ≡ 32 ∷ decimal node.1
  IsPairLine-rest = ap (drop 64) pair_parts ∙ drop_at h.digits (32 ∷ decimal node.1) 64 h.are_digits.0

pub IsPairLine-made : (line hash : List ℕ) (size : ℕ) → IsHexText (take 64 line) → hex_text hash ≡ str_to_ascii_lowercase (take 64 line) → IsHash hash →
    drop 64 line ≡ 32 ∷ decimal size → size < 2 ^ 64 → IsPairLine line (hash, size)
IsPairLine-made line hash size digits reads is_hash rest is_size = record {
  digits = take 64 line;
  parts = sym (take-append-drop 64 line) ∙ ap (λ (l : List ℕ). take 64 line ++ l) rest ∙ sym (append_assoc (take 64 line) (codes " ") (decimal size));
  are_digits = digits;
  reads = reads;
  is_hash = is_hash;
  is_size = is_size;
}
