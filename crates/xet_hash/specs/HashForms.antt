-- The base64 text of a hash, the random hash of a seed, the order of hashes, what a hash table reads of one, and the
-- texts of an error.
use Rattle.std.specs.Prelude.{ℕ, List, codes, slice_index}
use Rattle.std.specs.Hash.{HashWrites, u64}
use Rattle.std.specs.Ordering.{nat_cmp}
use Rattle.std.specs.Cmp.Lexicographic.{slice_cmp}
use Rattle.std.specs.declared.cmp.Ordering.{Ordering}
use Rattle.base64.specs.Engines.{url_safe_no_pad}
use Rattle.base64.specs.GeneralPurpose.{encode_of}
use Rattle.rand_core.specs.Steps.{stream_of, steps_u64_high}
use Rattle.rand_core.specs.Stream.{fill_bytes}
use Rattle.rand_xoshiro.specs.SplitMix64.{splitmix_seed}
use Rattle.rand_xoshiro.specs.Xoshiro256.{of_seed, plus_plus}
use Rattle.xet_hash.specs.Hash.{bytes_of, hash_of}
use Rattle.xet_hash.specs.declared.data_hash.forms.HashTextError.{HashTextError}
use Rattle.xet_hash.specs.declared.data_hash.forms.HashTextError.TheVariants.{Bytes, OutOfMemory}

-- the base64 text of a hash: its 32 bytes in the URL-safe alphabet without padding (RFC 4648, section 5)
unfoldable pub base64_text : List ℕ → List ℕ
base64_text words = encode_of url_safe_no_pad (bytes_of words)

-- the random hash of a seed: its bytes are the first 32 of Xoshiro256++, seeded by SplitMix64 (Blackman and Vigna)
unfoldable pub random_hash : ℕ → List ℕ
random_hash seed =
    hash_of (fill_bytes 32 (stream_of (steps_u64_high plus_plus) (of_seed (splitmix_seed 32 seed)))).0

-- the order of hashes is that of the lists of their words
abbrev pub hash_cmp : List ℕ → List ℕ → Ordering
hash_cmp = slice_cmp nat_cmp

-- what a hash table reads of a hash: word 0 as a `u64`
abbrev pub hash_writes : List ℕ → HashWrites
hash_writes words = u64 (slice_index words 0)

-- what an error of `from_base64` prints
abbrev pub hash_text_error_text : HashTextError → List ℕ
hash_text_error_text (Bytes e) = codes "Invalid bytes input for DataHash"
hash_text_error_text OutOfMemory = codes "out of memory"
