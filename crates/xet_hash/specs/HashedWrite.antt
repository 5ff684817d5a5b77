-- What a hashing writer has taken, and its inner writer.
use Rattle.std.specs.Prelude.{◌≡◌, ℕ, List, [], ◌++◌, take, Option, Result, Ok, Err}
use Rattle.std.specs.Io.KnownBytes.{Appends}
use Rattle.std.specs.Borrow.{Bor, MutBor}
use Rattle.std.specs.Fn.{Once}
use Rattle.xet_hash.specs.Hash.{data_key}
use Rattle.keyed_blake3.specs.Blake3Hasher.{Holds}
use Rattle.xet_hash.specs.declared.data_hash.hashed_write.HashedWrite.{HashedWrite}

-- the writer that gets the bytes
unfoldable pub inner_writer : {W : Type 0} → HashedWrite W → W
inner_writer w = w.writer

-- the bytes that w has reported as taken are m
unfoldable pub HoldsWritten : {W : Type 0} → HashedWrite W → List ℕ → Type 0
HoldsWritten w m = Holds data_key w.hasher m

-- `new` has taken a beginning of `slice`, and no more: it was appended to what the inner writer has, if that is known,
-- and if `old` has taken m, then `new` has taken m followed by it
pub record HoldsBeginning {W : Type 0} (contents : W → Option (List ℕ)) (old new : HashedWrite W) (slice : List ℕ) : Type 0 where
  pub taken : List ℕ
  pub rest : List ℕ
  pub parts : slice ≡ taken ++ rest
  pub appends : Appends (contents (inner_writer old)) (contents (inner_writer new)) taken
  pub message : (m : List ℕ) → HoldsWritten old m → HoldsWritten new (m ++ taken)

-- the bytes of `slice` that a write has taken, by its result: the first k for `Ok(k)`, at most all; none for an error
abbrev pub taken_bytes : {E : Type 0} → Result ℕ E → List ℕ → List ℕ
taken_bytes (Ok k) slice = take k slice
taken_bytes (Err e) slice = []

-- the result of one call of `call`: it got the writer `old` and all of `slice`, returned `answer` and left the writer
-- `new`
pub record IsOneCall {F W R : Type 0} (g : Once F (MutBor W × (Bor (List ℕ) × Unit {0})) (R × (MutBor W × Unit {0}))) (call : F)
    (old : W) (slice : List ℕ) (answer : R) (new : W) : Type 0 where
  pub writer : MutBor W
  pub was : writer.now ≡ old
  pub bytes : Bor (List ℕ)
  pub whole : bytes.now ≡ slice
  pub left : MutBor W
  pub met : g.post call (writer, (bytes, tt)) (answer, (left, tt))
  pub is : left.now ≡ new
