-- Readers of files and parts of files, as handles own them.
use Rattle.std.specs.Prelude.{◌≡◌, ◌⊎◌, ℕ, ◌+◌, ◌-◌, ◌^◌, ◌<◌, ◌≤◌, All, Option, List, [], ◌∷◌, ◌++◌, length, drop, max, min, take}
use Rattle.range_proof.specs.RangeProof.{Proof, Shows, file_size_of}
use Rattle.verified_reader.specs.Kept.{AllKept, AreKeptAt, AreUsed, DropsOldest, IsFirstMissing, IsKept, KeepsAll}
use Rattle.verified_reader.specs.Reader.{AreAllRight, AreCopied, AreOfFile, Check, HasLearned, HoldsPlaces, IsCheckedBy, IsCheckOf, IsFarFrom, IsShownBy, Part, Reader, checks_of, within_file}

-- a place that is some bytes after another one. Places are below 2 ^ 64
abbrev pub place_after : ℕ → ℕ → ℕ
place_after from count = min (from + count) (2 ^ 64 - 1)

-- up to where bytes are wanted from a place on, of those up to another place that a reader doesn't keep
pub record IsWantedUpTo (reader : Reader) (from to piece end : ℕ) : Type 0 where
  pub none : AllKept reader.kept from (within_file reader.size to) → end ≡ from
  pub some : from < within_file reader.size to → ¬ (IsKept reader.kept from) → end ≡ min (within_file reader.size to) (from + max 1 piece)

-- what a read gives: some first bytes of the room are those that are kept from a place on; and up to where the next ones
-- are wanted
pub record ReadsFrom (old new : Reader) (from piece : ℕ) (room room_new : List ℕ) (filled end : ℕ) : Type 0 where
  pub within : filled ≤ length room_new
  pub copied : AreKeptAt old.kept from (take filled room_new)
  pub stops : filled < length room_new → ¬ (IsKept old.kept (from + filled))
  pub sound : (checks : List Check) → IsShownBy checks old → AreOfFile checks old.hash old.salt from (take filled room_new)
  pub rest : drop filled room_new ≡ drop filled room
  pub used : AreUsed old.kept from (from + filled) new.kept
  pub same : new ≡ record old { kept = new.kept }
  pub stays : (checks : List Check) → IsShownBy checks old → IsShownBy checks new
  pub wanted : IsWantedUpTo new (place_after from filled) (place_after from (length room_new)) piece end

-- what is wanted of the bytes from one place to another that a reader doesn't keep
pub record IsWanted (reader : Reader) (from to piece first end : ℕ) : Type 0 where
  pub missing : IsFirstMissing reader.kept from (within_file reader.size to) first
  pub end_is : end ≡ min (within_file reader.size to) (first + max 1 piece)

-- a reader gets another limit
pub record IsLimited (old new : Reader) (most : ℕ) : Type 0 where
  pub dropped : DropsOldest most old.kept new.kept
  pub same : new ≡ record old { most = most; kept = new.kept }
  pub stays : (checks : List Check) → IsShownBy checks old → IsShownBy checks new

-- a reader takes the chunks of a part
pub record Takes (old : Reader) (part : Part) (new : Reader) : Type 0 where
  pub kept : KeepsAll old.most old.kept part.checked new.kept
  pub size : HasLearned old part new
  pub same : new ≡ record old { kept = new.kept; size = new.size }
  pub stays : (checks : List Check) → IsShownBy checks old →
      (check : Check) × IsCheckOf part check × IsShownBy (check ∷ checks_of part ++ checks) new

-- a part is made of a proof that shows a file hash under a salt, for the bytes from one place to another
pub record IsOpened (part : Part) (hash salt : List ℕ) (from to beyond : ℕ) : Type 0 where
  pub part_is : part ≡ record {
    hash = hash;
    salt = salt;
    proof = part.proof;
    from = min from (file_size_of part.proof);
    to = min to (file_size_of part.proof);
    right = 0;
    checked = [];
  }
  pub shows : Shows part.proof hash salt
  pub holds : HoldsPlaces part.proof from to
  pub near : ¬ (IsFarFrom part.proof from to beyond)

-- a part after data was checked: its first chunks that are right are counted, and each that is copied was checked
pub record HasChecked (old new : Part) (all : List ℕ) : Type 0 where
  pub right : AreAllRight new.proof new.right all
  pub checked : All (IsCheckedBy new.proof new.hash new.salt) new.checked
  pub copied : AreCopied new.proof new.right all new.checked
  pub same : new ≡ record old { right = new.right; checked = new.checked }
