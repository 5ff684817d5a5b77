-- What a map for deduplication has after a reference into it has ended.
use Rattle.std.specs.Prelude.{Bool, Option, ℕ, List}
use Rattle.std.specs.Borrow.{Fml, RattleType, MutBor, Lends, LendsIf}
use Rattle.std.specs.Map.{set_value}
use Rattle.std.specs.Hash.BuildHasherDefault.{initial_hasher}
use Rattle.std.specs.HashMap.{HashMap}
use Rattle.std.specs.HashMap.Lent.{HashMembers, map_row as std_row}
use Rattle.std.specs.contracts.hash.BuildHasherDefault as build
use Rattle.std.specs.contracts.hash.FoldHasher as fold
use Rattle.std.specs.contracts.prelude.FoldHasherHasher.TheImpl.{ghosts}
use Rattle.std.specs.declared.alloc.Allocator as alloc
use Rattle.passthrough_map.specs.contracts.passthrough_hashmap.PassThroughHashMap.{the_row}

-- the members of Key.U64HashExtractable in a clause
abbrev pub ExtractableMembers : Type 0 → Type 0
ExtractableMembers K = record { eq : K → K → Bool; hash_value : K → ℕ }

-- the hasher builder of the inner map, in the logic
abbrev pub build_row : RattleType
build_row = build.the_row fold.the_row

module _ (K V A : RattleType) (extracted : ExtractableMembers K.Denot) (hashed : HashMembers K.Denot) (heap : alloc.Ghosts A.Denot) where
  -- the map's type in the logic
  abbrev pub map_row : RattleType
  map_row =
      the_row K V A (record { hash_value = extracted.hash_value }) (record { eq = hashed.eq }) (record { hash_input = hashed.hash_input }) heap

  -- the type of the inner map
  abbrev pub inner_row : RattleType
  inner_row = std_row K V build_row A fold.the_row hashed (record { build_hasher = initial_hasher }) ghosts heap

  module _ (map : MutBor (List (K.Denot × V.Denot))) where
    -- when the borrow ends, the last value behind r is written at the key k; for `None` the map is unchanged
    abbrev pub lends_value : K.Denot → Option (MutBor V.Denot) → Fml
    lends_value k r = LendsIf map_row V map r (set_value (hashed.eq k) map.now) map.now

    -- when the borrow ends, the map has the entries that are left behind r
    abbrev pub lends_map : MutBor (HashMap K.Denot V.Denot build_row.Denot) → Fml
    lends_map r = Lends map_row inner_row map r (λ inner. inner.entries)
