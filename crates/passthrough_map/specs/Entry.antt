-- The entry of a key in a map, and what the map has after a value is written through it.
pub use Rattle.passthrough_map.specs.declared.passthrough_hashmap.entry.Entry.TheVariants.{Occupied, Vacant}
use Rattle.std.specs.Prelude.{◌≡◌, [], Bool, List, Option, None, Some, IsSome, Result}
use Rattle.std.specs.Borrow.{Fml, RattleType, MutBor, Lends, LendsSoOk, RestsIfErr}
use Rattle.std.specs.Map.{set_value}
use Rattle.std.specs.declared.alloc.Allocator as alloc
use Rattle.std.specs.HashMap.Lent.{HashMembers}
use mir.Syntax.{named}
use Rattle.passthrough_map.specs.declared.passthrough_hashmap.entry.Entry.{Entry}
use Rattle.passthrough_map.specs.declared.passthrough_hashmap.entry.OccupiedEntry.{OccupiedEntry}
use Rattle.passthrough_map.specs.contracts.passthrough_hashmap.entry.OccupiedEntry as occupied
use Rattle.passthrough_map.specs.FiniteMap.{IsPut, value_at}
use Rattle.passthrough_map.specs.MapLends.{ExtractableMembers, map_row}

module _ {K V A : Type 0} where
  -- the map that the entry borrows
  abbrev pub entry_map : Entry K V A → MutBor (List (K × V))
  entry_map (Occupied place) = place.map
  entry_map (Vacant place) = place.map

  -- the requested key
  abbrev pub entry_key : Entry K V A → K
  entry_key (Occupied place) = place.key
  entry_key (Vacant place) = place.key

module _ {K V A : Type 0} (eq : K → K → Bool) where
  -- the value at the key
  abbrev pub entry_value : Entry K V A → Option V
  entry_value place = value_at eq (entry_map place).now (entry_key place)

  -- an occupied entry has a value, and a vacant one has none
  abbrev pub IsLive : Entry K V A → Type 0
  IsLive (Occupied place) = IsSome (entry_value (Occupied place))
  IsLive (Vacant place) = entry_value (Vacant place) ≡ None

module _ {K V A : Type 0} where
  -- `new` is the entry `old` in the same map, which now has these entries
  pub record IsPlaceAfter (old new : Entry K V A) (entries : List (K × V)) : Type 0 where
    pub same_map : (entry_map new).ghost_name ≡ (entry_map old).ghost_name
    pub same_key : entry_key new ≡ entry_key old
    pub after : (entry_map new).now ≡ entries

-- the entry whose value is now w
abbrev pub with_value : {K V A : Type 0} → (K → K → Bool) → OccupiedEntry K V A → V → OccupiedEntry K V A
with_value eq place w = record place { map = record place.map { now = set_value (eq place.key) place.map.now w } }

-- `filled` is the entry at whose key `value` was put, in the same map
module _ {K V A : Type 0} (eq : K → K → Bool) where
  pub record IsFilled (place : Entry K V A) (value : V) (filled : OccupiedEntry K V A) : Type 0 where
    pub same_map : (entry_map (Occupied filled)).ghost_name ≡ (entry_map place).ghost_name
    pub same_key : entry_key (Occupied filled) ≡ entry_key place
    pub live : IsLive eq (Occupied filled)
    pub value_there : entry_value eq (Occupied filled) ≡ Some value
    pub put : IsPut eq (entry_map place).now (entry_key place) value (entry_map (Occupied filled)).now

module _ (K V A : RattleType) (extracted : ExtractableMembers K.Denot) (hashed : HashMembers K.Denot) (heap : alloc.Ghosts A.Denot) where
  -- the map's type in the logic
  abbrev pub map_type : RattleType
  map_type = map_row K V A extracted hashed heap

  -- the type of an occupied entry in the logic
  abbrev pub place_type : RattleType
  place_type =
      occupied.the_row (record { mir = named 1; lft = [] }) K V A (record { hash_value = extracted.hash_value }) (record { eq = hashed.eq }) (record { hash_input = hashed.hash_input }) heap

  module _ (place : Entry K.Denot V.Denot A.Denot) where
    -- when the borrow ends, the last value behind r is written at the entry's key, which has a value
    abbrev pub writes_there : MutBor V.Denot → Fml
    writes_there r = Lends map_type V (entry_map place) r (set_value (hashed.eq (entry_key place)) (entry_map place).now)

    -- when the borrow ends, the last value behind r is put at the entry's key; after an error the map is unchanged
    abbrev pub puts_there : {E : Type 0} → Result (MutBor V.Denot) E → Fml
    puts_there r =
        LendsSoOk map_type V (entry_map place) r (λ left value. IsPut hashed.eq (entry_map place).now (entry_key place) value left)
        (λ left. left ≡ (entry_map place).now)

    -- if the value can't be put, the map is unchanged
    abbrev pub stays_if_refused : {E : Type 0} → Result (OccupiedEntry K.Denot V.Denot A.Denot) E → Fml
    stays_if_refused filled =
        RestsIfErr map_type (entry_map place) (λ occupied. (entry_map (Occupied occupied)).ghost_name) filled (λ left. left ≡ (entry_map place).now)

  -- when the borrow ends, the last value behind r is written at the entry's key, which has a value
  abbrev pub writes_in_place : MutBor (OccupiedEntry K.Denot V.Denot A.Denot) → MutBor V.Denot → Fml
  writes_in_place place r = Lends place_type V place r (with_value hashed.eq place.now)
