-- Messages with the same hash: they are the same message, or a collision.
use Rattle.std.proofs.Common.{◌≡◌, ℕ, zero, suc, ◌*◌, ◌<◌, ◌^◌, ◌⊎◌, Bool, if◌then◌else◌, leb, true, false, Contains, Decides, bytes_eq, List, [], ◌∷◌, ◌++◌, length, map, flat_map, refl, sym, ap, ◌∙◌, inl, inr, arith, length-append}
use Rattle.std.specs.Int.{w32, to_le_bytes, byte_at, bytes_low_first}
use Rattle.std.specs.List.{AllByRecursion}
use Rattle.std.proofs.lemmas.Bool.{false≢true}
use Rattle.std.proofs.lemmas.List.Elements.{All-from_recursion}
use Rattle.std.proofs.lemmas.Slice.Eq.{bytes_eq-Decides}
use Rattle.keyed_blake3.specs.Blake3.{keyed_hash, subtree_value, chunk_value, parent_value, compress, words_at, root_flag}
use Rattle.xet_hash.specs.Hash.{hash_of, IsHash, IsHashBytes, data_key, internal_key}
use Rattle.xet_hash.proofs.Hash.Laws.{IsHash-hash_of, bytes_of-hash_of}
use Rattle.xet_hash.specs.Hash.{bytes_of}
use Rattle.xet_roots.specs.Groups.{Node}
use Rattle.xet_roots.specs.Roots.{group_text, parent, parent_hash}
use Rattle.commitment.specs.Commitment.{Message, blake3_of, chunk_node, chunk_nodes, Collision}
use Rattle.commitment.proofs.Commitment.Texts.{hashes}

-- ---- Lists

-- what holds of each element of a list, of the elements of its two parts
pub each_append : {X : Type 0} (P : X → Type 0) (xs ys : List X) → AllByRecursion P xs → AllByRecursion P ys → AllByRecursion P (xs ++ ys)
each_append P [] ys h k = k
each_append P (x ∷ xs) ys h k = (h.0, each_append P xs ys h.1 k)

pub each_front : {X : Type 0} (P : X → Type 0) (xs ys : List X) → AllByRecursion P (xs ++ ys) → AllByRecursion P xs
each_front P [] ys h = tt
each_front P (x ∷ xs) ys h = (h.0, each_front P xs ys h.1)

pub each_back : {X : Type 0} (P : X → Type 0) (xs ys : List X) → AllByRecursion P (xs ++ ys) → AllByRecursion P ys
each_back P [] ys h = h
each_back P (x ∷ xs) ys h = each_back P xs ys h.1

pub each_map : {X Y : Type 0} (P : Y → Type 0) (f : X → Y) (xs : List X) → ((x : X) → P (f x)) → AllByRecursion P (map f xs)
each_map P f [] h = tt
each_map P f (x ∷ xs) h = (h x, each_map P f xs h)

-- what holds of whatever a list contains
pub each_contained : {X : Type 0} (P : X → Type 0) (xs : List X) → ((x : X) → Contains xs x → P x) → AllByRecursion P xs
each_contained P [] h = tt
each_contained P (x ∷ xs) h = (h x (zero, omega arith, refl), each_contained P xs (λ y c. h y (suc c.0, (let within = c.1 in omega arith), c.2)))

pub map-injective : {X Y : Type 0} (f : X → Y) → ((x y : X) → f x ≡ f y → x ≡ y) → (xs ys : List X) → map f xs ≡ map f ys → xs ≡ ys
map-injective f apart [] [] e = refl
map-injective f apart [] (y ∷ ys) e = cc e
map-injective f apart (x ∷ xs) [] e = cc e
map-injective f apart (x ∷ xs) (y ∷ ys) e =
    let heads : f x ≡ f y = cc in
    let tails : map f xs ≡ map f ys = cc in
    let head = apart x y heads in
    let tail = map-injective f apart xs ys tails in cc

pub hashes-map : {X : Type 0} (f : X → Node) (xs : List X) → hashes (map f xs) ≡ map (λ x. (f x).0) xs
hashes-map f [] = refl
hashes-map f (x ∷ xs) = ap (λ l. (f x).0 ∷ l) (hashes-map f xs)

-- ---- The hash of a message is 32 bytes

abbrev IsByte : ℕ → Type 0
IsByte byte = byte < 256

IsByte-byte_at : (i n : ℕ) → IsByte (byte_at i n)
IsByte-byte_at zero n = omega arith
IsByte-byte_at (suc i) n = omega arith

each_byte_of_word : (i k n : ℕ) → AllByRecursion IsByte (bytes_low_first i k n)
each_byte_of_word i zero n = tt
each_byte_of_word i (suc k) n = (IsByte-byte_at i n, each_byte_of_word (suc i) k n)

each_byte : (words : List ℕ) → AllByRecursion IsByte (flat_map (to_le_bytes w32) words)
each_byte [] = tt
each_byte (w ∷ words) = each_append IsByte (to_le_bytes w32 w) (flat_map (to_le_bytes w32) words) (each_byte_of_word 0 4 w) (each_byte words)

length-bytes : (words : List ℕ) → length (flat_map (to_le_bytes w32) words) ≡ 4 * length words
length-bytes [] = refl
length-bytes (w ∷ words) = omega (arith, length-append (to_le_bytes w32 w) (flat_map (to_le_bytes w32) words), length-bytes words)

length-compress : (h m : List ℕ) (counter block_len flags : ℕ) → length (compress h m counter block_len flags) ≡ 8
unfolding compress
length-compress h m counter block_len flags = refl

length-either : (b : Bool) (x y : List ℕ) → length x ≡ 8 → length y ≡ 8 → length (if b then x else y) ≡ 8
length-either true x y h k = h
length-either false x y h k = k

length-subtree_value : (key : List ℕ) (k i : ℕ) (m : List ℕ) (flags : ℕ) → length (subtree_value key k i m flags) ≡ 8
unfolding subtree_value chunk_value parent_value
length-subtree_value key zero i m flags = length-compress _ _ _ _ _
length-subtree_value key (suc k) i m flags =
    length-either (leb (length m) (1024 * 2 ^ k)) _ _ (length-subtree_value key k i m flags) (length-compress _ _ _ _ _)

IsHashBytes-keyed_hash : (message : Message) → IsHashBytes (blake3_of message)
unfolding keyed_hash
IsHashBytes-keyed_hash message =
    let words = subtree_value (words_at 8 message.0) 54 0 message.1 root_flag in
    (omega (arith, length-bytes words, length-subtree_value (words_at 8 message.0) 54 0 message.1 root_flag), All-from_recursion IsByte _ (each_byte words))

-- the hash of a message is a hash
pub IsHash-blake3_of : (message : Message) → IsHash (hash_of (blake3_of message))
IsHash-blake3_of message = IsHash-hash_of (blake3_of message) (IsHashBytes-keyed_hash message)

same_bytes : (this that : Message) → hash_of (blake3_of this) ≡ hash_of (blake3_of that) → blake3_of this ≡ blake3_of that
same_bytes this that e =
    sym (bytes_of-hash_of (blake3_of this) (IsHashBytes-keyed_hash this)) ∙ ap bytes_of e ∙ bytes_of-hash_of (blake3_of that) (IsHashBytes-keyed_hash that)

-- ---- The same message, or a collision

decided : {P : Type 0} (r : Bool) → Decides r P → P ⊎ (¬ P)
decided true d = inl (d.0 refl)
decided false d = inr (λ p. false≢true (d.1 p))

same_or_not : (xs ys : List ℕ) → (xs ≡ ys) ⊎ (¬ (xs ≡ ys))
same_or_not xs ys = decided (bytes_eq xs ys) (bytes_eq-Decides xs ys)

-- ---- The messages of chunks and of groups

map-map : {X Y Z : Type 0} (f : X → Y) (g : Y → Z) (xs : List X) → map g (map f xs) ≡ map (λ x. g (f x)) xs
map-map f g [] = refl
map-map f g (x ∷ xs) = ap (λ l. g (f x) ∷ l) (map-map f g xs)

abbrev pub chunk_message : List ℕ → Message
chunk_message bytes = (data_key, bytes)

abbrev pub group_message : List Node → Message
group_message group = (internal_key, group_text group)

hashes-chunks : (chunks : List (List ℕ)) → hashes (chunk_nodes chunks) ≡ map (λ bytes. hash_of (blake3_of (chunk_message bytes))) chunks
hashes-chunks chunks = hashes-map chunk_node chunks

hashes-parents : (groups : List (List Node)) → hashes (map parent groups) ≡ map (λ group. hash_of (blake3_of (group_message group))) groups
unfolding parent_hash
hashes-parents groups = hashes-map parent groups

pub IsHash-parent : (group : List Node) → IsHash (parent group).0
unfolding parent_hash
IsHash-parent group = IsHash-blake3_of (group_message group)

-- the keys differ, so the messages do
apart : (groups : List (List Node)) (chunks : List (List ℕ)) → 0 < length groups → map group_message groups ≡ map chunk_message chunks → ⊥
apart [] chunks some e = omega arith
apart (group ∷ groups) [] some e = cc e
apart (group ∷ groups) (bytes ∷ chunks) some e =
    let heads : group_message group ≡ chunk_message bytes = cc in
    let keys : internal_key ≡ data_key = ap (λ (message : Message). message.0) heads in cc keys

module _ (these those : Message → Type 0) where
  collide : (this that : Message) → these this → those that → (¬ (this ≡ that)) → hash_of (blake3_of this) ≡ hash_of (blake3_of that) → Collision these those
  collide this that a b differ e = record {
    this = this;
    that = that;
    is_of_these = a;
    is_of_those = b;
    differ = differ;
    same_hash = same_bytes this that e;
  }

  -- two messages with the same hash
  pub same_message : (this that : Message) → these this → those that → hash_of (blake3_of this) ≡ hash_of (blake3_of that) →
      (this ≡ that) ⊎ Collision these those
  same_message this that a b e = elim (same_or_not this.0 that.0) [
    | inl key ↦ elim (same_or_not this.1 that.1) [
      | inl bytes ↦ inl (λ i. (key i, bytes i))
      | inr other ↦ inr (collide this that a b (λ p. other (ap (λ (m : Message). m.1) p)) e)
    ]
    | inr other ↦ inr (collide this that a b (λ p. other (ap (λ (m : Message). m.0) p)) e)
  ]

  -- two lists of messages with the same hashes one by one
  pub same_messages : {X Y : Type 0} (f : X → Message) (g : Y → Message) (xs : List X) (ys : List Y) →
      AllByRecursion (λ x. these (f x)) xs → AllByRecursion (λ y. those (g y)) ys →
      map (λ x. hash_of (blake3_of (f x))) xs ≡ map (λ y. hash_of (blake3_of (g y))) ys → (map f xs ≡ map g ys) ⊎ Collision these those
  same_messages f g [] [] h k e = inl refl
  same_messages f g [] (y ∷ ys) h k e = cc e
  same_messages f g (x ∷ xs) [] h k e = cc e
  same_messages f g (x ∷ xs) (y ∷ ys) h k e =
      let heads : hash_of (blake3_of (f x)) ≡ hash_of (blake3_of (g y)) = cc in
      let tails : map (λ x. hash_of (blake3_of (f x))) xs ≡ map (λ y. hash_of (blake3_of (g y))) ys = cc in
      elim (same_message (f x) (g y) h.0 k.0 heads) [
        | inl head ↦ elim (same_messages f g xs ys h.1 k.1 tails) [
          | inl tail ↦ inl cc
          | inr collision ↦ inr collision
        ]
        | inr collision ↦ inr collision
      ]

  -- chunks with the same hashes
  pub same_chunks : (chunks others : List (List ℕ)) → AllByRecursion (λ bytes. these (chunk_message bytes)) chunks →
      AllByRecursion (λ bytes. those (chunk_message bytes)) others → hashes (chunk_nodes chunks) ≡ hashes (chunk_nodes others) →
      (chunks ≡ others) ⊎ Collision these those
  same_chunks chunks others h k e =
      elim (same_messages chunk_message chunk_message chunks others h k (sym (hashes-chunks chunks) ∙ e ∙ hashes-chunks others)) [
        | inl same ↦ inl (map-injective chunk_message (λ x y p. ap (λ (message : Message). message.1) p) chunks others same)
        | inr collision ↦ inr collision
      ]

  -- groups whose parents have the same hashes
  pub same_texts : (groups others : List (List Node)) → AllByRecursion (λ group. these (group_message group)) groups →
      AllByRecursion (λ group. those (group_message group)) others → hashes (map parent groups) ≡ hashes (map parent others) →
      (map group_text groups ≡ map group_text others) ⊎ Collision these those
  same_texts groups others h k e =
      elim (same_messages group_message group_message groups others h k (sym (hashes-parents groups) ∙ e ∙ hashes-parents others)) [
        | inl same ↦ inl (sym (map-map group_message (λ message. message.1) groups) ∙ ap (map (λ message. message.1)) same ∙ map-map group_message (λ message. message.1) others)
        | inr collision ↦ inr collision
      ]

  -- chunks never have the hashes of groups' parents but by a collision
  pub groups_against_chunks : (groups : List (List Node)) (chunks : List (List ℕ)) → 0 < length groups →
      AllByRecursion (λ group. these (group_message group)) groups → AllByRecursion (λ bytes. those (chunk_message bytes)) chunks →
      hashes (map parent groups) ≡ hashes (chunk_nodes chunks) → Collision these those
  groups_against_chunks groups chunks some h k e =
      elim (same_messages group_message chunk_message groups chunks h k (sym (hashes-parents groups) ∙ e ∙ hashes-chunks chunks)) [
        | inl same ↦ absurd (apart groups chunks some same)
        | inr collision ↦ collision
      ]

  pub chunks_against_groups : (chunks : List (List ℕ)) (groups : List (List Node)) → 0 < length groups →
      AllByRecursion (λ bytes. these (chunk_message bytes)) chunks → AllByRecursion (λ group. those (group_message group)) groups →
      hashes (chunk_nodes chunks) ≡ hashes (map parent groups) → Collision these those
  chunks_against_groups chunks groups some h k e =
      elim (same_messages chunk_message group_message chunks groups h k (sym (hashes-chunks chunks) ∙ e ∙ hashes-parents groups)) [
        | inl same ↦ absurd (apart groups chunks some (sym same))
        | inr collision ↦ collision
      ]
