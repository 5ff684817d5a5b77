-- Messages that are hashed side by side.
use Rattle.std.specs.Prelude.{◌≡◌, ℕ, ◌-◌, ◌*◌, ◌<◌, ◌≤◌, List, [], get_or, length, slice_index, take}
use Rattle.keyed_blake3.specs.Blake3.{block, blocks_before_last}
use Rattle.keyed_blake3.specs.Steps.Lanes.{chunk_at}

-- none has more than 1024 bytes
abbrev pub AreShort : List (List ℕ) → Type 0
AreShort messages = (j : ℕ) → j < length messages → length (get_or messages j []) ≤ 1024

-- message number j in slots, each of which begins with a message of one of the lengths
abbrev pub message_in : List (List ℕ) → List ℕ → ℕ → List ℕ
message_in slots lens j = take (slice_index lens j) (get_or slots j [])

-- there are n slots of 1024 bytes, and each message fits its own
pub record AreSlots (n : ℕ) (slots : List (List ℕ)) (lens : List ℕ) : Type 0 where
  pub count : length slots ≡ n
  pub sizes : (j : ℕ) → j < n → length (get_or slots j []) ≡ 1024
  pub few : length lens ≤ n
  pub short : (j : ℕ) → j < length lens → slice_index lens j ≤ 1024

-- what of a message's last block the message leaves has zero bytes
abbrev pub AreFilled : List (List ℕ) → List ℕ → Type 0
AreFilled slots lens = (j : ℕ) → j < length lens → (n : ℕ) → n ≤ blocks_before_last (message_in slots lens j)
    → block (get_or slots j []) n ≡ block (message_in slots lens j) n

-- lane j has the message m: its blocks are those of the chunk at the lane's place, and the number of its last block and how many bytes
-- this block has are in the lane
pub record HasMessage (chunks places last rest : List ℕ) (j : ℕ) (m : List ℕ) : Type 0 where
  pub blocks : (n : ℕ) → n ≤ blocks_before_last m → block (chunk_at (slice_index places j) chunks) n ≡ block m n
  pub last_block : slice_index last j ≡ blocks_before_last m
  pub in_last : slice_index rest j ≡ length m - 64 * blocks_before_last m
