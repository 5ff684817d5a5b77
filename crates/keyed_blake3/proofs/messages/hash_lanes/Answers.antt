use Rattle.std.proofs.Common.{◌≡◌, ℕ, ◌+◌, ◌-◌, ◌<◌, ◌≤◌, length, map, take, drop, ap, ◌∙◌, arith, length-drop}
use Rattle.std.proofs.lemmas.List.{length-map, length-take-le}
use Rattle.keyed_blake3.specs.Blake3.{keyed_hash}
use Rattle.keyed_blake3.specs.Steps.Messages.{AreShort}
use Rattle.keyed_blake3.proofs.Blake3.Messages.{message_in}
use Rattle.keyed_blake3.proofs.messages.hash_lanes.Goals as goal

pub hash_side_by_side-requires : goal.hash_side_by_side-requires
hash_side_by_side-requires g c =
    let start = c.args.done in
    let count : ℕ = c.min.result in
    let messages = c.args.messages.now in
    let whole : start + count - start ≡ count = omega arith in
    let bound : start + count ≤ length messages = omega (arith, c.min.ensures) in
    let size : length (take count (drop start messages)) ≡ count = length-take-le count (drop start messages) (omega (arith, length-drop start messages)) in
    let short : AreShort (map (λ m. m.now) (take count (drop start messages))) = λ j h.
    let fits : j < count = omega (arith, length-map (take count (drop start messages)) (λ m. m.now)) in
    rw (message_in messages start count j bound fits) (c.requires.short (start + j) (omega (arith, length-map messages (λ m. m.now)))) in
    rw whole (omega arith, (rw size (omega (arith, c.min.ensures)), (short, rw size (omega (arith, c.requires.room)))))

pub returns-clause-hashes : goal.returns-clause-hashes
returns-clause-hashes g c = λ i low high.
    let start = c.args.done in
    let count : ℕ = c.min.result in
    let messages = c.args.messages.now in
    let j : ℕ = i - start in
    let place : start + j ≡ i = omega arith in
    let whole : start + count - start ≡ count = omega arith in
    let bound : start + count ≤ length messages = omega (arith, c.min.ensures) in
    let fits : j < count = omega arith in
    let size : length (take count (drop start messages)) ≡ count = length-take-le count (drop start messages) (omega (arith, length-drop start messages)) in
    rw place at ((rw whole at c.hash_side_by_side.ensures.hashes) j (rw size fits) ∙ ap (keyed_hash c.args.key.now) (message_in messages start count j bound fits))

pub returns-clause-after : goal.returns-clause-after
returns-clause-after g c = λ i past.
    let start = c.args.done in
    let count : ℕ = c.min.result in
    let messages = c.args.messages.now in
    let whole : start + count - start ≡ count = omega arith in
    let size : length (take count (drop start messages)) ≡ count = length-take-le count (drop start messages) (omega (arith, c.min.ensures, length-drop start messages)) in
    (rw whole at c.hash_side_by_side.ensures.after) i (rw size past)
