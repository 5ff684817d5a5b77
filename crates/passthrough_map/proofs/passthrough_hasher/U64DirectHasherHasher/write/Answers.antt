use Rattle.std.proofs.Common.{ap, ◌∙◌, ◌≡◌, ◌++◌, length, take, drop, refl}
use Rattle.std.specs.Int.{w64, from_le_bytes, to_le_bytes}
use Rattle.passthrough_map.specs.PassthroughHasher.{overwrite_low}
use Rattle.passthrough_map.proofs.Hasher.Overwriting.{front_replaced}
use Rattle.passthrough_map.proofs.passthrough_hasher.U64DirectHasherHasher.write.Goals as goal

pub returns : goal.returns
unfolding overwrite_low
returns g c =
    let bytes = c.args.bytes.now in
    let copied : c.copy_from_slice.new.self ++ drop c.min-len.result c.to_le_bytes-state.result
    ≡ take 8 (bytes ++ drop (length bytes) (to_le_bytes w64 c.args.self.now)) =
    rw (c.copy_from_slice.ensures.after, c.to_le_bytes-state.ensures, c.self.view_is) (front_replaced bytes (to_le_bytes w64 c.args.self.now) c.min-len.result refl c.min-len.ensures) in
    c.from_le_bytes-self-inside.ensures ∙ ap (from_le_bytes w64) copied
