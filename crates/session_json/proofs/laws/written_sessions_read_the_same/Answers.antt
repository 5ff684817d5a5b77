use Rattle.session_json.proofs.Written.{reads_the_same}
use Rattle.session_json.proofs.laws.written_sessions_read_the_same.Goals as goal

pub returns : goal.returns
returns c =
    reads_the_same c.hex_text_is_lowercase_digits.ensures.digits c.hex_text_is_lowercase_digits.ensures.lowercase c.hex_text_tells_hashes_apart.ensures
