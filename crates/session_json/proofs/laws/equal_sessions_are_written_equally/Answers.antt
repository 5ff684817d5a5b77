use Rattle.session_json.proofs.OneMeaning.{same_text_for_same}
use Rattle.session_json.proofs.laws.equal_sessions_are_written_equally.Goals as goal

pub returns : goal.returns
returns c = same_text_for_same
