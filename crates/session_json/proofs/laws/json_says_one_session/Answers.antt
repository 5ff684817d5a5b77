use Rattle.session_json.proofs.OneMeaning.{one_session, one_text}
use Rattle.session_json.proofs.laws.json_says_one_session.Goals as goal

pub returns-clause-values : goal.returns-clause-values
returns-clause-values c = one_session c.json_says_one_subtree.ensures

pub returns-clause-texts : goal.returns-clause-texts
returns-clause-texts c = one_text c.json_says_one_subtree.ensures
