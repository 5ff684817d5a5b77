use Rattle.upload_session.proofs.Placing.{place-size, place-hashes}
use Rattle.upload_session.proofs.laws.placed_chunks_add_up.Goals as goal

pub returns-clause-sizes : goal.returns-clause-sizes
returns-clause-sizes c = place-size

pub returns-clause-hashes : goal.returns-clause-hashes
returns-clause-hashes c = place-hashes
