use Rattle.upload_session.proofs.session.SessionOf+C.try_clone.Goals as goal

pub invariant_of-result : goal.invariant_of-result
invariant_of-result g c = rw c.in_ok-try_clone.ensures c.self.invariant
