use Rattle.upload_session.proofs.PlacingEach.{associate, commute, each-none, each-run, puts-joined, puts-rise}
use Rattle.upload_session.proofs.laws.lists_may_be_joined_in_any_order.Goals as goal

pub returns-clause-commutative : goal.returns-clause-commutative
returns-clause-commutative c = commute

pub returns-clause-associative : goal.returns-clause-associative
returns-clause-associative c = associate

pub returns-clause-neutral : goal.returns-clause-neutral
returns-clause-neutral c = each-none

pub returns-clause-put : goal.returns-clause-put
returns-clause-put c = λ placed others first chunks some free. each-run placed first chunks others some free

pub returns-clause-puts : goal.returns-clause-puts
returns-clause-puts c = λ puts more placed others were these apart.
    (puts-joined puts more placed others were these apart, puts-rise puts placed were)
