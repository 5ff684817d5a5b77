use Rattle.xet_chunker.proofs.Cuts.Window.{one_more, two_more, three_more, four_more}
use Rattle.xet_chunker.proofs.gear.next_four.Goals as goal

pub returns-clause-one : goal.returns-clause-one
returns-clause-one c = one_more c.args.gear _ c.args.first c.table_at-one.ensures

pub returns-clause-two : goal.returns-clause-two
returns-clause-two c = two_more c.args.gear _ _ c.args.second c.table_at.ensures

pub returns-clause-three : goal.returns-clause-three
returns-clause-three c = three_more c.args.gear _ _ c.args.third c.table_at-2.ensures

pub returns-clause-four : goal.returns-clause-four
returns-clause-four c = four_more c.args.gear _ _ c.args.fourth c.table_at-3.ensures
