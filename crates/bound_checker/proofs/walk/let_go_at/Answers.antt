use Rattle.bound_checker.proofs.LettingGo.{barer_same, barer_more}
use Rattle.bound_checker.proofs.walk.let_go_at.Goals as goal

pub returns-clause-barer : goal.returns-clause-barer
returns-clause-barer c = barer_more c.args.frames.now.items c.args.frames.now.items c.args.place c.index_mut.result.now c.let_go.new.frame c.requires.place c.index_mut.ensures.value c.let_go.ensures.bare (barer_same c.args.frames.now.items)
