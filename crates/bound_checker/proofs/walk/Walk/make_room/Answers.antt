use Rattle.std.proofs.Common.{refl}
use Rattle.bound_checker.proofs.LettingGo.{all_aside, stands_barer}
use Rattle.bound_checker.proofs.walk.Walk.make_room.Goals as goal

pub let_go_at-requires-clause-carries : goal.let_go_at-requires-clause-carries
let_go_at-requires-clause-carries c = let s = c.requires.stands in (c.args.self.now.b, (s.1.0.multipliers, s.1.2.carries))

pub let_go_at-requires-clause-aside : goal.let_go_at-requires-clause-aside
let_go_at-requires-clause-aside c = let s = c.requires.stands in all_aside c.args.model.now c.args.self.now c.args.self.now.frames.items s.0 s.1.0 s.1.1 s.1.2

pub returns-in_ok-let_go_at : goal.returns-in_ok-let_go_at
returns-in_ok-let_go_at c = λ f q qs stands.
    let w = c.args.self.now in
    stands_barer c.args.model.now w _ w.frames.items c.let_go_at.new.frames.items f q qs c.let_go_at.ensures.barer stands refl refl refl refl refl (c.in_ok-let_go_at.ensures.carries w.b q.multipliers stands.carries)
