use Rattle.std.proofs.Common.{◌≡◌, ◌<◌, ◌++◌, ◌∷◌, [], ap, arith, inr, length, subst, sym}
use Rattle.std.specs.Prelude.{All, Any}
use Rattle.crane_lists.specs.Sharing.{IsFar, IsMaking, IsNear}
use Rattle.crane_lists.proofs.Making.{making_with, making_without, near_in}
use Rattle.crane_lists.proofs.rounds.consider.Goals as goal

pub returns-then-has_near-clause-makes : goal.returns-then-has_near-clause-makes
returns-then-has_near-clause-makes c = λ tried m. making_without c.args.ship.now c.args.tasks.now c.args.cranes c.args.board.now.done tried c.args.round.now.items c.args.j m
    (inr (inr (inr (near_in c.args.ship.now c.args.tasks.now c.args.j c.args.round.now.items (subst (Any (IsNear c.args.ship.now c.args.tasks.now c.args.j)) c.as_slice.ensures.value c.if-has_near.ensures)))))

pub returns-clause-makes : goal.returns-clause-makes
returns-clause-makes c = λ tried m.
    let far = subst (All (IsFar c.args.ship.now c.args.tasks.now c.args.j)) c.as_slice.ensures.value c.if-has_near.ensures in
    let same : length c.as_slice.result.now ≡ length c.args.round.now.items = ap length c.as_slice.ensures.value in
    let len = c.as_slice.ensures.len in
    let room : length c.args.round.now.items < c.args.cranes = omega (arith, c.if-len-cranes.false, c.len.ensures, len, same) in
    subst (IsMaking c.args.ship.now c.args.tasks.now c.args.cranes c.args.board.now.done (tried ++ c.args.j ∷ [])) (sym c.in_ok-enter.ensures)
    (making_with c.args.ship.now c.args.tasks.now c.args.cranes c.args.board.now.done tried c.args.round.now.items c.args.j m c.if-not-may_go.ensures.answer room far)
