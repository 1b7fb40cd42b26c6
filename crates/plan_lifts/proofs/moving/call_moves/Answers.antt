use Rattle.std.specs.Prelude.{◌≡◌, List}
use Rattle.voyage_meaning.specs.declared.moves.Move.{Move}
use Rattle.plan_lifts.specs.Spread.{has}
use Rattle.plan_lifts.specs.Passes.{IsCallMoves, passes}
use Rattle.plan_lifts.proofs.LiftsHold.{then_ok}
use Rattle.plan_lifts.proofs.moving.call_moves.Goals as goal

pub returns : goal.returns
returns c =
    let s = c.in_ok-sets.sets in
    then_ok
    (λ (moves : List Move). moves ≡ passes c.args.ship.now c.args.after.now (has s.lifted) (has s.deck) (has s.opened) (has s.due))
    (λ (moves : List Move). IsCallMoves c.args.ship.now c.args.before.now c.args.after.now c.args.list.now moves)
    c.passes_of.result
    (λ moves made. record { lifted = has s.lifted; moved = has s.moved; deck = has s.deck; opened = has s.opened; due = has s.due; listed = c.in_ok-sets.ensures.listed; sets = c.in_ok-sets.ensures.sets; made = made })
    c.passes_of.ensures
