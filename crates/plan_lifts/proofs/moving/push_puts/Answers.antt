use Rattle.std.proofs.Common.{ℕ, ◌&&◌, not, cond, Bool, arith, length}
use Rattle.stow_data.specs.Ship.{places}
use Rattle.plan_lifts.specs.Spread.{has}
use Rattle.plan_lifts.proofs.Sailing.{up_more, up_end}
use Rattle.plan_lifts.proofs.moving.push_puts.Goals as goal

pub loop-p-preserved : goal.loop-p-preserved
loop-p-preserved c =
    let f : ℕ → Bool = λ (p : ℕ). has c.args.set.now p && cond c.args.on_deck (has c.args.deck.now p) (not (has c.args.deck.now p)) in
    up_more f c.args.plan.now (length (places c.args.ship.now)) c.loop-p.p c.is_in_part.result c.loop-p.moves c.push_put.new.moves _ (omega arith) c.loop-p.invariant c.is_in_part.ensures c.in_ok-push_put.ensures

pub returns : goal.returns
returns c =
    let f : ℕ → Bool = λ (p : ℕ). has c.args.set.now p && cond c.args.on_deck (has c.args.deck.now p) (not (has c.args.deck.now p)) in
    up_end f c.args.plan.now (length (places c.args.ship.now)) c.loop-p.p c.loop-p.moves _ (omega arith) c.loop-p.invariant
