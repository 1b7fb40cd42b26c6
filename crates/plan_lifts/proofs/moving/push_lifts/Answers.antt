use Rattle.std.proofs.Common.{ℕ, ◌++◌, ◌&&◌, not, cond, Bool, refl, arith, ap, ◌∙◌}
use Rattle.voyage_meaning.specs.declared.moves.Move.TheVariants.{Lift}
use Rattle.plan_lifts.specs.Spread.{has}
use Rattle.plan_lifts.specs.Passes.{lifts_down}
use Rattle.plan_lifts.proofs.Sailing.{down_more, down_end}
use Rattle.plan_lifts.proofs.moving.push_lifts.Goals as goal

pub loop-done-preserved : goal.loop-done-preserved
loop-done-preserved c =
    let f : ℕ → Bool = λ (p : ℕ). has c.args.set.now p && cond c.args.on_deck (has c.args.deck.now p) (not (has c.args.deck.now p)) in
    down_more Lift f (lifts_down f) (λ k. refl) c.places-count.result c.loop-done.done c.is_in_part.result c.loop-done.moves c.push_where.new.moves _ c.loop-done-test.true c.loop-done.invariant c.is_in_part.ensures c.in_ok-push_where.ensures

pub returns : goal.returns
returns c =
    let f : ℕ → Bool = λ (p : ℕ). has c.args.set.now p && cond c.args.on_deck (has c.args.deck.now p) (not (has c.args.deck.now p)) in
    down_end (lifts_down f) refl c.places-count.result c.loop-done.done c.loop-done.moves _ (omega arith) c.loop-done.invariant ∙ ap (λ (n : ℕ). c.args.moves.now ++ lifts_down f n) c.places-count.ensures.number
