use Rattle.std.proofs.Common.{ℕ, ◌++◌, ◌-◌, cond, false, refl, sym, arith, ap, ◌∙◌}
use Rattle.std.proofs.lemmas.Option.{get_or_from_slice_get}
use Rattle.voyage_meaning.specs.declared.moves.Move.{Move}
use Rattle.voyage_meaning.specs.declared.moves.Move.TheVariants.{OffCover, OnCover}
use Rattle.plan_lifts.specs.Spread.{has}
use Rattle.plan_lifts.specs.Passes.{covers_down}
use Rattle.plan_lifts.proofs.Sailing.{down_more, down_end}
use Rattle.plan_lifts.proofs.moving.push_covers.Goals as goal

pub loop-done-preserved : goal.loop-done-preserved
loop-done-preserved c =
    let make : ℕ → Move = λ (k : ℕ). cond c.args.off (OffCover k) (OnCover k) in
    let made = rw c.cover_move.ensures at c.in_ok-push_where.ensures in
    down_more make (has c.args.opened.now) (covers_down make (has c.args.opened.now)) (λ k. refl) c.covers-count.result c.loop-done.done c.at.result.now c.loop-done.moves c.push_where.new.moves _ c.loop-done-test.true c.loop-done.invariant (sym (get_or_from_slice_get c.args.opened.now (c.covers-count.result - c.loop-done.done - 1) c.at.result.now false c.at.ensures)) made

pub returns : goal.returns
returns c =
    let make : ℕ → Move = λ (k : ℕ). cond c.args.off (OffCover k) (OnCover k) in
    down_end (covers_down make (has c.args.opened.now)) refl c.covers-count.result c.loop-done.done c.loop-done.moves _ (omega arith) c.loop-done.invariant ∙ ap (λ (n : ℕ). c.args.moves.now ++ covers_down make (has c.args.opened.now) n) c.covers-count.ensures
