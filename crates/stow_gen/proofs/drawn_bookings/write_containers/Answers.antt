use Rattle.std.proofs.Common.{◌<◌, ◌≤◌, arith}
use Rattle.stow_gen.proofs.Counting.{all_written, onward}
use Rattle.stow_gen.proofs.drawn_bookings.write_containers.Goals as goal

pub loop-index-preserved : goal.loop-index-preserved
loop-index-preserved c =
    let low : c.loop-index.index < 120 = omega arith in
    onward c.loop-index.out c.write_container.new.out _ c.loop-index.index c.loop-index.state c.draw_lot-lot.new.state c.draw_lot-lot.result low c.in_ok-write_container.ensures c.draw_lot-lot.ensures.drawn c.draw_lot-lot.ensures.state c.loop-index.invariant

pub returns : goal.returns
returns c =
    let high : 120 ≤ c.loop-index.index = omega arith in
    all_written c.loop-index.out _ c.loop-index.index _ c.loop-index.state high c.loop-index.invariant
