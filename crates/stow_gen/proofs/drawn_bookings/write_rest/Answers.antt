use Rattle.stow_gen.proofs.Joining.{ended, joined}
use Rattle.stow_gen.proofs.drawn_bookings.write_rest.Goals as goal

pub returns : goal.returns
returns c =
    let two = joined c.args.out.now c.write_told.new.out c.write_raw.new.out _ _ c.in_ok-write_told.ensures c.in_ok-write_raw.ensures in
    ended c.write_if.result c.args.out.now c.write_raw.new.out c.write_if.new.out _ _ two c.write_if.ensures
