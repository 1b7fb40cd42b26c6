use Rattle.stow_gen.proofs.Joining.{ended, joined}
use Rattle.stow_gen.proofs.drawn_bookings.write_container.Goals as goal

pub returns : goal.returns
returns c =
    let two = joined c.args.out.now c.write_raw.new.out c.write_seven_digits.new.out _ _ c.in_ok-write_raw.ensures c.in_ok-write_seven_digits.ensures in
    let three = joined c.args.out.now c.write_seven_digits.new.out c.write_calls.new.out _ _ two c.in_ok-write_calls.ensures in
    ended c.write_rest.result c.args.out.now c.write_calls.new.out c.write_rest.new.out _ _ three c.write_rest.ensures
