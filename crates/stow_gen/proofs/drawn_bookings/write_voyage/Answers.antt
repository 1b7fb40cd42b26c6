use Rattle.stow_gen.specs.Bookings.{voyage_text}
use Rattle.stow_gen.proofs.Joining.{ended}
use Rattle.stow_gen.proofs.drawn_bookings.write_voyage.Goals as goal

pub returns : goal.returns
unfolding voyage_text
returns c = ended c.write_raw-2.result c.args.out.now c.write_raw.new.out c.write_raw-2.new.out _ _ c.in_ok-write_raw.ensures c.write_raw-2.ensures
