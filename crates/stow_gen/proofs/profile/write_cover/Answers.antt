use Rattle.stow_gen.proofs.Joining.{ended, joined}
use Rattle.stow_gen.proofs.profile.write_cover.Goals as goal

pub returns : goal.returns
returns c =
    let two = joined c.args.out.now c.write_raw.new.out c.write_pairs.new.out _ _ c.in_ok-write_raw.ensures c.in_ok-write_pairs.ensures in
    let three = joined c.args.out.now c.write_pairs.new.out c.write_raw-2.new.out _ _ two c.in_ok-write_raw-2.ensures in
    let four = joined c.args.out.now c.write_raw-2.new.out c.write_pairs-2.new.out _ _ three c.in_ok-write_pairs-2.ensures in
    ended c.write_raw-3.result c.args.out.now c.write_pairs-2.new.out c.write_raw-3.new.out _ _ four c.write_raw-3.ensures
