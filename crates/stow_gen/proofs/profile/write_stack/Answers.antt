use Rattle.stow_gen.proofs.Joining.{ended, joined}
use Rattle.stow_gen.proofs.profile.write_stack.Goals as goal

pub returns : goal.returns
returns c =
    let two = joined c.args.out.now c.write_told.new.out c.write_told-2.new.out _ _ c.in_ok-write_told.ensures c.in_ok-write_told-2.ensures in
    ended c.write_raw.result c.args.out.now c.write_told-2.new.out c.write_raw.new.out _ _ two c.write_raw.ensures
