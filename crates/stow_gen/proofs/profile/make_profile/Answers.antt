use Rattle.stow_gen.specs.Profile.{profile_text}
use Rattle.stow_gen.proofs.Joining.{from_nothing, joined}
use Rattle.stow_gen.proofs.profile.make_profile.Goals as goal

pub returns : goal.returns
unfolding profile_text
returns c =
    let two = joined c.new-out.result c.write_raw.new.out c.write_stacks.new.out _ _ c.in_ok-write_raw.ensures c.in_ok-write_stacks.ensures in
    let three = joined c.new-out.result c.write_stacks.new.out c.write_stacks-2.new.out _ _ two c.in_ok-write_stacks-2.ensures in
    let four = joined c.new-out.result c.write_stacks-2.new.out c.write_covers.new.out _ _ three c.in_ok-write_covers.ensures in
    from_nothing c.new-out.result c.write_covers.new.out _ c.new-out.ensures four
