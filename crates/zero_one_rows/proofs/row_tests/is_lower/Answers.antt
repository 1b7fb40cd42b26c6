use Rattle.zero_one_rows.proofs.HalfStacks.{stack_of_half}
use Rattle.zero_one_rows.proofs.row_tests.is_lower.Goals as goal

pub stack_at-requires : goal.stack_at-requires
stack_at-requires g c = stack_of_half c.args.ship.now c.args.h c.half_at-half.result c.requires.1 c.half_at-half.ensures
