use Rattle.std.proofs.Common.{arith}
use Rattle.zero_one_rows.proofs.HalfStacks.{stack_of_half}
use Rattle.zero_one_rows.proofs.which_rows.has_above.Goals as goal

pub stack_at-requires : goal.stack_at-requires
stack_at-requires g c = stack_of_half c.args.ship.now c.args.h c.half_at-half.result (omega (arith, c.if-h-halves.false, c.halves.ensures)) c.half_at-half.ensures
