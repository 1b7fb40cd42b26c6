use Rattle.std.proofs.Common.{arith}
use Rattle.stow_data.proofs.Nines.{nines_small, nine_nines}
use Rattle.stow_data.proofs.digits.value_of.Goals as goal

pub overflow_mul-value : goal.overflow_mul-value
overflow_mul-value c = omega (arith, nines_small c.loop-byte.byte-index)

pub returns-clause-small : goal.returns-clause-small
returns-clause-small c = λ few. omega (arith, nine_nines c.loop-byte.byte-index, few)
