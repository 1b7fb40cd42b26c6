use Rattle.row_sums.proofs.Telling.{has_room, tell}
use Rattle.row_sums.proofs.laws.numbers_tell_sums.Goals as goal

pub returns-clause-room : goal.returns-clause-room
returns-clause-room c = has_room

pub returns-clause-tell : goal.returns-clause-tell
returns-clause-tell c = tell
