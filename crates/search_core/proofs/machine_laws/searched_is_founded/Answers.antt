use Rattle.search_core.proofs.FullBoxes.{offers_solve}
use Rattle.search_core.proofs.NodesTold.{alike, alike_tells, rows_told}
use Rattle.search_core.proofs.Foundation.{founded}
use Rattle.search_core.proofs.machine_laws.searched_is_founded.Goals as goal

pub returns : goal.returns
returns g c = λ same p base solves costs tells entries left start budget best searched.
    founded same p base (offers_solve same p base solves costs) (alike (rows_told same tells)) (alike_tells (rows_told same tells)) entries left start budget best searched
