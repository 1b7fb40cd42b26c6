use Rattle.search_core.proofs.NodesTold.{alike, alike_tells, rows_told}
use Rattle.search_core.proofs.Along.{each_of_its_node}
use Rattle.search_core.proofs.machine_laws.records_are_of_nodes.Goals as goal

pub returns : goal.returns
returns g c = λ same tells p entries left t whole gathers. each_of_its_node same p (alike (rows_told same tells)) (alike_tells (rows_told same tells)) entries left whole t gathers
