use Rattle.search_core.proofs.NodesTold.{alike, alike_tells, rows_told}
use Rattle.search_core.proofs.NodeTrails.{nodes_whole, entries_on_trail, left_on_trail, handled_allowed}
use Rattle.search_core.specs.Outcomes.{nodes_of}
use Rattle.search_core.proofs.machine_laws.handed_nodes_are_whole.Goals as goal

pub returns-clause-whole : goal.returns-clause-whole
returns-clause-whole g c = λ entries left whole. nodes_whole entries left whole

pub returns-clause-trails : goal.returns-clause-trails
returns-clause-trails g c = λ same tells entries left whole.
    (entries_on_trail (alike (rows_told same tells)) (alike_tells (rows_told same tells)) entries left whole, left_on_trail (alike (rows_told same tells)) (alike_tells (rows_told same tells)) entries left whole)

pub returns-clause-allowed : goal.returns-clause-allowed
returns-clause-allowed g c = λ same tells p bound entries left whole each.
    handled_allowed same p bound (nodes_of entries left) entries (entries_on_trail (alike (rows_told same tells)) (alike_tells (rows_told same tells)) entries left whole) each
