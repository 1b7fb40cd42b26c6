use Rattle.search_core.proofs.OneTree.{whole_gathers, located_as, one_tree}
use Rattle.search_core.proofs.Counting.{handled_count}
use Rattle.search_core.proofs.Settling.{journals_settle, journals_prove}
use Rattle.search_core.proofs.machine_laws.journals_are_a_tree.Goals as goal

pub returns-clause-tree : goal.returns-clause-tree
returns-clause-tree g c = λ entries left whole. whole_gathers entries left whole

pub returns-clause-records : goal.returns-clause-records
returns-clause-records g c = λ entries left t gathers h. located_as t _ h gathers

pub returns-clause-settled : goal.returns-clause-settled
returns-clause-settled g c = λ same p bound entries left t gathers each. journals_settle same p bound entries left t gathers each

pub returns-clause-proved : goal.returns-clause-proved
returns-clause-proved g c = λ same p bound entries t whole gathers each. journals_prove same p bound entries t whole gathers each

pub returns-clause-one : goal.returns-clause-one
returns-clause-one g c = λ nodes t s first second. one_tree nodes t s first second

pub returns-clause-handled : goal.returns-clause-handled
returns-clause-handled g c = λ entries left t whole gathers. handled_count entries left t whole gathers
