use Rattle.search_core.proofs.Standing
use Rattle.search_core.proofs.laws.keys_stand_for_nodes.Goals as goal

pub returns-clause-begins : goal.returns-clause-begins
returns-clause-begins g c = λ entry workers start budget. Standing.begins entry workers start budget

pub returns-clause-push : goal.returns-clause-push
returns-clause-push g c = λ entry c d i h. Standing.pushes entry c d i h

pub returns-clause-pop : goal.returns-clause-pop
returns-clause-pop g c = λ entry c d i h. Standing.pops entry c d i h

pub returns-clause-steal : goal.returns-clause-steal
returns-clause-steal g c = λ entry c d i victim h. Standing.steals entry c d i victim h

pub returns-clause-load : goal.returns-clause-load
returns-clause-load g c = λ entry c d i h. Standing.loads entry c d i h

pub returns-clause-draw : goal.returns-clause-draw
returns-clause-draw g c = λ entry c d i h. Standing.draws entry c d i h
