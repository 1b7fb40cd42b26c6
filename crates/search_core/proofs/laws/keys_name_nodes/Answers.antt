use Rattle.search_core.proofs.Named
use Rattle.search_core.proofs.laws.keys_name_nodes.Goals as goal

pub returns-clause-begins : goal.returns-clause-begins
returns-clause-begins g c = λ workers start budget. Named.begins workers start budget

pub returns-clause-push : goal.returns-clause-push
returns-clause-push g c = λ s d i stand h. Named.pushes s d i stand h

pub returns-clause-pop : goal.returns-clause-pop
returns-clause-pop g c = λ s d i stand h. Named.pops s d i stand h

pub returns-clause-steal : goal.returns-clause-steal
returns-clause-steal g c = λ s d i victim stand h. Named.steals s d i victim stand h

pub returns-clause-load : goal.returns-clause-load
returns-clause-load g c = λ s d i stand h. Named.loads s d i stand h

pub returns-clause-draw : goal.returns-clause-draw
returns-clause-draw g c = λ s d i stand h. Named.draws s d i stand h

pub returns-clause-ends : goal.returns-clause-ends
returns-clause-ends g c = λ s d i n done stand h. Named.ends s d i n done stand h

pub returns-clause-halves : goal.returns-clause-halves
returns-clause-halves g c = λ s d i n done stand h. Named.halves s d i n done stand h
