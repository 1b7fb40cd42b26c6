use Rattle.search_core.proofs.Grown.{ends, halves}
use Rattle.search_core.proofs.laws.ended_keys_are_ended_nodes.Goals as goal

pub returns-clause-ends : goal.returns-clause-ends
returns-clause-ends g c = λ entry s d i done stand h. ends entry s i done stand d h

pub returns-clause-halves : goal.returns-clause-halves
returns-clause-halves g c = λ entry s d i done stand h. halves entry s i done stand d h
